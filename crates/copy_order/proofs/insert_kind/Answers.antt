-- `copy_order::insert_kind` meets its contract. Assumes nothing.
use Prim.Native.Nat.{ℕ, ◌-◌, ◌+◌}
use lib.ListN.{length-set}
use mathlib.Core.Path.{◌≡◌, refl, sym, ◌∙◌}
use mathlib.Core.Logic.{inl, inr}
use native.Mathlib.Omega.{arith}
use Rattle.slabs.proofs.Sorting.{over_start}
use Rattle.nesting.specs.CopyOrder.{ahead}
use Rattle.copy_order.specs.inner.KindTables.{numbered_at}
use Rattle.copy_order.proofs.Lines.{at, insert-number, insert-number-last, put_under}
use Rattle.copy_order.proofs.insert_kind.Goals as goal

pub loop-i-init : goal.loop-i-init
loop-i-init c = let a = c.args in (omega arith, refl, λ q h e. c.requires.4 q (omega arith), over_start (λ (q : ℕ). numbered_at a.rows.now a.areas.now (at a.line.now q)) a.n _)

pub returns-then-not-ahead : goal.returns-then-not-ahead
returns-then-not-ahead c = let l = c.loop-i in let a = c.args in
    let z : l.i - 1 + 1 ≡ l.i = omega arith in
    rw z (
      insert-number-last ahead (numbered_at a.rows.now a.areas.now) l.line a.n l.i a.k (omega arith) (omega arith) (inr (sym c.ahead.ensures ∙ c.if-not-ahead.true)) ∙ l.invariant.3,
      λ q h. put_under l.line 64 (a.n + 1) l.i a.k c.requires.0 (λ q' h' e'. l.invariant.2 q' h' e') (omega arith) q h,
    )

pub loop-i-preserved : goal.loop-i-preserved
loop-i-preserved c = let l = c.loop-i in let a = c.args in
    let z : l.i - 1 + 1 ≡ l.i = omega arith in
    rw z (
      omega arith,
      length-set l.line l.i (at l.line (l.i - 1)) ∙ l.invariant.1,
      λ q h e. put_under l.line 64 (a.n + 1) l.i (at l.line (l.i - 1)) (l.invariant.2 (l.i - 1) (omega arith) (omega arith)) (λ q' h' e'. l.invariant.2 q' h' e') (omega arith) q h,
      insert-number ahead (numbered_at a.rows.now a.areas.now) l.line a.n l.i (numbered_at a.rows.now a.areas.now a.k) (omega arith) l.invariant.0 (omega arith) (sym c.ahead.ensures ∙ c.if-not-ahead.false) ∙ l.invariant.3,
    )

pub returns : goal.returns
returns c = let l = c.loop-i in let a = c.args in
    let z : l.i ≡ 0 = omega arith in (
      (rw z at (insert-number-last ahead (numbered_at a.rows.now a.areas.now) l.line a.n l.i a.k l.invariant.0 (omega arith) (inl z))) ∙ (rw z at l.invariant.3),
      λ q h. put_under l.line 64 (a.n + 1) 0 a.k c.requires.0 (λ q' h' e'. l.invariant.2 q' h' (λ e. e' (e ∙ z))) (omega arith) q h,
    )
