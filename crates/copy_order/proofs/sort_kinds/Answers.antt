-- `copy_order::sort_kinds` meets its contract. Assumes nothing.
use Prim.Native.Nat.{ℕ}
use mathlib.Core.Path.{refl, ◌∙◌}
use native.Mathlib.Omega.{arith}
use Rattle.nesting.specs.CopyOrder.{ahead}
use Rattle.copy_order.specs.inner.KindTables.{numbered_at}
use Rattle.copy_order.proofs.Lines.{at, sorted_none, sorted_more, sorted_all}
use Rattle.copy_order.proofs.sort_kinds.Goals as goal

pub loop-k-init : goal.loop-k-init
loop-k-init c = (
  omega arith,
  refl,
  λ q h. absurd (omega arith),
  sorted_none ahead (numbered_at c.args.rows.now c.args.areas.now)
      (λ (q : ℕ). (numbered_at c.args.rows.now c.args.areas.now) (at c.args.line.now q)) c.args.kinds,
)

pub loop-k-preserved : goal.loop-k-preserved
loop-k-preserved c = let l = c.loop-k in let g = c.insert_kind in (
  omega arith,
  g.auto.line ∙ l.invariant.1,
  λ q h. g.ensures.1 q (omega arith),
  sorted_more ahead (numbered_at c.args.rows.now c.args.areas.now)
      (λ (q : ℕ). (numbered_at c.args.rows.now c.args.areas.now) (at l.line q))
      (λ (q : ℕ). (numbered_at c.args.rows.now c.args.areas.now) (at g.new.line q)) l.k c.args.kinds (omega arith) l.invariant.0
      g.ensures.0 l.invariant.3,
)

pub returns : goal.returns
returns c = (
  sorted_all ahead (numbered_at c.args.rows.now c.args.areas.now)
      (λ (q : ℕ). (numbered_at c.args.rows.now c.args.areas.now) (at c.loop-k.line q)) c.loop-k.k c.args.kinds (omega arith)
      c.loop-k.invariant.3,
  λ q h. c.loop-k.invariant.2 q (omega arith),
)
