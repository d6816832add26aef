-- `slabs::xs::insert_x` meets its contract. Assumes nothing.
use Prim.Native.Nat.{◌+◌, ◌-◌}
use lib.Ieee.{lt}
use mathlib.Core.Path.{◌≡◌, ◌∙◌}
use mathlib.Core.Logic.{inl, inr}
use native.Mathlib.Omega.{arith}
use Rattle.slabs.proofs.Sorting.{over_start}
use Rattle.slabs.specs.Slab.{insert}
use Rattle.slabs.specs.inner.Tables.{down}
use Rattle.slabs.proofs.xs.Lines.{at, insert-number, insert-number-last}
use Rattle.slabs.proofs.xs.insert_x.Goals as goal

pub loop-k-init : goal.loop-k-init
loop-k-init c = let a = c.args in over_start (at a.line.now) a.n (insert lt a.x (down (at a.line.now) a.n))

pub returns-then-not-b-x : goal.returns-then-not-b-x
returns-then-not-b-x c = let l = c.loop-k in let a = c.args in
    let e : l.k - 1 + 1 ≡ l.k = omega arith in
    rw e (insert-number-last l.line a.n l.k a.x (omega arith) (omega arith) (inr c.if-not-b-x.true) ∙ l.invariant)

pub loop-k-preserved : goal.loop-k-preserved
loop-k-preserved c = let l = c.loop-k in let a = c.args in
    let e : l.k - 1 + 1 ≡ l.k = omega arith in
    rw e (insert-number l.line a.n l.k a.x (omega arith) (omega arith) (omega arith) c.if-not-b-x.false ∙ l.invariant)

pub returns : goal.returns
returns c = let l = c.loop-k in let a = c.args in
    let z : l.k ≡ 0 = omega arith in
    (rw z at (insert-number-last l.line a.n l.k a.x (omega arith) (omega arith) (inl z))) ∙ (rw z at l.invariant)
