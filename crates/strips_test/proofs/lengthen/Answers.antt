-- `strips_test::lengthen` meets its contract. Assumes nothing.
use mathlib.Core.Path.{◌≡◌, refl, subst, ◌∙◌}
use lib.Seq.{take_all}
use Rattle.strips.proofs.EdgeTable.{ends-stored}
use native.Mathlib.Omega.{arith}
use Prim.Native.Nat.{ℕ}
use lib.ListN.{length, get_or, take, length-set}
use Rattle.strips_test.proofs.lengthen.Goals as goal

pub loop-i-init : goal.loop-i-init
loop-i-init c = (omega arith, refl, refl)

pub loop-i-preserved : goal.loop-i-preserved
loop-i-preserved c = rw c.from.ensures (
  omega arith,
  ends-stored c.loop-i.long c.args.ends.now c.loop-i.i (omega (arith, c.loop-i.invariant.2, c.requires)) (omega arith) c.loop-i.invariant.1,
  length-set c.loop-i.long c.loop-i.i (get_or c.args.ends.now c.loop-i.i 0) ∙ c.loop-i.invariant.2,
)

pub shape_of-long : goal.shape_of-long
shape_of-long c = c.loop-i.invariant.2

pub returns : goal.returns
returns c = let e : c.loop-i.i ≡ length c.args.ends.now = omega arith in
    subst (λ (k : ℕ). take k c.loop-i.long ≡ take k c.args.ends.now) e c.loop-i.invariant.1 ∙ take_all (length c.args.ends.now)
    c.args.ends.now (omega arith)
