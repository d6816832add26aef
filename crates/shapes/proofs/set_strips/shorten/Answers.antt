-- `shapes::set_strips::shorten` meets its contract. Assumes nothing.
use mathlib.Core.Path.{subst, ◌≡◌}
use lib.ListN.{take}
use Rattle.strips.proofs.EdgeTable.{ends-stored}
use native.Mathlib.Omega.{arith}
use Prim.Native.Nat.{ℕ}
use Rattle.shapes.proofs.set_strips.shorten.Goals as goal

pub overflow_cast-short : goal.overflow_cast-short
overflow_cast-short c = let h = c.requires.2 c.loop-i.i (omega arith) in omega (arith, h)

pub loop-i-preserved : goal.loop-i-preserved
loop-i-preserved c = ends-stored c.loop-i.short c.args.ends.now c.loop-i.i (omega arith) (omega arith) c.loop-i.invariant

pub returns : goal.returns
returns c = let e : c.loop-i.i ≡ c.args.n = omega arith in
    subst (λ (k : ℕ). take k c.loop-i.short ≡ take k c.args.ends.now) e c.loop-i.invariant
