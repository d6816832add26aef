-- `strips_test::replay` meets its contract. Assumes nothing.
use native.Mathlib.Omega.{arith}
use lib.ListN.{length-replicate}
use Rattle.strips_test.proofs.replay.Goals as goal

pub trapezoids-stored-requires : goal.trapezoids-stored-requires
trapezoids-stored-requires c = let p = c.requires in
    (p.0, p.2, p.3, simp length-replicate (omega (arith, p.1)), simp length-replicate (omega (arith, p.1)), simp length-replicate (omega (arith, p.1)), omega arith)
