-- `strips_test::try_set` meets its contract. Assumes nothing.
use native.Mathlib.Omega.{arith}
use Rattle.strips_test.proofs.try_set.Goals as goal

pub frame_points-requires : goal.frame_points-requires
frame_points-requires c = (c.requires.1, c.requires.2, c.loops_lie.ensures c.if-loops_lie.true)

pub replay-requires : goal.replay-requires
replay-requires c = (
  c.if-n-gt0.true,
  c.requires.0,
  omega (arith, c.requires.1, c.frame_points.auto.points),
  c.loops_lie.ensures c.if-loops_lie.true,
)
