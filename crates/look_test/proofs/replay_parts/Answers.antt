-- `look_test::replay_parts` meets its contract. Assumes nothing.
use native.Mathlib.Omega.{arith}
use lib.ListN.{length-take, length-drop}
use Rattle.look_test.proofs.replay_parts.Goals as goal

pub slice_bounds-replay-end : goal.slice_bounds-replay-end
slice_bounds-replay-end c = simp length-take (omega arith)

pub slice_bounds-replay-end-6 : goal.slice_bounds-replay-end-6
slice_bounds-replay-end-6 c = simp length-take (omega arith)

pub replay-requires : goal.replay-requires
replay-requires c = let p = c.requires in
    (p.0, simp length-take (omega arith), simp (length-take, length-drop) (omega arith))
