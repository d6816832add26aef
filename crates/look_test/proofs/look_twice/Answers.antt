-- `look_test::look_twice` meets its contract. Assumes nothing.
use native.Mathlib.Omega.{arith}
use lib.ListN.{length-take}
use Rattle.look_test.proofs.look_twice.Goals as goal

pub slice_bounds-look_at-end-then-n-gt0 : goal.slice_bounds-look_at-end-then-n-gt0
slice_bounds-look_at-end-then-n-gt0 c = simp length-take (omega arith)
