-- `frames::put_point` meets its contract. Assumes nothing.
use mathlib.Core.Path.{refl}
use native.Mathlib.Omega.{arith}
use lib.ListN.{length-set}
use Rattle.frames.specs.inner.Turning.{set_point}
use Rattle.frames.proofs.put_point.Goals as goal

pub bounds-points-at-2 : goal.bounds-points-at-2
bounds-points-at-2 c = simp length-set (omega arith)

pub returns : goal.returns
unfolding set_point
returns c = refl
