use native.Mathlib.Omega.{arith}
use Rattle.look.proofs.height.Rearranging.{rearranged-refl, rearranged_trans}
use Rattle.look.proofs.height.heapify.Goals as goal

pub loop-start-init : goal.loop-start-init
loop-start-init c = rearranged-refl _ _

pub sift_down-requires : goal.sift_down-requires
sift_down-requires c = omega (arith, c.loop-start.invariant.size, c.requires)

pub loop-start-preserved : goal.loop-start-preserved
loop-start-preserved c = rearranged_trans _ _ _ _ c.loop-start.invariant c.sift_down.ensures

pub shape_of-room : goal.shape_of-room
shape_of-room c = c.loop-start.invariant.size

pub returns : goal.returns
returns c = c.loop-start.invariant
