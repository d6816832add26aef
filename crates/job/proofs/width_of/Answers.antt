-- `job::width_of` meets its contract. Assumes nothing.
use native.Mathlib.Omega.{arith}
use mathlib.Core.Path.{refl, ◌∙◌}
use lib.Ieee.{of_bits}
use Rattle.job.specs.Jobs.{left, right}
use Rattle.job.proofs.Whole.{left_more, right_more}
use Rattle.job.proofs.width_of.Goals as goal

pub loop-i-init : goal.loop-i-init
unfolding left right of_bits
loop-i-init c = (refl, refl, omega arith)

pub loop-i-preserved : goal.loop-i-preserved
loop-i-preserved c = (
  c.smaller-left.ensures ∙ left_more c.args.room.now c.loop-i.i c.loop-i.left c.loop-i.invariant.0,
  c.larger-right.ensures ∙ right_more c.args.room.now c.loop-i.i c.loop-i.right c.loop-i.invariant.1,
  omega arith,
)
