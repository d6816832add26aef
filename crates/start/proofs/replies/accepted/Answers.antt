-- `start::replies::accepted` meets its contract. Assumes nothing.
use mathlib.Core.Path.{refl}
use Rattle.filling.specs.State.{empty_layout}
use Rattle.start.specs.replies.inner.Answers.{started_with}
use Rattle.start.proofs.replies.accepted.Goals as goal

pub returns : goal.returns
unfolding started_with empty_layout lib.Ieee.of_bits
returns c = refl
