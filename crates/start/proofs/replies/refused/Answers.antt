-- `start::replies::refused` meets its contract. Assumes nothing.
use mathlib.Core.Path.{refl}
use Rattle.filling.specs.Shapes.{no_bounds}
use Rattle.filling.specs.State.{empty_layout, zero_tables, zero_state}
use Rattle.start.specs.replies.inner.Answers.{not_started}
use Rattle.start.proofs.replies.refused.Goals as goal

pub returns : goal.returns
unfolding not_started zero_state zero_tables no_bounds empty_layout lib.Ieee.of_bits
returns c = refl
