-- `judge_text::number_room`: zeros, as many as the definition has. Assumes nothing.
use mathlib.Core.Path.{refl}
use Rattle.judge_text.specs.inner.Room.{number_room}
use Rattle.judge_text.proofs.number_room.Goals as goal

pub returns : goal.returns
unfolding number_room
returns c = refl
