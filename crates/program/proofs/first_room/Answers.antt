-- `program::first_room`: zeros, as many as the definition has. Assumes nothing.
use mathlib.Core.Path.{refl}
use Rattle.plan_text.specs.Program.{first_room}
use Rattle.program.proofs.first_room.Goals as goal

pub returns : goal.returns
unfolding first_room
returns c = refl
