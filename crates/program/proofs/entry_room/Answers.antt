-- `program::entry_room`: zeros, as many as the definition has. Assumes nothing.
use mathlib.Core.Path.{refl}
use Rattle.plan_text.specs.Program.{entry_room}
use Rattle.program.proofs.entry_room.Goals as goal

pub returns : goal.returns
unfolding entry_room
returns c = refl
