-- `program::position_room`: zeros, as many as the definition has. Assumes nothing.
use mathlib.Core.Path.{refl}
use lib.Ieee.{of_bits}
use Rattle.plan_text.specs.Program.{position_room}
use Rattle.program.proofs.position_room.Goals as goal

pub returns : goal.returns
unfolding of_bits position_room
returns c = refl
