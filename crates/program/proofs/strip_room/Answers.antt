-- `program::strip_room`: zeros, as many as the definition has. Assumes nothing.
use mathlib.Core.Path.{refl}
use lib.Ieee.{of_bits}
use Rattle.plan_text.specs.Program.{strip_room}
use Rattle.program.proofs.strip_room.Goals as goal

pub returns : goal.returns
unfolding of_bits strip_room
returns c = refl
