-- `program::interval_room`: zeros, as many as the definition has. Assumes nothing.
use mathlib.Core.Path.{refl}
use lib.Ieee.{of_bits}
use Rattle.plan_text.specs.Program.{interval_room}
use Rattle.program.proofs.interval_room.Goals as goal

pub returns : goal.returns
unfolding of_bits interval_room
returns c = refl
