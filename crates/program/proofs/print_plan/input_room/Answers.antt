-- `program::print_plan::input_room` meets its contract. Assumes nothing.
use Prim.Native.Nat.{ℕ}
use mathlib.Core.Path.{sym}
use lib.ListN.{length-replicate}
use Rattle.program.proofs.print_plan.input_room.Goals as goal

pub returns : goal.returns
returns c = sym (length-replicate {A = ℕ} 65537 0)
