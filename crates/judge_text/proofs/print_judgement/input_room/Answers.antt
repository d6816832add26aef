-- `judge_text::print_judgement::input_room` meets its contract. Assumes nothing.
use Prim.Native.Nat.{ℕ}
use mathlib.Core.Path.{sym}
use lib.ListN.{length-replicate}
use Rattle.judge_text.proofs.print_judgement.input_room.Goals as goal

pub returns : goal.returns
returns c = sym (length-replicate {A = ℕ} 589825 0)
