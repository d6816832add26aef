-- `judge_text::print_judgement::buffer` meets its contract. Assumes nothing.
use Prim.Native.Nat.{ℕ}
use mathlib.Core.Path.{sym}
use lib.ListN.{length-replicate}
use Rattle.judge_text.proofs.print_judgement.buffer.Goals as goal

pub returns : goal.returns
returns c = sym (length-replicate {A = ℕ} 64 0)
