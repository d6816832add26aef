-- `bits::judge_coordinate` meets its contract: its limits are those that document 01 writes. Assumes nothing.
use lib.Ieee.{neg, of_int, of_bits}
use Rattle.bits.proofs.judge_coordinate.Goals as goal

pub returns : goal.returns
unfolding neg of_int of_bits
returns c = c.judge_number.ensures
