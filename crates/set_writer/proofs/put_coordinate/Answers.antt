-- `set_writer::put_coordinate` meets its contract. Assumes nothing.
use Rattle.std.proofs.Common.{rules}
use lib.Ieee.{of_bits}
use Rattle.set_writer.proofs.Numbers.{coordinate_put, coordinate_not}
use Rattle.set_writer.proofs.put_coordinate.Goals as goal

pub returns-in_err-v : goal.returns-in_err-v
unfolding of_bits
returns-in_err-v c =
    search (rules, coordinate_not _ c.args.w c.args.out.now _ _ _ _ c.value_at-x.ensures c.bits_of.ensures c.judge_coordinate.ensures c.in_err-v.was)

pub returns : goal.returns
unfolding of_bits
returns c =
    coordinate_put _ _ _ _ _ _ _ _ _ _ c.value_at-x.ensures c.bits_of.ensures c.judge_coordinate.ensures c.in_ok-v.was c.bits_of-2.ensures c.put-writer.ensures
