use lib.Ieee.{Float, lt}
use Rattle.numbers.specs.Numbers.{larger}
use Rattle.index.specs.Buckets.{index_of}
use borrow.Author.Rules.{rules}
use Rattle.index.proofs.Index.new.Goals as goal

pub int_to_float-share : goal.int_to_float-share
unfolding lib.Ieee.in_float
int_to_float-share c = search rules

pub returns : goal.returns
unfolding index_of larger
returns c = rw c.larger-width.ensures
