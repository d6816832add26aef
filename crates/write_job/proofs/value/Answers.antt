-- `write_job::value` meets its contract. Assumes nothing.
use lib.Ieee.{of_bits}
use Rattle.write_job.proofs.HeaderLaws.{value_is}
use Rattle.write_job.proofs.value.Goals as goal

pub returns : goal.returns
unfolding of_bits
returns c = value_is _ _ _ _ c.bits_of.ensures c.from_bits.ensures c.unwrap_or.ensures
