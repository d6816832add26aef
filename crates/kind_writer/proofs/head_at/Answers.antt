-- `kind_writer::head_at` meets its contract. Assumes nothing.
use lib.Ieee.{of_bits}
use Rattle.kind_writer.proofs.HeadLaws.{head_is}
use Rattle.kind_writer.proofs.head_at.Goals as goal

pub returns : goal.returns
unfolding of_bits
returns c =
    head_is _ _ _ _ _ _ _ _ c.value_at.ensures c.value_at-2.ensures c.value_at-3.ensures c.value_at-5.ensures c.value_at-4.ensures
