-- `consistent::strip_tests::gap_fits` meets its contract. Assumes nothing.
use lib.Ieee.{of_int, of_bits}
use Rattle.filling.specs.Consistent.{gap_fits}
use Rattle.consistent.proofs.strip_tests.gap_fits.Goals as goal

pub returns-then-gap : goal.returns-then-gap
unfolding gap_fits of_int of_bits
returns-then-gap c = rw c.if-gap.true

pub returns-else-gap : goal.returns-else-gap
unfolding gap_fits of_int of_bits
returns-else-gap c = rw c.if-gap.false
