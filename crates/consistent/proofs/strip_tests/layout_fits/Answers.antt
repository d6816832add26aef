use Rattle.std.proofs.Common.{arith}
use Rattle.std.proofs.lemmas.Grind.{common_steps}
use lib.Ieee.{of_int, of_bits}
use Rattle.filling.specs.Consistent.{layout_fits}
use Rattle.consistent.proofs.strip_tests.layout_fits.Goals as goal

pub returns-then-area : goal.returns-then-area
unfolding layout_fits of_int of_bits
returns-then-area c = grind (arith, common_steps)

pub returns-else-area : goal.returns-else-area
unfolding layout_fits of_int of_bits
returns-else-area c = grind (arith, common_steps)
