-- `consistent::strip_tests::resolution_fits` meets its contract. Assumes nothing.
use mathlib.Core.Path.{sym, ◌∙◌}
use lib.Ieee.{div, of_int, of_bits}
use Rattle.numbers.proofs.Truth.{holds}
use Rattle.consistent.proofs.strip_tests.Bounding.{never, resolution-low, resolution-rest}
use Rattle.consistent.proofs.strip_tests.resolution_fits.Goals as goal

pub returns-then-x : goal.returns-then-x
unfolding div of_int of_bits
returns-then-x c = resolution-rest c.args.x (holds c.well_formed.0.1) c.if-x.true

pub returns-else-x : goal.returns-else-x
unfolding div of_int of_bits
returns-else-x c = (c.if-x.false ∙ sym (resolution-low c.args.x c.if-x.false), λ e. never (sym c.if-x.false ∙ e))
