-- What a computed claim opens, of the definitions in specs/. Assumes nothing.
use Rattle.look.specs.Looking.{counted_in}

unfoldable pub looking_computes : Unit {0}
unfolding counted_in
looking_computes = tt
