-- What a computed claim opens, of the definitions in specs/. Assumes nothing.
use Rattle.bits.proofs.Computing.{fields_compute}
use Rattle.kinds.specs.sets.Sets.{some_points, a_loop, some_loops, a_set}

unfoldable pub sets_compute : Unit {0}
unfolding fields_compute some_points a_loop some_loops a_set
sets_compute = tt
