-- What a computed claim opens, of the definitions in specs/. Assumes nothing.
use Rattle.strips.specs.Strips.{x_of, y_of, widened, bounds_on, bounds, frame, distinct_from, distinct, xs, strips_between, slabs, edge, after, loop_edges, edges}
use Rattle.strips.specs.Strips.{trapezoids}

unfoldable pub strips_compute : Unit {0}
unfolding x_of y_of widened bounds_on bounds frame distinct_from distinct xs strips_between slabs edge after loop_edges edges trapezoids
strips_compute = tt
