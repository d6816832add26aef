-- What a computed claim opens, of the definitions in specs/. Assumes nothing.
use Rattle.trapezoid.specs.Strip.{strip_at, flat, capacity, heights_at, moved_by, part_of}

unfoldable pub strip_computes : Unit {0}
unfolding strip_at flat capacity heights_at moved_by part_of
strip_computes = tt
