-- What a computed claim opens, of the definitions in specs/. Assumes nothing.
use Rattle.look.specs.height.Smallest.{inside, outside, candidates, least, next_bottom, clear_above, free_at, lowest, height_of}

unfoldable pub height_computes : Unit {0}
unfolding inside outside candidates least next_bottom clear_above free_at lowest height_of
height_computes = tt
