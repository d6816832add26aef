-- What a computed claim opens, of the definitions in specs/. Assumes nothing.
use Rattle.slabs.specs.Slab.{up, insert, sort, spans, height_at, direction, crossing, positive, ahead, before, spanning, crossings, strip, kept, piece}
use Rattle.slabs.specs.Slab.{runs, walk, slab}

unfoldable pub slab_computes : Unit {0}
unfolding up insert sort spans height_at direction crossing positive ahead before spanning crossings strip kept piece runs walk slab
slab_computes = tt
