-- `slabs::one_slab` meets its contract. Assumes nothing.
use mathlib.Core.Path.{ap, ◌∙◌}
use mathlib.Core.List.{List}
use lib.IntN.{pos}
use Rattle.slabs.specs.Slab.{walk, slab, Crossing}
use Rattle.slabs.specs.inner.Tables.{hold}
use Rattle.slabs.proofs.one_slab.Goals as goal

pub returns : goal.returns
unfolding slab
returns c = let a = c.args in let g = c.wind in
    g.ensures ∙ ap (λ (l : List Crossing). hold (record { room = a.room.now; count = a.n }) (walk a.sheet a.top a.xa a.xb (pos 0) a.bottom a.bottom l)) c.sorted_rows-m.ensures.1
