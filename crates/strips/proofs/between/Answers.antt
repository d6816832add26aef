-- `strips::between` meets its contract. Assumes nothing.
use mathlib.Core.Path.{ap, sym, ◌∙◌}
use mathlib.Core.List.{List}
use Rattle.trapezoid.specs.declared.Trapezoid.{Trapezoid}
use Rattle.slabs.specs.Slab.{up}
use Rattle.slabs.specs.inner.Tables.{edge_at, hold}
use Rattle.strips.proofs.SlabWalk.{between_yes, between_no}
use Rattle.strips.proofs.between.Goals as goal

pub returns-then-xa-xb : goal.returns-then-xa-xb
returns-then-xa-xb c = let a = c.args in c.one_slab.ensures ∙ ap (λ (l : List Trapezoid). hold (record { room = a.room.now; count = a.n }) l) (sym (between_yes (up (edge_at a.es.now) 0 a.count) a.sheet a.bottom a.top a.xa a.xb c.if-xa-xb.true))

pub returns-else-xa-xb : goal.returns-else-xa-xb
unfolding hold
returns-else-xa-xb c = let a = c.args in ap (λ (l : List Trapezoid). hold (record { room = a.room.now; count = a.n }) l) (sym (between_no (up (edge_at a.es.now) 0 a.count) a.sheet a.bottom a.top a.xa a.xb c.if-xa-xb.false))
