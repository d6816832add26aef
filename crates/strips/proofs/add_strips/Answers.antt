-- `strips::add_strips` meets its contract. Assumes nothing.
use mathlib.Core.Path.{ap, ◌∙◌}
use mathlib.Core.List.{List}
use Rattle.trapezoid.specs.declared.Trapezoid.{Trapezoid}
use Rattle.slabs.specs.inner.Tables.{hold}
use Rattle.strips.proofs.SlabWalk.{strips-held}
use Rattle.strips.proofs.add_strips.Goals as goal

pub returns : goal.returns
returns c = let a = c.args in let b = c.bounds-b in let x = c.sort_xs-m in let g = c.edges in let d = c.drop_vertical-count in
    c.slabs.ensures ∙ ap (λ (l : List Trapezoid). hold (record { room = a.room.now; count = a.from }) l)
    (strips-held a.points.now a.n x.result d.result a.ends.now a.sheet g.new.es d.new.es x.new.line
    b.result b.ensures x.ensures.2 g.ensures d.ensures.1)
