-- `slabs::gather_down` meets its contract. Assumes nothing.
use mathlib.Core.Path.{ap, ◌∙◌}
use mathlib.Core.List.{List}
use native.Mathlib.Omega.{arith}
use Rattle.slabs.specs.declared.Edge.{Edge}
use Rattle.slabs.specs.Slab.{before, crossings}
use Rattle.slabs.specs.inner.Tables.{crossing_at, edge_at, Orders, GatheredIs}
use Rattle.slabs.proofs.Rows.{gather_none, gather_on, gather_off}
use Rattle.slabs.proofs.Sorting.{up_all}
use Rattle.slabs.proofs.gather_down.Goals as goal

pub loop-i-init : goal.loop-i-init
loop-i-init c = let a = c.args in (omega arith, omega arith, omega arith, gather_none a.xa a.xb (edge_at a.es.now) (crossing_at a.rows.now) a.count)

pub returns-then-left-eq0-clause-gathered : goal.returns-then-left-eq0-clause-gathered
unfolding GatheredIs
returns-then-left-eq0-clause-gathered c = tt

pub returns-then-left-eq0-clause-goes_on : goal.returns-then-left-eq0-clause-goes_on
returns-then-left-eq0-clause-goes_on c = λ h. absurd (omega (arith, h, c.loop-i.invariant.2, c.spend-left.ensures, c.if-left-eq0.true))

pub loop-i-preserved-else-left-eq0 : goal.loop-i-preserved-else-left-eq0
unfolding Orders
loop-i-preserved-else-left-eq0 c = let l = c.loop-i in let a = c.args in let g = c.insert-far in (
  omega arith,
  omega arith,
  omega arith,
  gather_on a.xa a.xb (edge_at a.es.now) l.i a.count (omega arith) (omega arith) c.edge_at-e.result c.edge_at-e.ensures c.spans.result c.spans.ensures
      l.rows g.new.rows l.n c.cross.result c.if-spans.true c.cross.ensures (g.ensures before (λ b r t e. e.2)) l.invariant.3,
)

pub loop-i-preserved : goal.loop-i-preserved
loop-i-preserved c = let l = c.loop-i in let a = c.args in (
  omega arith,
  omega arith,
  omega arith,
  gather_off a.xa a.xb (edge_at a.es.now) l.i a.count (omega arith) (omega arith) c.edge_at-e.result c.edge_at-e.ensures c.spans.result c.spans.ensures
      l.rows l.n c.if-spans.false l.invariant.3,
)

pub returns-clause-gathered : goal.returns-clause-gathered
unfolding GatheredIs
returns-clause-gathered c = let l = c.loop-i in let a = c.args in
    (omega arith, l.invariant.3 ∙ ap (λ (es : List Edge). crossings a.xa a.xb es) (up_all (edge_at a.es.now) l.i a.count (omega arith)))
