-- `slabs::gather_up` meets its contract. Assumes nothing.
use native.Mathlib.Omega.{arith}
use Rattle.slabs.specs.inner.Tables.{crossing_at, edge_at, behind, Orders, GatheredIs}
use Rattle.slabs.proofs.Forward.{forward_none, forward_on, forward_off, forward_all}
use Rattle.slabs.proofs.gather_up.Goals as goal

pub loop-i-init : goal.loop-i-init
loop-i-init c = let a = c.args in (omega arith, forward_none a.xa a.xb (edge_at a.es.now) (crossing_at a.rows.now))

pub returns-then-left-eq0 : goal.returns-then-left-eq0
unfolding GatheredIs
returns-then-left-eq0 c = tt

pub returns-then-not-placed : goal.returns-then-not-placed
unfolding GatheredIs
returns-then-not-placed c = tt

pub loop-i-preserved-then-not-spans : goal.loop-i-preserved-then-not-spans
loop-i-preserved-then-not-spans c = let l = c.loop-i in let a = c.args in (
  omega arith,
  forward_off a.xa a.xb (edge_at a.es.now) l.i c.edge_at-e.result c.edge_at-e.ensures c.spans.result c.spans.ensures (crossing_at l.rows) l.n c.if-not-spans.true l.invariant.1,
)

pub loop-i-preserved : goal.loop-i-preserved
unfolding Orders
loop-i-preserved c = let l = c.loop-i in let a = c.args in let g = c.insert-far in (
  omega arith,
  forward_on a.xa a.xb (edge_at a.es.now) l.i c.edge_at-e.result c.edge_at-e.ensures c.spans.result c.spans.ensures
      (crossing_at l.rows) (crossing_at g.new.rows) l.n c.cross-c.result c.if-not-spans.false c.cross-c.ensures (c.placed.ensures c.if-not-placed.false) (g.ensures behind (λ b r t e. e.2)) l.invariant.1,
)

pub returns : goal.returns
unfolding GatheredIs
returns c = let l = c.loop-i in let a = c.args in
    (omega arith, forward_all a.xa a.xb (edge_at a.es.now) (crossing_at l.rows) l.n l.i a.count (omega arith) l.invariant.1)
