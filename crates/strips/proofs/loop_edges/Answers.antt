-- `strips::loop_edges` meets its contract. Assumes nothing.
use Prim.Native.Nat.{◌+◌, ◌-◌}
use lib.Ieee.{Float}
use mathlib.Core.Path.{ap, sym, ◌∙◌}
use mathlib.Core.List.{List, ◌++◌}
use native.Mathlib.Omega.{arith}
use Rattle.slabs.specs.Slab.{up}
use Rattle.slabs.specs.inner.Tables.{edge_at}
use Rattle.strips.proofs.EdgeTable.{edge-step, loop_done, after_in}
use Rattle.strips.specs.Strips.{loop_edges}
use Rattle.strips.proofs.loop_edges.Goals as goal

pub edge-requires : goal.edge-requires
edge-requires c = let a = c.args in let l = c.loop-i in
    (omega arith, omega (arith, c.next-j.ensures, after_in a.first l.i a.end (omega arith) (omega arith)))

pub loop-i-preserved : goal.loop-i-preserved
loop-i-preserved c = let l = c.loop-i in let a = c.args in let g = c.set_edge in
    (ap (λ (r : List Float). up (edge_at r) 0 (l.i + 1) ++ loop_edges a.points.now a.first (l.i + 1) (a.end - (l.i + 1))) g.ensures
    ∙ edge-step l.es l.i c.edge.result a.points.now a.first a.end c.next-j.result (omega arith) (omega arith) c.next-j.ensures c.edge.ensures) ∙ l.invariant

pub returns : goal.returns
returns c = let l = c.loop-i in let a = c.args in
    sym (loop_done a.points.now a.first l.i a.end (edge_at l.es) (omega arith) (omega arith)) ∙ l.invariant
