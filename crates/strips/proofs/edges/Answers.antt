-- `strips::edges` meets its contract. Assumes nothing.
use Prim.Native.Nat.{ℕ}
use lib.ListN.{get_or}
use mathlib.Core.Path.{refl, ap, sym, ◌∙◌}
use native.Mathlib.Omega.{arith}
use Rattle.slabs.specs.Slab.{up}
use Rattle.slabs.specs.inner.Tables.{edge_at}
use Rattle.strips.proofs.EdgeTable.{loops_next, edges-next, loops_end, edges-end}
use Rattle.strips.proofs.edges.Goals as goal

pub loop-e-init : goal.loop-e-init
unfolding up
loop-e-init c = (c.requires.2, refl)

pub loop_edges-requires : goal.loop_edges-requires
loop_edges-requires c = let a = c.args in let l = c.loop-e in
    let h = loops_next a.ends.now l.first a.n l.e-index (omega arith) l.invariant.0 in
    rw c.from-end.ensures (h.0, omega (arith, h.1), omega (arith, h.1))

pub loop-e-preserved : goal.loop-e-preserved
loop-e-preserved c = let a = c.args in let l = c.loop-e in let g = c.loop_edges in
    let h = loops_next a.ends.now l.first a.n l.e-index (omega arith) l.invariant.0 in
    rw c.from-end.ensures (h.2, edges-next a.ends.now l.first a.n l.e-index (omega arith) a.points.now (up (edge_at l.es) 0 l.first) (up (edge_at g.new.es) 0 (get_or a.ends.now l.e-index 0)) (rw c.from-end.ensures at g.ensures) ∙ l.invariant.1)

pub returns : goal.returns
returns c = let a = c.args in let l = c.loop-e in
    ap (λ (k : ℕ). up (edge_at l.es) 0 k) (sym (loops_end a.ends.now l.first a.n l.e-index (omega arith) l.invariant.0))
    ∙ (sym (edges-end a.ends.now l.first a.n l.e-index (omega arith) a.points.now (up (edge_at l.es) 0 l.first)) ∙ l.invariant.1)
