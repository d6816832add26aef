-- `strips::slabs` meets its contract. Assumes nothing.
use Prim.Native.Nat.{◌-◌}
use mathlib.Core.Path.{ap, sym, ◌∙◌}
use native.Mathlib.Omega.{arith}
use Rattle.slabs.specs.Slab.{up}
use Rattle.slabs.specs.inner.Tables.{edge_at, Held}
use Rattle.slabs.proofs.Rows.{unequal}
use Rattle.slabs.proofs.xs.Lines.{at}
use Rattle.strips.proofs.SlabWalk.{to_come_lem, walk_start, walk_on, walk-past, walk_end}
use Rattle.strips.proofs.slabs.Goals as goal

pub loop-k-init : goal.loop-k-init
loop-k-init c = let a = c.args in walk_start (up (edge_at a.es.now) 0 a.count) a.sheet a.bottom a.top (at a.line.now) (record { room = a.room.now; count = a.from }) a.m (omega arith)

pub loop-k-preserved-then-xa-xb : goal.loop-k-preserved-then-xa-xb
loop-k-preserved-then-xa-xb c = let l = c.loop-k in let a = c.args in let es = up (edge_at a.es.now) 0 a.count in let f = at a.line.now in
    ap (λ (h : Held). to_come_lem es a.sheet a.bottom a.top h f (f (l.k - 1)) (l.k - 1)) c.between-held.ensures
    ∙ (walk_on es a.sheet a.bottom a.top f (record { room = l.room; count = l.held }) l.k l.xa _ (omega arith) (unequal _ _) c.if-xa-xb.true ∙ l.invariant)

pub loop-k-preserved : goal.loop-k-preserved
loop-k-preserved c = let l = c.loop-k in let a = c.args in
    walk-past (up (edge_at a.es.now) 0 a.count) a.sheet a.bottom a.top (at a.line.now) (record { room = l.room; count = l.held }) l.k l.xa _ (omega arith) (unequal _ _) c.if-xa-xb.false ∙ l.invariant

pub returns : goal.returns
returns c = let l = c.loop-k in let a = c.args in
    sym (walk_end (up (edge_at a.es.now) 0 a.count) a.sheet a.bottom a.top (at a.line.now) (record { room = l.room; count = l.held }) l.k l.xa (omega arith)) ∙ l.invariant
