-- `strips::drop_vertical` meets its contract. Assumes nothing.
use Prim.Native.Nat.{ℕ}
use mathlib.Core.Path.{◌≡◌, refl, ap, ◌∙◌}
use native.Mathlib.Omega.{arith}
use Rattle.slabs.specs.declared.Edge.{Edge}
use Rattle.slabs.specs.Slab.{up}
use Rattle.slabs.specs.inner.Tables.{edge_at, set_edge}
use Rattle.strips.specs.inner.Tables.{slanted}
use Rattle.strips.proofs.Slanted.{past_vertical, moved-slanted, rest-kept}
use Rattle.strips.proofs.drop_vertical.Goals as goal

pub loop-i-init : goal.loop-i-init
unfolding up slanted
loop-i-init c = (omega arith, λ q l. refl, refl)

pub loop-i-preserved-then-e : goal.loop-i-preserved-then-e
loop-i-preserved-then-e c = let l = c.loop-i in let a = c.args in let f = edge_at a.es.now in
    let ef : c.edge_at-e.result ≡ f l.i = c.edge_at-e.ensures ∙ l.invariant.1 l.i (omega arith) in
    (omega arith, λ q b. l.invariant.1 q (omega arith), past_vertical f l.i (up (edge_at l.es) 0 l.m) (rw (← ef, c.if-e.true)) l.invariant.2)

pub loop-i-preserved : goal.loop-i-preserved
loop-i-preserved c = let l = c.loop-i in let a = c.args in let g = c.set_edge in let f = edge_at a.es.now in
    let ef : c.edge_at-e.result ≡ f l.i = c.edge_at-e.ensures ∙ l.invariant.1 l.i (omega arith) in
    let es : g.new.es ≡ set_edge l.es l.m (edge_at l.es l.i) = g.ensures ∙ ap (λ (e : Edge). set_edge l.es l.m e) c.edge_at-e.ensures in (
      omega arith,
      rest-kept a.es.now l.es g.new.es l.i l.m l.invariant.0 es l.invariant.1,
      moved-slanted f l.i l.es g.new.es l.m (omega arith) (l.invariant.1 l.i (omega arith)) es (rw (← ef, c.if-e.false)) l.invariant.2,
    )

pub returns : goal.returns
returns c = let l = c.loop-i in let a = c.args in let e : l.i ≡ a.n = omega arith in (omega arith, l.invariant.2 ∙ ap (λ (k : ℕ). slanted (up (edge_at a.es.now) 0 k)) e)
