use mathlib.Core.Path.{◌≡◌, sym, ap, ◌∙◌, refl}
use Prim.Native.Nat.{ℕ, ◌-◌}
use native.Mathlib.Omega.{arith}
use Rattle.trapezoid.specs.declared.Trapezoid.{Trapezoid}
use Rattle.trapezoid.specs.Strip.{strip_at, capacity}
use Rattle.index.specs.declared.Moving.{Moving}
use Rattle.index.specs.inner.Listing.{moving_of, collected, push_all, list_moving, listed}
use Rattle.index.proofs.Steps.{kept-length, over_end, turn}
use Rattle.index.proofs.Index.forbidden.Goals as goal

pub loop-j-init : goal.loop-j-init
unfolding capacity
loop-j-init c = let E = c.capacity-count.ensures in
    let e : c.capacity-count.result - 0 ≡ c.capacity-count.result = omega arith in
    (E, omega (arith, E), refl, rw e)

pub load-q-requires : goal.load-q-requires
load-q-requires c = omega (arith, c.loop-j.invariant.0)

pub list_moving-n-requires : goal.list_moving-n-requires
list_moving-n-requires c = c.requires

pub loop-j-preserved : goal.loop-j-preserved
unfolding listed
loop-j-preserved c = let l = c.loop-j in
    let g = c.args in
    let M = c.new-m.ensures ∙ ap (λ (p : Trapezoid). moving_of p g.x g.y_low g.y_high)
    c.load-q.ensures in
    let E = c.list_moving-n.ensures ∙ ap (λ (m : Moving). push_all (collected l.room l.n)
    (list_moving g.self g.standing.now g.entries.now g.starts.now m)) M in (
      l.invariant.0,
      l.invariant.1,
      kept-length l.room _ l.n _ _ E ∙ l.invariant.2,
      turn (λ i. list_moving g.self g.standing.now g.entries.now g.starts.now
          (moving_of (strip_at g.moving.now i) g.x g.y_low g.y_high)) l.room _ l.n _
          c.capacity-count.result l.j _ (omega arith) E l.invariant.3,
    )

pub shape_of-room : goal.shape_of-room
shape_of-room c = c.loop-j.invariant.2

pub returns : goal.returns
unfolding listed
returns c = let l = c.loop-j in
    let g = c.args in
    sym (over_end (λ i. list_moving g.self g.standing.now g.entries.now g.starts.now
    (moving_of (strip_at g.moving.now i) g.x g.y_low g.y_high)) (collected l.room l.n) c.capacity-count.result
    l.j (omega arith)) ∙ (l.invariant.3 ∙ ap (λ (n : ℕ). push_all (collected g.room.now g.start)
    (listed g.self g.y_low g.y_high g.standing.now g.entries.now g.starts.now g.moving.now g.x n 0))
    c.capacity-count.ensures)
