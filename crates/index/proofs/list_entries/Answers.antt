use mathlib.Core.Path.{sym, ap, ◌∙◌, refl, subst}
use mathlib.Core.List.{List}
use Prim.Native.Nat.{ℕ, ◌+◌, ◌*◌, ◌≤◌}
use native.Mathlib.Omega.{arith}
use lib.ListN.{length, get_or}
use Rattle.trapezoid.specs.Strip.{strip_at, capacity}
use Rattle.index.specs.declared.Interval.{Interval}
use Rattle.index.specs.inner.Listing.{collected, push_all, entry_by, list_entries_by}
use Rattle.index.proofs.Steps.{kept-length, over_end, turn}
use Rattle.index.proofs.list_entries.Goals as goal

pub loop-e-init : goal.loop-e-init
loop-e-init c = (omega arith, refl, refl)

pub meet_once-n-requires : goal.meet_once-n-requires
unfolding capacity
meet_once-n-requires c = let p = c.requires in
    let w = subst (λ (i : ℕ). 6 * i + 6 ≤ length c.args.standing.now) (sym c.entry-i.ensures)
    (p.1 c.loop-e.e c.loop-e.invariant.0 (omega arith)) in
    (w, omega (arith, w, p.2))

pub loop-e-preserved : goal.loop-e-preserved
unfolding list_entries_by
loop-e-preserved c = let g = c.args in
    let l = c.loop-e in
    let f : ℕ → List Interval = λ i. entry_by g.m g.first g.b (get_or g.firsts.now i 0) (strip_at g.standing.now i) in
    let E = c.meet_once-n.ensures ∙ ap (λ (i : ℕ). push_all (collected l.room l.n) (f i))
    c.entry-i.ensures in (
      omega (arith, l.invariant.0),
      kept-length l.room _ l.n _ _ E ∙ l.invariant.1,
      turn (λ j. f (get_or g.entries.now j 0)) l.room _ l.n _ g.to l.e _ (omega arith) E l.invariant.2,
    )

pub shape_of-room : goal.shape_of-room
shape_of-room c = c.loop-e.invariant.1

pub returns : goal.returns
unfolding list_entries_by
returns c = let g = c.args in
    let l = c.loop-e in
    let f : ℕ → List Interval = λ i. entry_by g.m g.first g.b (get_or g.firsts.now i 0) (strip_at g.standing.now i) in
    sym (over_end (λ j. f (get_or g.entries.now j 0)) (collected l.room l.n) g.to l.e (omega arith)) ∙ l.invariant.2
