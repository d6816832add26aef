use mathlib.Core.Path.{◌≡◌, sym, ap, ◌∙◌}
use mathlib.Core.Bool.{true, ◌||◌}
use lib.Dec.{eqb}
use lib.ListN.{get_or}
use Rattle.trapezoid.specs.declared.Trapezoid.{Trapezoid}
use Rattle.trapezoid.specs.Strip.{strip_at}
use Rattle.index.specs.inner.Listing.{pair_of, collected, push_all}
use Rattle.index.proofs.Steps.{push_all-none}
use Rattle.index.proofs.FirstBuckets.{by_true, by_false}
use borrow.Author.Tests.{eq-eqb, ne_eqb}
use Rattle.index.proofs.meet_once.Goals.{then-b-first-via-then-b-first, then-b-first-via-else-b-first+then-entry-b}
use Rattle.index.proofs.meet_once.Goals as goal

pub returns : goal.returns
returns c = let g = c.args in
    let h = collected g.room.now g.n in
    let f = get_or g.firsts.now g.i 0 in
    sym (ap (push_all h) (by_false g.m g.first g.b f (strip_at g.standing.now g.i)
    (rw (ne_eqb g.b g.first c.if-b-first.false, ne_eqb f g.b (λ (q : f ≡ g.b). c.if-entry-b.false (c.entry.ensures ∙ q))))) ∙
    push_all-none h)

pub returns-then-b-first : goal.returns-then-b-first
returns-then-b-first c = let g = c.args in
    let h = collected g.room.now g.n in
    let p = strip_at g.standing.now g.i in
    let f = get_or g.firsts.now g.i 0 in
    let met : eqb g.b g.first || eqb f g.b ≡ true = elim c.then-b-first.branch [
      | then-b-first-via-then-b-first w ↦ rw (eq-eqb g.b g.first w.if-b-first.true)
      | then-b-first-via-else-b-first+then-entry-b w ↦ rw (ne_eqb g.b g.first w.if-b-first.false, eq-eqb f g.b (sym w.entry.ensures ∙ w.if-entry-b.true))
    ] in
    c.meet.ensures ∙ (ap (λ (q : Trapezoid). push_all h (pair_of g.m q)) c.load.ensures ∙ sym (ap (push_all h) (by_true g.m g.first g.b f p met)))
