use mathlib.Core.Path.{sym, ap, ◌∙◌}
use Rattle.index.specs.inner.Listing.{collected, push_all}
use Rattle.index.proofs.Steps.{pair_none, pair_counts, pair_counts-not, push_all-one, push_all-none}
use Rattle.index.proofs.meet.Goals as goal

pub returns-in_default : goal.returns-in_default
returns-in_default c = let g = c.args in
    sym (ap (push_all (collected g.room.now g.n)) (pair_none g.m g.p (sym c.in_default.ensures)) ∙ push_all-none (collected g.room.now g.n))

pub returns-then-counts : goal.returns-then-counts
returns-then-counts c = let g = c.args in
    let i = c.in-Some.i in
    c.push.ensures ∙ sym (ap (push_all (collected g.room.now g.n)) (pair_counts g.m g.p i (sym c.in-Some.ensures) (sym c.counts.ensures ∙ c.if-counts.true)) ∙ push_all-one (collected g.room.now g.n) i)

pub returns : goal.returns
returns c = let g = c.args in
    let i = c.in-Some.i in
    sym (ap (push_all (collected g.room.now g.n)) (pair_counts-not g.m g.p i (sym c.in-Some.ensures) (sym c.counts.ensures ∙ c.if-counts.false)) ∙ push_all-none (collected g.room.now g.n))
