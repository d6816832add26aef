use mathlib.Core.Path.{◌≡◌, sym, ◌∙◌, subst}
use mathlib.Core.List.{List}
use Prim.Native.Nat.{ℕ}
use lib.ListN.{length, get_or}
use Rattle.std.proofs.lemmas.List.{get_or-replicate}
use native.Mathlib.Omega.{arith}
use Rattle.index.proofs.entries.Comparing.{too_many}
use Rattle.index.proofs.entries.walk_all.Goals as goal

pub count_all-requires : goal.count_all-requires
count_all-requires c = let p = c.requires in
    (p.0, c.fill.auto.self ∙ p.1, p.2, λ b h. subst (λ (s : List ℕ). get_or s b 0 ≡ 0) (sym (c.fill.ensures.after (λ y e. e))) (get_or-replicate (length c.args.starts.now) b 0 0 (omega (arith, h, p.1))))

pub sum_counts-requires : goal.sum_counts-requires
sum_counts-requires c = c.count_all.auto.counts ∙ (c.fill.auto.self ∙ c.requires.1)

pub compare_all-requires : goal.compare_all-requires
compare_all-requires c = let p = c.requires in
    let t = c.sum_counts.auto.counts ∙ (c.count_all.auto.counts ∙ (c.fill.auto.self ∙ p.1)) in
    (p.0, p.2, t, (c.count_all.new.counts, c.count_all.ensures, c.sum_counts.ensures.0 c.if-not-sum_counts.false))

pub returns : goal.returns
returns c = c.compare_all.ensures

pub returns-then-not-sum_counts : goal.returns-then-not-sum_counts
returns-then-not-sum_counts c = let g = c.args in
    let w = c.sum_counts.ensures.1 c.if-not-sum_counts.true in
    (sym (too_many g.ix g.standing.now g.n c.count_all.new.counts c.count_all.ensures g.entries.now w), tt)
