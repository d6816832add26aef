use mathlib.Core.Path.{◌≡◌, sym, ◌∙◌, subst}
use mathlib.Core.List.{List}
use Prim.Native.Nat.{ℕ, ◌+◌, ◌<◌}
use native.Mathlib.Omega.{arith}
use Rattle.index.proofs.entries.Counting.{Counting, counting_start, counting_on, counting_end, strip-top}
use Rattle.index.proofs.entries.count_all.Goals as goal

pub loop-i-init : goal.loop-i-init
loop-i-init c = let g = c.args in (omega arith, counting_start g.ix g.standing.now g.n g.counts.now c.requires.1 c.requires.3)

pub entry-lo-requires : goal.entry-lo-requires
entry-lo-requires c = omega (arith, c.requires.2.long)

pub last_bucket-hi-requires : goal.last_bucket-hi-requires
last_bucket-hi-requires c = omega (arith, c.requires.0)

pub raise-requires : goal.raise-requires
raise-requires c = let g = c.args in
    let p = c.requires in
    let l = c.loop-i in
    let t : l.i < g.n = omega arith in
    let top = strip-top g.ix g.standing.now g.n l.i _ _ t (c.entry-lo.ensures ∙ p.2.right l.i t)
    c.last_bucket-hi.ensures in
    (omega (arith, top, l.invariant.1.table), λ b h k. (let f = l.invariant.1.few b (omega (arith, k, top)) in omega (arith, t, p.0, c.well_formed.1.0.1)))

pub loop-i-preserved : goal.loop-i-preserved
loop-i-preserved c = let g = c.args in
    let l = c.loop-i in
    let t : l.i < g.n = omega arith in
    let C = counting_on g.ix g.standing.now g.n l.i _ _ t (c.entry-lo.ensures ∙ c.requires.2.right l.i t)
    c.last_bucket-hi.ensures l.counts
    l.invariant.1 in
    (omega (arith, t), subst (λ (s : List ℕ). Counting g.ix g.standing.now g.n (l.i + 1) s) (sym c.raise.ensures) C)

pub shape_of-counts : goal.shape_of-counts
shape_of-counts c = c.loop-i.invariant.1.table ∙ sym c.requires.1

pub returns : goal.returns
returns c = let g = c.args in
    let l = c.loop-i in
    let e : l.i ≡ g.n = omega (arith, l.invariant.0) in
    let C = subst (λ (k : ℕ). Counting g.ix g.standing.now g.n k l.counts) e l.invariant.1 in
    counting_end g.ix g.standing.now g.n l.counts C
