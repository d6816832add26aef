use mathlib.Core.Path.{◌≡◌, sym, ◌∙◌, subst}
use mathlib.Core.List.{List}
use Prim.Native.Nat.{ℕ, ◌+◌, ◌<◌}
use native.Mathlib.Omega.{arith}
use Rattle.index.proofs.entries.Counting.{strip-top}
use Rattle.index.proofs.entries.Comparing.{Comparing, comparing_start, comparing_on, cursor_within, other, all_there, all_laid}
use Rattle.index.proofs.entries.compare_all.Goals as goal

pub loop-i-init : goal.loop-i-init
loop-i-init c = let g = c.args in
    let B = c.requires.3 in
    let C = comparing_start g.ix g.standing.now g.n B.0 B.1 g.entries.now g.starts.now c.requires.2 B.2 in
    ((B.0, B.1, B.2.within, C), omega arith)

pub entry-lo-requires : goal.entry-lo-requires
entry-lo-requires c = omega (arith, c.requires.1.long)

pub last_bucket-hi-requires : goal.last_bucket-hi-requires
last_bucket-hi-requires c = omega (arith, c.requires.0)

pub at_cursors-requires : goal.at_cursors-requires
at_cursors-requires c = let g = c.args in
    let l = c.loop-i in
    let v = l.invariant.0 in
    let t : l.i < g.n = omega arith in
    let A = c.entry-lo.ensures ∙ c.requires.1.right l.i t in
    let top = strip-top g.ix g.standing.now g.n l.i _ _ t A c.last_bucket-hi.ensures in (
      omega (arith, top, v.3.table),
      cursor_within g.ix g.standing.now g.n v.0 v.1 g.entries.now v.2 l.i _ _ t A c.last_bucket-hi.ensures l.starts v.3,
    )

pub raise-requires : goal.raise-requires
raise-requires c = let g = c.args in
    let l = c.loop-i in
    let v = l.invariant.0 in
    let t : l.i < g.n = omega arith in
    let A = c.entry-lo.ensures ∙ c.requires.1.right l.i t in
    let top = strip-top g.ix g.standing.now g.n l.i _ _ t A c.last_bucket-hi.ensures in
    let w = cursor_within g.ix g.standing.now g.n v.0 v.1 g.entries.now v.2 l.i _ _ t A c.last_bucket-hi.ensures l.starts
    v.3 in
    (omega (arith, top, v.3.table), λ b h k. omega (arith, w b h k, c.well_formed.1.1.1.0.1))

pub loop-i-preserved : goal.loop-i-preserved
loop-i-preserved c = let g = c.args in
    let l = c.loop-i in
    let v = l.invariant.0 in
    let t : l.i < g.n = omega arith in
    let C = comparing_on g.ix g.standing.now g.n v.0 v.1 g.entries.now v.2 l.i _ _ t
    (c.entry-lo.ensures ∙ c.requires.1.right l.i t)
    c.last_bucket-hi.ensures l.starts v.3 (c.at_cursors.ensures.0
    c.if-not-at_cursors.false) in
    let D = subst (λ (s : List ℕ). Comparing g.ix g.standing.now g.n v.0 v.1 g.entries.now (l.i + 1) s)
    (sym c.raise.ensures) C in
    ((v.0, v.1, v.2, D), omega (arith, t))

pub shape_of-starts-then-not-at_cursors : goal.shape_of-starts-then-not-at_cursors
shape_of-starts-then-not-at_cursors c = c.loop-i.invariant.0.3.table ∙ sym c.requires.2

pub returns-then-not-at_cursors : goal.returns-then-not-at_cursors
returns-then-not-at_cursors c = let g = c.args in
    let l = c.loop-i in
    let v = l.invariant.0 in
    let t : l.i < g.n = omega arith in
    let f = c.at_cursors.ensures.1 c.if-not-at_cursors.true in (
      sym (other g.ix g.standing.now g.n v.0 v.1 g.entries.now v.2 l.i _ _ t
          (c.entry-lo.ensures ∙ c.requires.1.right l.i t)
          c.last_bucket-hi.ensures l.starts v.3 f.0 f.1 f.2 f.3),
      tt,
    )

pub bounds-starts-512 : goal.bounds-starts-512
bounds-starts-512 c = omega (arith, c.loop-i.invariant.0.3.table)

pub shape_of-starts : goal.shape_of-starts
shape_of-starts c = c.loop-i.invariant.0.3.table ∙ sym c.requires.2

pub returns : goal.returns
returns c = let g = c.args in
    let l = c.loop-i in
    let v = l.invariant.0 in
    let e : l.i ≡ g.n = omega (arith, l.invariant.1) in
    let C = subst (λ (k : ℕ). Comparing g.ix g.standing.now g.n v.0 v.1 g.entries.now k l.starts) e v.3 in (
      all_there g.ix g.standing.now g.n v.0 v.1 g.entries.now v.2 l.starts C,
      all_laid g.ix g.standing.now g.n v.0 v.1 g.entries.now v.2 l.starts C c.requires.0,
    )
