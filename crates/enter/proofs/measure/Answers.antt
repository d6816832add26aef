use mathlib.Core.Path.{◌≡◌, sym, ◌∙◌, subst}
use Prim.Native.Nat.{ℕ, ◌+◌, ◌-◌}
use native.Mathlib.Omega.{arith}
use Rattle.trapezoid.specs.Strip.{strip_at}
use Rattle.index.specs.Buckets.{buckets}
use Rattle.index.proofs.Steps.{bucket_top}
use Rattle.enter.specs.span_marks.inner.NewEntries.{Within, Kept}
use Rattle.enter.specs.inner.EntryRoom.{start_of}
use Rattle.enter.proofs.span_marks.Spans.{within_none, within_turn, kept-none, kept_turn}
use Rattle.enter.proofs.Marks.{start-strip, start_over}
use Rattle.enter.proofs.measure.Goals as goal

pub loop-i-init : goal.loop-i-init
loop-i-init c = (omega arith, c.requires.0, c.requires.2, c.requires.3, omega arith, omega arith, omega arith, within_none _ _ _ _ _, kept-none _ _ _ _ _)

pub span_of-s-requires : goal.span_of-s-requires
span_of-s-requires c = omega (arith, c.requires.1)

pub width-width-requires : goal.width-width-requires
width-width-requires c = let t = bucket_top c.args.ix (strip_at c.args.standing.now c.loop-i.i).x1 in omega (arith, t, c.span_of-s.ensures.1)

pub overflow_sub-left : goal.overflow_sub-left
overflow_sub-left c = c.loop-i.invariant.5

pub shape_of-firsts-then-left-more : goal.shape_of-firsts-then-left-more
shape_of-firsts-then-left-more c = c.loop-i.invariant.2 ∙ sym c.requires.2

pub shape_of-lasts-then-left-more : goal.shape_of-lasts-then-left-more
shape_of-lasts-then-left-more c = c.loop-i.invariant.3 ∙ sym c.requires.3

pub returns-then-left-more : goal.returns-then-left-more
returns-then-left-more c = let l = c.loop-i in
    let g = c.args in
    let s = start-strip g.ix g.standing.now l.i c.span_of-s.result.lo c.span_of-s.result.hi c.span_of-s.ensures.0 c.span_of-s.ensures.1 in
    let o = start_over g.ix g.standing.now l.i g.to (omega arith) in
    record { fits = tt; over = omega (arith, s, o, l.invariant.4, l.invariant.5, c.width-width.ensures, c.if-left-more.true) }

pub overflow_add-more : goal.overflow_add-more
overflow_add-more c = omega (arith, c.loop-i.invariant.5, c.if-left-more.false)

pub overflow_add-s : goal.overflow_add-s
overflow_add-s c = let t = bucket_top c.args.ix (strip_at c.args.standing.now c.loop-i.i).x1 in omega (arith, t, c.span_of-s.ensures.1)

pub overflow_sub-i : goal.overflow_sub-i
overflow_sub-i c = c.loop-i.invariant.0

pub keep-requires : goal.keep-requires
keep-requires c = let g = c.args in
    let l = c.loop-i in
    let t = bucket_top g.ix (strip_at g.standing.now l.i).x0 in
    let u = bucket_top g.ix (strip_at g.standing.now l.i).x1 in
    (l.invariant.2, l.invariant.3, omega (arith, t, c.span_of-s.ensures.0), omega (arith, u, c.span_of-s.ensures.1))

pub loop-i-preserved : goal.loop-i-preserved
loop-i-preserved c = let l = c.loop-i in
    let g = c.args in
    let E = c.span_of-s.ensures in
    let s = start-strip g.ix g.standing.now l.i c.span_of-s.result.lo c.span_of-s.result.hi E.0 E.1 in
    let u = bucket_top g.ix (strip_at g.standing.now l.i).x1 in (
      omega (arith, l.invariant.0),
      omega arith,
      c.keep.auto.firsts ∙ l.invariant.2,
      c.keep.auto.lasts ∙ l.invariant.3,
      omega (arith, s, l.invariant.4, c.width-width.ensures),
      omega (arith, l.invariant.5, c.if-left-more.false),
      omega (arith, l.invariant.6, c.max-end.ensures, u, E.1),
      within_turn g.ix g.standing.now g.from l.i _ _ l.first l.end _ _ E.0 E.1 c.min-first.ensures c.max-end.ensures l.invariant.7,
      kept_turn g.ix g.standing.now g.from l.i _ _ l.firsts l.lasts _ _ l.invariant.0 E.0 E.1 c.keep.ensures.0 c.keep.ensures.1 l.invariant.8,
    )

pub shape_of-firsts : goal.shape_of-firsts
shape_of-firsts c = c.loop-i.invariant.2 ∙ sym c.requires.2

pub shape_of-lasts : goal.shape_of-lasts
shape_of-lasts c = c.loop-i.invariant.3 ∙ sym c.requires.3

pub returns : goal.returns
returns c = let l = c.loop-i in
    let g = c.args in
    let e : l.i ≡ g.to = omega (arith, l.invariant.1) in
    record {
      fits = (
        subst (λ (k : ℕ). start_of g.ix g.standing.now k buckets ≡ start_of g.ix g.standing.now g.from buckets + l.more) e l.invariant.4,
        l.invariant.5,
        l.invariant.6,
        subst (λ (k : ℕ). Within g.ix g.standing.now g.from k l.first l.end) e l.invariant.7,
        subst (λ (k : ℕ). Kept g.ix g.standing.now g.from (k - g.from) l.firsts l.lasts) e l.invariant.8,
      );
      over = tt;
    }
