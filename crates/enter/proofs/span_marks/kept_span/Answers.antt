use mathlib.Core.Path.{◌≡◌, ap, ◌∙◌}
use Prim.Native.Nat.{ℕ, ◌+◌, ◌-◌}
use native.Mathlib.Omega.{arith}
use Rattle.trapezoid.specs.Strip.{strip_at}
use Rattle.index.specs.Buckets.{bucket_in}
use Rattle.index.proofs.Steps.{bucket_top}
use Rattle.enter.proofs.span_marks.kept_span.Goals as goal

pub from-lo-requires : goal.from-lo-requires
from-lo-requires c = let g = c.args in
    let p = c.requires in
    let k = p.4.low (g.i - g.from) (omega (arith, p.0)) c.if-j-lt-KEPT.true in
    let t = bucket_top g.ix (strip_at g.standing.now (g.from + (g.i - g.from))).x0 in
    omega (arith, k, t)

pub from-hi-requires : goal.from-hi-requires
from-hi-requires c = let g = c.args in
    let p = c.requires in
    let k = p.4.high (g.i - g.from) (omega (arith, p.0)) c.if-j-lt-KEPT.true in
    let t = bucket_top g.ix (strip_at g.standing.now (g.from + (g.i - g.from))).x1 in
    omega (arith, k, t)

pub returns-then-j-lt-KEPT : goal.returns-then-j-lt-KEPT
returns-then-j-lt-KEPT c = let g = c.args in
    let p = c.requires in
    let e : g.from + (g.i - g.from) ≡ g.i = omega (arith, p.0) in
    let l = p.4.low (g.i - g.from) (omega (arith, p.0)) c.if-j-lt-KEPT.true in
    let h = p.4.high (g.i - g.from) (omega (arith, p.0)) c.if-j-lt-KEPT.true in
    (c.from-lo.ensures ∙ (l ∙ ap (λ (k : ℕ). bucket_in g.ix (strip_at g.standing.now k).x0) e), c.from-hi.ensures ∙ (h ∙ ap (λ (k : ℕ). bucket_in g.ix (strip_at g.standing.now k).x1) e))

pub span_of-requires : goal.span_of-requires
span_of-requires c = c.requires.1

pub returns : goal.returns
returns c = c.span_of.ensures
