-- `keep_firsts`: each strip's number is the bucket of its x0. Assumes nothing.
use mathlib.Core.Path.{◌≡◌, ap, ◌∙◌, refl, subst}
use Prim.Native.Nat.{ℕ, ◌<◌}
use native.Mathlib.Omega.{arith}
use lib.ListN.{length-set}
use lib.Ieee.{Float}
use Rattle.trapezoid.specs.declared.Trapezoid.{Trapezoid}
use Rattle.trapezoid.specs.Strip.{strip_at}
use Rattle.index.specs.declared.Index.{Index}
use Rattle.index.specs.Buckets.{bucket_in}
use Rattle.index.proofs.Steps.{bucket_top}
use Rattle.enter.specs.inner.EntryRoom.{FirstsWritten}
use Rattle.enter.proofs.Firsts.{written_none, written_next}
use Rattle.enter.proofs.keep_firsts.Goals as goal

small : (ix : Index) (x : Float) (b : ℕ) → b ≡ bucket_in ix x → b < 512
small ix x b e = let t = bucket_top ix x in omega arith

pub loop-i-init : goal.loop-i-init
loop-i-init c = let g = c.args in (omega arith, c.requires.0, refl, written_none g.ix g.standing.now g.from g.firsts.now)

pub load-p-requires : goal.load-p-requires
load-p-requires c = omega (arith, c.requires.1)

pub overflow_cast-firsts : goal.overflow_cast-firsts
overflow_cast-firsts c = omega (arith, small _ _ _ c.bucket-first.ensures)

pub bounds-firsts-i : goal.bounds-firsts-i
bounds-firsts-i c = omega (arith, c.loop-i.invariant.2, c.requires.2)

pub loop-i-preserved : goal.loop-i-preserved
loop-i-preserved c = let g = c.args in
    let l = c.loop-i in
    let f = c.bucket-first.result in
    let e : f ≡ bucket_in g.ix (strip_at g.standing.now l.i).x0 = c.bucket-first.ensures ∙ ap (λ (q : Trapezoid). bucket_in g.ix q.x0)
    c.load-p.ensures in (
      omega (arith, l.invariant.0),
      omega arith,
      length-set l.firsts l.i f ∙ l.invariant.2,
      written_next g.ix g.standing.now g.from l.i f g.firsts.now l.firsts l.invariant.3 l.invariant.0
          (omega (arith, l.invariant.2, c.requires.2)) e,
    )

pub shape_of-firsts : goal.shape_of-firsts
shape_of-firsts c = c.loop-i.invariant.2

pub returns : goal.returns
returns c = let g = c.args in
    let l = c.loop-i in
    let e : l.i ≡ g.to = omega (arith, l.invariant.1) in
    subst (λ (k : ℕ). FirstsWritten g.ix g.standing.now g.from k g.firsts.now l.firsts) e l.invariant.3
