-- `judge_lines`: line after line, to the first that is refused. Assumes nothing.
use Prim.Native.Nat.{ℕ}
use native.Mathlib.Omega.{arith}
use mathlib.Core.Path.{refl, sym, subst, ◌∙◌}
use lib.ListN.{replicate}
use Rattle.judge_lines.specs.inner.Judging.{Within}
use Rattle.judge_lines.proofs.Lines.{Going, going-first, going_on, going-ends, going-last}
use Rattle.judge_lines.proofs.judge_lines.Goals as goal

pub loop-i-init : goal.loop-i-init
loop-i-init c = let x = c.args in (
  omega arith,
  omega arith,
  refl,
  refl,
  λ j w t ri ei fi. subst (λ (n : ℕ). Going j w x.given.now (replicate 64 0) x.placed.now (record { strips = 0; entries = n }) 0) ei
      (going-first j w x.given.now x.placed.now),
)

pub line_at-l-requires : goal.line_at-l-requires
line_at-l-requires c = let h = c.loop-i-test.true in
    omega (arith, h)

pub slice_bounds-judge_line-end : goal.slice_bounds-judge_line-end
slice_bounds-judge_line-end c = sym c.loop-i.invariant.2

pub judge_line-requires : goal.judge_line-requires
judge_line-requires c = let p = c.requires in
    let v = c.loop-i.invariant in
    (p.0, omega (arith, v.2), p.1, omega (arith, p.2, v.3), v.1)

pub overflow_add-i : goal.overflow_add-i
overflow_add-i c = let h = c.loop-i-test.true in
    let n = c.well_formed.1.1.1.1.1.1.1.1.0.0 in
    record { fits = omega (arith, h, n) }

pub loop-i-smaller : goal.loop-i-smaller
loop-i-smaller c = let h = c.loop-i-test.true in
    omega (arith, h)

pub loop-i-preserved : goal.loop-i-preserved
loop-i-preserved c = let x = c.args in
    let v = c.loop-i.invariant in
    let h = c.loop-i-test.true in
    let E = c.judge_line.ensures in (
      omega (arith, h),
      subst (Within x.room) c.in-Ok.is E.0,
      c.judge_line.auto.counts ∙ v.2,
      c.judge_line.auto.placed ∙ v.3,
      λ j w t ri ei fi.
          let G = v.4 j w t ri ei fi in
          going_on j w x.given.now c.loop-i.counts c.loop-i.placed c.loop-i.s c.loop-i.i G h _ _ c.line_at-l.result
          c.line_at-l.ensures c.judge_line.result
          (E.1 j w G.ks G.st t ri fi G.kept) _ c.in-Ok.is,
    )

pub shape_of-placed-in-Err : goal.shape_of-placed-in-Err
shape_of-placed-in-Err c = c.judge_line.auto.placed ∙ c.loop-i.invariant.3

pub returns-in-Err : goal.returns-in-Err
returns-in-Err c = let x = c.args in
    let v = c.loop-i.invariant in
    let h = c.loop-i-test.true in
    let E = c.judge_line.ensures in
    λ j w t ri ei fi.
    let G = v.4 j w t ri ei fi in
    going-ends j w x.given.now c.loop-i.counts c.loop-i.placed c.loop-i.s c.loop-i.i G h _ _ c.line_at-l.result
    c.line_at-l.ensures c.judge_line.result
    (E.1 j w G.ks G.st t ri fi G.kept) _ c.in-Err.is

pub shape_of-placed : goal.shape_of-placed
shape_of-placed c = c.loop-i.invariant.3

pub returns : goal.returns
returns c = let x = c.args in
    let v = c.loop-i.invariant in
    λ j w t ri ei fi. going-last j w x.given.now c.loop-i.counts c.loop-i.placed c.loop-i.s c.loop-i.i (v.4 j w t ri ei fi)
    c.loop-i-test.false
