use mathlib.Core.Path.{◌≡◌, subst}
use Prim.Native.Nat.{ℕ, ◌-◌}
use native.Mathlib.Omega.{arith}
use Rattle.gaps.specs.inner.OpenGaps.{Stepped}
use Rattle.gaps.proofs.Inserting.{stepped_start, stepped_step}
use Rattle.gaps.proofs.step_up.Goals as goal

pub loop-d-init : goal.loop-d-init
loop-d-init c = (omega arith, stepped_start _ _)

pub bounds-starts-lo : goal.bounds-starts-lo
bounds-starts-lo c = omega (arith, c.loop-d.invariant.1.size, c.requires.0)

pub loop-d-preserved : goal.loop-d-preserved
loop-d-preserved c = let l = c.loop-d in
    let g = c.args in
    (omega arith, stepped_step g.lo g.starts.now l.d l.starts l.auto.d (omega (arith, c.requires.0)) l.invariant.1)

pub shape_of-starts : goal.shape_of-starts
shape_of-starts c = c.loop-d.invariant.1.size

pub returns : goal.returns
returns c = let l = c.loop-d in
    let g = c.args in
    let e : l.d - 1 ≡ g.width = omega arith in
    subst (λ (k : ℕ). Stepped g.lo g.starts.now k l.starts) e l.invariant.1
