use mathlib.Core.Path.{◌∙◌, refl}
use Prim.Native.Nat.{ℕ, ◌≤◌, ◌<◌}
use native.Mathlib.Omega.{arith}
use lib.ListN.{length-set}
use Rattle.index.proofs.entries.Raising.{cleared_to}
use Rattle.enter.proofs.span_marks.clear.Goals as goal

none : (f d : ℕ) → f ≤ d → d < f → ⊥
none f d h l = omega arith

pub loop-b-init : goal.loop-b-init
loop-b-init c = (refl, λ d h l. absurd (none c.args.first d h l))

pub loop-b-preserved : goal.loop-b-preserved
loop-b-preserved c = let l = c.loop-b in
    let g = c.args in
    (length-set l.marks l.b g.count ∙ l.invariant.0, λ d h a. cleared_to l.marks g.first l.b g.count (omega arith) l.invariant.1 d h a)

pub shape_of-marks : goal.shape_of-marks
shape_of-marks c = c.loop-b.invariant.0

pub returns : goal.returns
returns c = λ d h a. c.loop-b.invariant.1 d h (omega arith)
