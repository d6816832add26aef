use Prim.Native.Nat.{◌+◌, ◌-◌, ◌≤◌}
use Rattle.gaps.specs.inner.OpenGaps.{Stepped}
use Rattle.gaps.proofs.step_up.Given as goal

abbrev pub invariant-loop-d : goal.invariant-loop-d
invariant-loop-d l = (l.d ≤ l.width + 1) × Stepped l.lo l.initial.starts (l.d - 1) l.starts
