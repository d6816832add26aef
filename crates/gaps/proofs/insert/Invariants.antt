use Prim.Native.Nat.{◌≤◌}
use Rattle.gaps.specs.inner.OpenGaps.{Inserted}
use Rattle.gaps.proofs.insert.Given as goal

abbrev pub invariant-loop-by : goal.invariant-loop-by
invariant-loop-by l = (l.by ≤ l.width) × Inserted l.lo l.width l.number l.starts l.initial.entries l.by l.entries
