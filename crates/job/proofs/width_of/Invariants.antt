use mathlib.Core.Path.{◌≡◌}
use Prim.Native.Nat.{◌≤◌}
use Rattle.job.specs.Jobs.{left, right}
use Rattle.job.proofs.width_of.Given as goal

abbrev pub invariant-loop-i : goal.invariant-loop-i
invariant-loop-i l = (l.left ≡ left l.room l.i) × (l.right ≡ right l.room l.i) × (l.i ≤ l.n)
