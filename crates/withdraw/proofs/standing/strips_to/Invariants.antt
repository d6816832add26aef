use mathlib.Core.Path.{◌≡◌}
use Prim.Native.Nat.{◌-◌, ◌≤◌}
use Rattle.withdraw.specs.standing.inner.Standing.{strips_to}
use Rattle.withdraw.proofs.standing.strips_to.Given as goal

abbrev pub invariant-loop-i : goal.invariant-loop-i
invariant-loop-i l = (l.i ≤ l.n) × (l.strips ≡ strips_to l.parts l.order l.orientation l.i)
