use mathlib.Core.Path.{◌≡◌}
use Prim.Native.Nat.{◌-◌, ◌≤◌}
use Rattle.withdraw.specs.standing.inner.Standing.{right_over}
use Rattle.withdraw.proofs.standing.right_over.Given as goal

abbrev pub invariant-loop-i : goal.invariant-loop-i
invariant-loop-i l = (l.from ≤ l.i) × (l.i ≤ l.to) × (l.reach ≡ right_over l.inset_bounds l.order l.orientation l.x l.right l.from (l.i - l.from))
