use Prim.Native.Nat.{◌-◌}
use mathlib.Core.Path.{◌≡◌}
use Rattle.strips.specs.Strips.{bounds_on, bounds}
use Rattle.strips.proofs.bounds.Given as goal

abbrev pub invariant-loop-i : goal.invariant-loop-i
invariant-loop-i l = bounds_on l.points l.b l.i (l.n - l.i) ≡ bounds l.points l.n
