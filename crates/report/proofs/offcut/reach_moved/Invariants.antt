use Prim.Native.Nat.{◌≤◌}
use mathlib.Core.Path.{◌≡◌}
use Rattle.trapezoid.specs.Strip.{capacity}
use Rattle.report.specs.offcut.inner.Reaching.{reach_up_to}
use Rattle.report.proofs.offcut.reach_moved.Given as goal

abbrev pub invariant-loop-i : goal.invariant-loop-i
invariant-loop-i l = (l.reach ≡ reach_up_to l.part l.x l.a l.i) × (l.i ≤ capacity l.part)
