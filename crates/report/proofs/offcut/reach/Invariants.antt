use Prim.Native.Nat.{◌≤◌}
use mathlib.Core.Path.{◌≡◌}
use lib.ListN.{length}
use Rattle.report.specs.offcut.inner.Reaching.{reach_to}
use Rattle.report.proofs.offcut.reach.Given as goal

abbrev pub invariant-loop-i : goal.invariant-loop-i
invariant-loop-i l = (l.reach ≡ reach_to l.parts l.shapes l.order l.orientation l.x l.right l.i) × (l.i ≤ length l.order)
