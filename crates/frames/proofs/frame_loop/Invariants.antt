use Prim.Native.Nat.{◌+◌, ◌-◌, ◌≤◌}
use mathlib.Core.Path.{◌≡◌}
use lib.ListN.{length}
use Rattle.frames.proofs.Framing.{Halfway}
use Rattle.frames.proofs.frame_loop.Given as goal

abbrev pub invariant-loop-i : goal.invariant-loop-i
invariant-loop-i l = (l.i + l.j ≡ l.first + l.end) × (l.first ≤ l.i) × (l.j ≤ l.end) × (length l.points ≡ length l.initial.points) × Halfway l.f l.first l.end l.i l.j l.initial.points l.points

abbrev pub decreases-loop-i : goal.decreases-loop-i
decreases-loop-i l = l.j - l.i
