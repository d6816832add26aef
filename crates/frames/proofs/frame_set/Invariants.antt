use Prim.Native.Nat.{◌*◌, ◌≤◌}
use mathlib.Core.Path.{◌≡◌}
use lib.ListN.{length, take, drop}
use Rattle.strips.specs.inner.Tables.{Loops}
use Rattle.frames.specs.Frames.{framed_points}
use Rattle.frames.proofs.Framing.{Partly}
use Rattle.frames.proofs.frame_set.Given as goal

abbrev pub invariant-loop-end : goal.invariant-loop-end
invariant-loop-end l = (l.end-index ≤ length l.ends) × (length l.points ≡ length l.initial.points) × Loops l.first (drop l.end-index l.ends) l.m
    × Partly l.f (take (2 * l.m) l.initial.points) l.m l.first (drop l.end-index l.ends) (framed_points l.f (take (2 * l.m) l.initial.points) 0 l.ends) l.points
