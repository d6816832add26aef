use Prim.Native.Nat.{◌≤◌}
use mathlib.Core.Path.{◌≡◌}
use lib.ListN.{length}
use Rattle.rooms.proofs.tracks.Laying.{Read}
use Rattle.rooms.proofs.tracks.read.Given as goal

abbrev pub invariant-loop-i : goal.invariant-loop-i
invariant-loop-i g l = (l.i ≤ length l.out) × (length l.out ≡ length l.initial.out) × ((d : _) → Read d l.k l.r l.table l.i l.out)
