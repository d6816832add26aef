use Prim.Native.Nat.{◌≤◌}
use mathlib.Core.Path.{◌≡◌}
use lib.ListN.{length}
use Rattle.rooms.specs.tracks.inner.Tracks.{slot_numbers}
use Rattle.rooms.proofs.tracks.Laying.{Laid}
use Rattle.rooms.proofs.tracks.reset.Given as goal

abbrev pub invariant-loop-i : goal.invariant-loop-i
invariant-loop-i l = (l.i ≤ 1024) × (length l.tracks ≡ length l.initial.tracks) × (slot_numbers ≤ length l.tracks) × Laid (λ _. 1) (λ _. 0) l.i l.tracks
