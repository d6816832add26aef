use Prim.Native.Nat.{◌≤◌}
use mathlib.Core.Path.{◌≡◌}
use lib.ListN.{length, get_or}
use Rattle.rooms.specs.tracks.inner.Tracks.{slot_numbers}
use Rattle.rooms.proofs.tracks.Laying.{Laid}
use Rattle.rooms.proofs.tracks.join.Given as goal

abbrev pub invariant-loop-i : goal.invariant-loop-i
invariant-loop-i l = (l.i ≤ 1024) × (length l.tracks ≡ length l.initial.tracks) × (slot_numbers ≤ length l.tracks)
    × Laid (λ p. get_or l.next_column p 0) (λ p. get_or l.look_counts p 0) l.i l.tracks
