use Prim.Native.Nat.{◌≤◌}
use mathlib.Core.Path.{◌≡◌}
use lib.ListN.{length}
use Rattle.take_copy.specs.kept_tracks.inner.Kept.{Kept}
use Rattle.take_copy.proofs.kept_tracks.keep.Given as goal

abbrev pub invariant-loop-i : goal.invariant-loop-i
invariant-loop-i l = (l.i ≤ 32) × (length l.kept ≡ length l.initial.kept) × Kept l.slot l.i l.tracks l.kept
