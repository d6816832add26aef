use Prim.Native.Nat.{◌≤◌}
use mathlib.Core.Path.{◌≡◌}
use lib.ListN.{length}
use Rattle.take_copy.specs.kept_tracks.inner.Kept.{PutBack}
use Rattle.take_copy.proofs.kept_tracks.put_back.Given as goal

abbrev pub invariant-loop-n : goal.invariant-loop-n
invariant-loop-n l = (l.n ≤ 32) × (length l.tracks ≡ length l.initial.tracks) × PutBack l.slot l.n l.kept l.initial.tracks l.tracks
