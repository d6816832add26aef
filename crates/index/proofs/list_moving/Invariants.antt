use mathlib.Core.Path.{◌≡◌}
use mathlib.Core.List.{flat_map}
use Prim.Native.Nat.{◌+◌, ◌-◌}
use lib.ListN.{length}
use Rattle.index.specs.Buckets.{up_from}
use Rattle.index.specs.inner.Listing.{collected, push_all, list_bucket_by}
use Rattle.index.proofs.list_moving.Given as goal

abbrev pub invariant-loop-b : goal.invariant-loop-b
invariant-loop-b l = (length l.room ≡ length l.initial.room) ×
    (push_all (collected l.room l.n) (flat_map (list_bucket_by l.m l.first l.standing l.firsts l.entries l.starts) (up_from (l.last + 1 - l.b) l.b)) ≡
    push_all (collected l.initial.room l.start) (flat_map (list_bucket_by l.m l.first l.standing l.firsts l.entries l.starts) (up_from (l.last + 1 - l.first) l.first)))
