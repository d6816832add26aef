use mathlib.Core.Path.{◌≡◌}
use mathlib.Core.List.{map}
use Prim.Native.Nat.{◌-◌}
use Rattle.index.specs.Buckets.{up_from}
use Rattle.index.specs.inner.Listing.{interval_at}
use Rattle.look.specs.height.inner.Raising.{lowered}
use Rattle.look.proofs.height.next_bottom.Given as goal

abbrev pub invariant-loop-k : goal.invariant-loop-k
invariant-loop-k l = lowered l.h l.next (map (interval_at l.room) (up_from (l.n - l.k) l.k)) ≡ lowered l.h l.y_high (map (interval_at l.room) (up_from (l.n - 0) 0))
