use mathlib.Core.Path.{◌≡◌}
use mathlib.Core.List.{map}
use Prim.Native.Nat.{◌-◌}
use Rattle.index.specs.Buckets.{up_from}
use Rattle.index.specs.inner.Listing.{interval_at}
use Rattle.look.specs.height.inner.Raising.{raised, from_last}
use Rattle.look.proofs.height.raise.Given as goal

abbrev pub invariant-loop-k : goal.invariant-loop-k
invariant-loop-k l = raised l.y (map (interval_at l.room) (up_from (l.n - l.k) l.k)) ≡ raised l.from (map (interval_at l.room) (up_from (l.n - 0) 0))

abbrev pub invariant-loop-k-else-turn-eq0 : goal.invariant-loop-k-else-turn-eq0
invariant-loop-k-else-turn-eq0 l = raised l.y (from_last l.room l.k) ≡ raised l.from (from_last l.room l.n)
