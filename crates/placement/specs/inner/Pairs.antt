-- For inner functions' contracts only: one pair, and one moving strip against the standing strips. That these are the forbidden intervals of the
-- definition is proved in proofs/. Definitions only. Assumes nothing.
use Rattle.std.specs.Prelude.{Option, Some, None, ℕ, Bool, false, Float}
use mathlib.Core.List.{List, flat_map}
use Rattle.trapezoid.specs.Strip.{strip_at, capacity}
use Rattle.index.specs.declared.Interval.{Interval}
use Rattle.index.specs.declared.Moving.{Moving}
use Rattle.index.specs.Buckets.{up_from}
use Rattle.index.specs.Intervals.{interval_in}
use Rattle.index.specs.inner.Listing.{meeting_at}
use Rattle.look.specs.height.Smallest.{inside}

-- whether y lies in the interval of a pair
unfoldable pub lies_in : Float → Option Interval → Bool
lies_in y None = false
lies_in y (Some i) = inside y i

-- the interval of a moving strip against the standing strip number i, if there is one
unfoldable pub pair_at : List Float → Moving → ℕ → List Interval
pair_at standing m i = interval_in (meeting_at m (strip_at standing i))

-- the intervals of a moving strip against every standing strip
unfoldable pub intervals_of : List Float → Moving → List Interval
intervals_of standing m = flat_map (pair_at standing m) (up_from (capacity standing) 0)
