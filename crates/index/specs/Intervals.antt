-- Document 01, "Index", second part: forbidden intervals. Definitions only: of every pair, and of no bucket. Assumes nothing.
use Rattle.std.specs.Prelude.{Option, Some, None, Bool, true, false, ◌&&◌, Float}
use mathlib.Core.List.{List, [], ◌∷◌, flat_map}
use Rattle.std.specs.Float.Ieee.{lt}
use Rattle.numbers.specs.Numbers.{◌⊕◌, ◌⊖◌, smaller, larger}
use Rattle.trapezoid.specs.declared.Trapezoid.{Trapezoid}
use Rattle.trapezoid.specs.declared.Heights.{Heights}
use Rattle.trapezoid.specs.Strip.{strip_at, capacity, heights_at}
use Rattle.index.specs.declared.Interval.{Interval}
use Rattle.index.specs.Buckets.{up_from, keep}

-- "the forbidden heights are the open interval from smaller(p.low − q.high at each end) to larger(p.high − q.low at each end)"
unfoldable pub interval_of : Heights → Heights → Heights → Heights → Interval
interval_of pa pb qa qb = record { from = smaller (pa.low ⊖ qa.high) (pb.low ⊖ qb.high); to = larger (pa.high ⊖ qa.low) (pb.high ⊖ qb.low) }

-- "A moving strip q at x and a standing strip p meet over a = larger(p.x0, q.x0 + x), b = smaller(p.x1, q.x1 + x) if a < b.
-- With p read at a and b, and q at a − x and b − x, the forbidden heights are .."
unfoldable pub meeting_of : Trapezoid → Float → Trapezoid → Option Interval
meeting_of q x p =
    let a = larger p.x0 (q.x0 ⊕ x) in
    let b = smaller p.x1 (q.x1 ⊕ x) in
    elim (lt a b) [
      | true ↦ Some (interval_of (heights_at p a) (heights_at p b) (heights_at q (a ⊖ x)) (heights_at q (b ⊖ x)))
      | false ↦ None
    ]

-- the interval of a pair, if there is one
unfoldable pub interval_in : Option Interval → List Interval
interval_in None = []
interval_in (Some i) = i ∷ []

-- all forbidden intervals: of every moving strip at x against every standing strip
unfoldable pub forbidden_of : List Float → List Float → Float → List Interval
forbidden_of standing moving x =
    flat_map (λ j. flat_map (λ i. interval_in (meeting_of (strip_at moving j) x (strip_at standing i))) (up_from (capacity standing) 0)) (up_from (capacity moving) 0)

-- "It counts if it is not empty, its top is above the lowest allowed height and its bottom below the highest."
unfoldable pub counts_of : Float → Float → Interval → Bool
counts_of y_low y_high i = lt i.from i.to && (lt y_low i.to && lt i.from y_high)

-- the counted intervals
unfoldable pub counted_of : Float → Float → List Float → List Float → Float → List Interval
counted_of y_low y_high standing moving x = keep (counts_of y_low y_high) (forbidden_of standing moving x)
