-- Document 01, "Strips": what a strip is, its heights at an x, its move, and how strips lie in a lent room. Definitions only. Assumes nothing.
use Rattle.std.specs.Prelude.{ℕ, ◌+◌, ◌*◌, ◌/◌, cond, List, [], ◌∷◌, get_or, length, take, drop, leb, Float}
use Rattle.std.specs.Float.{nan}
use Rattle.std.specs.Float.Ieee.{le}
use Rattle.numbers.specs.Numbers.{◌⊕◌, ◌⊖◌, ◌⊗◌, ◌⊘◌}
use Rattle.trapezoid.specs.declared.Trapezoid.{Trapezoid}
use Rattle.trapezoid.specs.declared.Heights.{Heights}

-- "A strip is six numbers: x0, x1, the low side's height at both, the high side's height at both."
-- A room is a list of doubles, "six to a strip": the strip number i
unfoldable pub strip_at : List Float → ℕ → Trapezoid
strip_at room i = record {
  x0 = get_or room (6 * i) nan;
  x1 = get_or room (6 * i + 1) nan;
  low0 = get_or room (6 * i + 2) nan;
  low1 = get_or room (6 * i + 3) nan;
  high0 = get_or room (6 * i + 4) nan;
  high1 = get_or room (6 * i + 5) nan;
}

-- strips as they lie in a room
unfoldable pub flat : List Trapezoid → List Float
flat [] = []
flat (s ∷ ss) = s.x0 ∷ s.x1 ∷ s.low0 ∷ s.low1 ∷ s.high0 ∷ s.high1 ∷ flat ss

-- how many strips a room holds: a remainder holds none
unfoldable pub capacity : List Float → ℕ
capacity room = length room / 6

-- "low + t × (low' − low), high likewise"
abbrev pub between : Float → Float → Float → Float
between t a b = a ⊕ t ⊗ (b ⊖ a)

-- "At x ≤ x0 the first heights hold, at x ≥ x1 the second, else with t = (x − x0) / (x1 − x0) it is .."
unfoldable pub heights_at : Trapezoid → Float → Heights
heights_at s x =
    let t = (x ⊖ s.x0) ⊘ (s.x1 ⊖ s.x0) in
    cond (le x s.x0) (record { low = s.low0; high = s.high0 })
    (cond (le s.x1 x) (record { low = s.low1; high = s.high1 })
    (record { low = between t s.low0 s.low1; high = between t s.high0 s.high1 }))

-- "moved (each number plus x or y)"
unfoldable pub moved_by : Trapezoid → Float → Float → Trapezoid
moved_by s x y = record { x0 = s.x0 ⊕ x; x1 = s.x1 ⊕ x; low0 = s.low0 ⊕ y; low1 = s.low1 ⊕ y; high0 = s.high0 ⊕ y; high1 = s.high1 ⊕ y }

-- of a room, count strips from strip `from` on; an empty part where the room ends before
unfoldable pub part_of : List Float → ℕ → ℕ → List Float
part_of room from count = cond (leb (from + count) (capacity room)) (take (6 * count) (drop (6 * from) room)) []
