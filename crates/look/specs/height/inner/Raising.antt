-- For inner functions' contracts only: the passes over a room's intervals, their rearrangement, and what the functions require. Definitions only. Assumes
-- nothing.
use Prim.Native.Nat.{ℕ, zero, suc, ◌+◌, ◌*◌, ◌%◌, ◌<◌}
use Rattle.std.specs.Prelude.{◌≡◌, true, false, length, get_or, set, eqb, Float}
use mathlib.Core.List.{List, [], ◌∷◌, Memᴰ}
use Rattle.std.specs.Float.{nan}
use Rattle.std.specs.Float.Ieee.{le}
use Rattle.numbers.proofs.Doubles.{Finite}
use Rattle.numbers.specs.Numbers.{smaller}
use Rattle.index.specs.declared.Interval.{Interval}
use Rattle.index.specs.inner.Listing.{interval_at, intervals}
use Rattle.look.specs.declared.height.Look.{Look}
use Rattle.look.specs.declared.height.Look.TheVariants.{Free, Full}
use Rattle.look.specs.height.Smallest.{inside}

-- ---- one pass: y goes up to the top of each interval that it lies in
unfoldable pub lift : Float → Interval → Float
lift y i = elim (inside y i) [ true ↦ i.to | false ↦ y ]

unfoldable pub raised : Float → List Interval → Float
raised y [] = y
raised y (i ∷ is) = raised (lift y i) is

-- the first n intervals of a room, the last first
unfoldable pub from_last : List Float → ℕ → List Interval
from_last r zero = []
from_last r (suc n) = interval_at r n ∷ from_last r n

-- even passes run up, odd ones down
unfoldable pub in_turn : List Float → ℕ → ℕ → List Interval
in_turn r n turn = elim (eqb (turn % 2) 0) [ true ↦ intervals r n | false ↦ from_last r n ]

-- ---- the clear height: the bottom b goes down to that of each interval that begins at h or above it
unfoldable pub lower : Float → Float → Interval → Float
lower h b i = elim (le h i.from) [ true ↦ smaller b i.from | false ↦ b ]

unfoldable pub lowered : Float → Float → List Interval → Float
lowered h b [] = b
lowered h b (i ∷ is) = lowered h (lower h b i) is

-- a look's height alone
unfoldable pub height_in : Look → List Float
height_in (Free h g) = h ∷ []
height_in Full = []

-- ---- another order
unfoldable pub swapped : List Float → ℕ → ℕ → List Float
swapped r i j =
    set (set (set (set r (2 * i) (get_or r (2 * j) nan)) (2 * i + 1) (get_or (set r (2 * i) (get_or r (2 * j) nan)) (2 * j + 1) nan)) (2 * j) (get_or r (2 * i) nan))
    (2 * j + 1) (get_or r (2 * i + 1) nan)

-- each of the first n intervals of one room is one of the other's, and the rest is the same
pub record Rearranged (n : ℕ) (r s : List Float) : Type 0 where
  pub size : length s ≡ length r
  pub to : (k : ℕ) → k < n → (j : ℕ) × (j < n) × (interval_at r k ≡ interval_at s j)
  pub back : (k : ℕ) → k < n → (j : ℕ) × (j < n) × (interval_at s k ≡ interval_at r j)
  pub rest : (k : ℕ) → Prim.Native.Nat.◌≤◌ n k → interval_at s k ≡ interval_at r k

-- ---- what `height` requires
pub record FiniteEnd (i : Interval) : Type 0 where
  pub from : Finite i.from
  pub to : Finite i.to

abbrev pub FiniteEnds : List Interval → Type 0
FiniteEnds is = (i : Interval) → Memᴰ i is → FiniteEnd i
