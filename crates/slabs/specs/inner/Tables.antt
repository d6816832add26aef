-- How the work tables lie; inner functions' contracts only. No sentence of document 01 stands here. Assumes nothing.
use Rattle.std.specs.Prelude.{Option, Some, None, ℕ, zero, suc, ◌+◌, ◌*◌, ◌≤◌, ◌≡◌}
use Rattle.std.specs.Prelude.{Bool, true, false, not, cond, List, [], ◌∷◌, get_or, set, T, ltb, pos, negsuc, Float}
use Rattle.std.specs.Float.{nan, binary64}
use Rattle.std.specs.Float.Ieee.{lt, eq, fits, of_bits}
use Rattle.numbers.specs.Numbers.{◌⊕◌}
use Rattle.trapezoid.specs.declared.Trapezoid.{Trapezoid}
use Rattle.trapezoid.specs.Strip.{capacity}
use Rattle.trapezoid.specs.inner.Writing.{set_strip}
use Rattle.slabs.specs.declared.Edge.{Edge}
use Rattle.slabs.specs.declared.Row.{Row}
use Rattle.slabs.specs.Slab.{Crossing, before, crossings}

-- f (n - 1), .., f 0
unfoldable pub down : {A : Type 0} → (ℕ → A) → ℕ → List A
down f zero = []
down f (suc n) = f n ∷ down f n

-- two sorted lists as one: of equal ones the left list's go first
unfoldable pub merge : {A : Type 0} → (A → A → Bool) → List A → List A → List A
merge first [] bs = bs
merge first (a ∷ as') [] = a ∷ as'
merge first (a ∷ as') (b ∷ bs) = elim (first b a) [ true ↦ b ∷ merge first (a ∷ as') bs | false ↦ a ∷ merge first as' (b ∷ bs) ]

unfoldable pub edge_at : List Float → ℕ → Edge
edge_at es i = record {
  px = get_or es (6 * i) nan;
  py = get_or es (6 * i + 1) nan;
  qx = get_or es (6 * i + 2) nan;
  qy = get_or es (6 * i + 3) nan;
  lo = get_or es (6 * i + 4) nan;
  hi = get_or es (6 * i + 5) nan;
}

unfoldable pub set_edge : List Float → ℕ → Edge → List Float
set_edge es i e =
    set (set (set (set (set (set es (6 * i) e.px) (6 * i + 1) e.py) (6 * i + 2) e.qx) (6 * i + 3) e.qy) (6 * i + 4) e.lo) (6 * i + 5) e.hi

unfoldable pub row_at : List Float → ℕ → Row
row_at rs i = record { ya = get_or rs (3 * i) nan; yb = get_or rs (3 * i + 1) nan; d = get_or rs (3 * i + 2) nan }

unfoldable pub set_row : List Float → ℕ → Row → List Float
set_row rs i c = set (set (set rs (3 * i) c.ya) (3 * i + 1) c.yb) (3 * i + 2) c.d

-- the 0.0 of the code
abbrev pub zero_bits : Float
zero_bits = of_bits binary64 0

-- the crossing that a row stands for
unfoldable pub crossing_of : Row → Crossing
crossing_of r = record { ya = r.ya; yb = r.yb; d = cond (lt zero_bits r.d) (pos 1) (negsuc 0) }

unfoldable pub crossing_at : List Float → ℕ → Crossing
crossing_at rs i = crossing_of (row_at rs i)

-- b stays before a, which comes after it in edge order
unfoldable pub behind : Crossing → Crossing → Bool
behind b a = not (before a b)

-- a test of rows, told by what its calls answer, is the order's
unfoldable pub Orders : (Row → Row → Bool → Type 0) → (Crossing → Crossing → Bool) → Type 0
Orders answers order = (b c : Row) (r : Bool) → answers b c r → r ≡ order (crossing_of b) (crossing_of c)

-- the first n rows are the sorted crossings of at most count edges; or they were not gathered
unfoldable pub GatheredIs : Option ℕ → List Float → ℕ → Float → Float → List Edge → Type 0
GatheredIs None rs count xa xb es = Unit {0}
GatheredIs (Some n) rs count xa xb es = (n ≤ count) × (down (crossing_at rs) n ≡ crossings xa xb es)

-- a double that equals itself, so no NaN
unfoldable pub Number : Float → Type 0
Number x = T (fits binary64 x) × (eq x x ≡ true)

-- a crossing that has a place in the order
unfoldable pub Placed : Crossing → Type 0
Placed c = Number (c.ya ⊕ c.yb) × Number c.ya

-- a room and how many strips it holds; the count stops at one more than fit
pub record Held : Type 0 where
  pub room : List Float
  pub count : ℕ

unfoldable pub put : Held → Trapezoid → Held
put h s =
    elim (ltb h.count (capacity h.room)) [
      | true ↦ record { room = set_strip h.room h.count s; count = h.count + 1 }
      | false ↦ record { room = h.room; count = capacity h.room + 1 }
    ]

unfoldable pub hold : Held → List Trapezoid → Held
hold h [] = h
hold h (s ∷ ss) = hold (put h s) ss
