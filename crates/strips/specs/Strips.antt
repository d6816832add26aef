-- Document 01, "Strips": the strips of a set of loops. The strips of one slab are in the crate slab. Definitions only. Assumes nothing.
use Rattle.std.specs.Prelude.{ℕ, zero, suc, ◌+◌, ◌-◌, ◌*◌, Bool, true, false, cond, List, [], ◌∷◌, ◌++◌, get_or, Float}
use Rattle.std.specs.Float.{nan}
use Rattle.std.specs.Float.Ieee.{lt, eq}
use Rattle.numbers.specs.Numbers.{smaller, larger}
use Rattle.trapezoid.specs.declared.Trapezoid.{Trapezoid}
use Rattle.slabs.specs.declared.Edge.{Edge}
use Rattle.slabs.specs.Slab.{up, sort, slab}
use Rattle.strips.specs.declared.Rect.{Rect}

-- ---- a set: its points lie as x, y, x, y, ..; a loop ends before the point that `ends` says, and the next begins there

unfoldable pub x_of : List Float → ℕ → Float
x_of pts i = get_or pts (2 * i) nan

unfoldable pub y_of : List Float → ℕ → Float
y_of pts i = get_or pts (2 * i + 1) nan

-- "its bounding box": nesting.rs's bounds
unfoldable pub widened : Rect → Float → Float → Rect
widened b x y = record { left = smaller b.left x; bottom = smaller b.bottom y; right = larger b.right x; top = larger b.top y }

unfoldable pub bounds_on : List Float → Rect → ℕ → ℕ → Rect
bounds_on pts b i zero = b
bounds_on pts b i (suc n) = bounds_on pts (widened b (x_of pts i) (y_of pts i)) (i + 1) n

unfoldable pub bounds : List Float → ℕ → Rect
bounds pts n = bounds_on pts (record { left = x_of pts 0; bottom = y_of pts 0; right = x_of pts 0; top = y_of pts 0 }) 0 n

-- ---- slabs

-- "for the sheet also its two bounding x's"
unfoldable pub frame : Bool → Float → Float → List Float
frame sheet left right = cond sheet (left ∷ right ∷ []) []

-- of those that follow a, without what equals the one kept before it
unfoldable pub distinct_from : Float → List Float → List Float
distinct_from a [] = []
distinct_from a (b ∷ bs) = elim (eq a b) [ true ↦ distinct_from a bs | false ↦ b ∷ distinct_from b bs ]

-- "equal ones dropped": of equal neighbours the first is left
unfoldable pub distinct : List Float → List Float
distinct [] = []
distinct (a ∷ bs) = a ∷ distinct_from a bs

-- "All loop x's, and for the sheet also its two bounding x's, are sorted and equal ones dropped."
unfoldable pub xs : List Float → ℕ → Bool → List Float
xs pts n sheet = distinct (sort lt (up (x_of pts) 0 n ++ frame sheet (bounds pts n).left (bounds pts n).right))

-- a slab where xa < xb
unfoldable pub strips_between : List Edge → Bool → Float → Float → Float → Float → List Trapezoid
strips_between es sheet bottom top xa xb = elim (lt xa xb) [ true ↦ slab es sheet bottom top xa xb | false ↦ [] ]

-- "Each neighbouring pair xa < xb is a slab."
unfoldable pub slabs : List Edge → Bool → Float → Float → List Float → List Trapezoid
slabs es sheet bottom top [] = []
slabs es sheet bottom top (a ∷ []) = []
slabs es sheet bottom top (a ∷ b ∷ bs) = strips_between es sheet bottom top a b ++ slabs es sheet bottom top (b ∷ bs)

-- ---- edges

-- the edge from point i to point j
unfoldable pub edge : List Float → ℕ → ℕ → Edge
edge pts i j =
    record { px = x_of pts i; py = y_of pts i; qx = x_of pts j; qy = y_of pts j; lo = smaller (x_of pts i) (x_of pts j); hi = larger (x_of pts i) (x_of pts j) }

-- the point after i, where n more follow in its loop: after the last comes the first
unfoldable pub after : ℕ → ℕ → ℕ → ℕ
after first i zero = first
after first i (suc n) = i + 1

-- "point by point"
unfoldable pub loop_edges : List Float → ℕ → ℕ → ℕ → List Edge
loop_edges pts first i zero = []
loop_edges pts first i (suc n) = edge pts i (after first i n) ∷ loop_edges pts first (i + 1) n

-- "in edge order (loop by loop, point by point)"
unfoldable pub edges : List Float → ℕ → List ℕ → List Edge
edges pts first [] = []
edges pts first (e ∷ es) = loop_edges pts first first (e - first) ++ edges pts e es

-- ---- the strips of the set with the first n points: a part's, or the sheet's

unfoldable pub trapezoids : List Float → ℕ → List ℕ → Bool → List Trapezoid
trapezoids pts n ends sheet = slabs (edges pts 0 ends) sheet (bounds pts n).bottom (bounds pts n).top (xs pts n sheet)
