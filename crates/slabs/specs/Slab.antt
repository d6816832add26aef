-- Document 01, "Strips": the strips of one slab. Definitions only. Assumes nothing.
use Rattle.std.specs.Prelude.{ℕ, zero, suc, ◌+◌, Bool, true, false, not, ◌&&◌, ◌||◌, cond, List, [], ◌∷◌, ◌++◌, ℤ, pos, negsuc, ◌+ℤ◌, Float}
use Rattle.std.specs.Float.Ieee.{lt, le, eq}
use Rattle.numbers.specs.Numbers.{◌⊕◌, ◌⊖◌, ◌⊗◌, ◌⊘◌, smaller, larger}
use Rattle.trapezoid.specs.declared.Trapezoid.{Trapezoid}
use Rattle.slabs.specs.declared.Edge.{Edge}

-- ---- lists

-- f i, f (i + 1), .. : n of them
unfoldable pub up : {A : Type 0} → (ℕ → A) → ℕ → ℕ → List A
up f i zero = []
up f i (suc n) = f i ∷ up f (i + 1) n

-- "sorted .. stably": a goes before the first that does not come strictly before it
unfoldable pub insert : {A : Type 0} → (A → A → Bool) → A → List A → List A
insert first a [] = a ∷ []
insert first a (b ∷ bs) = elim (first b a) [ true ↦ b ∷ insert first a bs | false ↦ a ∷ b ∷ bs ]

-- put in from the last to the first, equal ones keep their order
unfoldable pub sort : {A : Type 0} → (A → A → Bool) → List A → List A
sort first [] = []
sort first (a ∷ as') = insert first a (sort first as')

-- ---- crossings

-- "An edge that is not vertical and spans the slab": it reaches from xa or before to xb or after
unfoldable pub spans : Float → Float → Edge → Bool
spans xa xb e = le e.lo xa && (le xb e.hi && not (eq e.px e.qx))

-- "an edge end's own height where x is that end, else p.y + (x − p.x) / (q.x − p.x) × (q.y − p.y)"
unfoldable pub height_at : Edge → Float → Float
height_at e x = cond (eq x e.px) e.py (cond (eq x e.qx) e.qy (e.py ⊕ (x ⊖ e.px) ⊘ (e.qx ⊖ e.px) ⊗ (e.qy ⊖ e.py)))

-- "d is +1 if q.x > p.x, else −1"
unfoldable pub direction : Edge → ℤ
direction e = cond (lt e.px e.qx) (pos 1) (negsuc 0)

-- "(ya, yb, d)"
pub record Crossing : Type 0 where
  pub ya : Float
  pub yb : Float
  pub d : ℤ

-- "gives (ya, yb, d)"
unfoldable pub crossing : Float → Float → Edge → Crossing
crossing xa xb e = record { ya = height_at e xa; yb = height_at e xb; d = direction e }

unfoldable pub positive : ℤ → Bool
positive (pos zero) = false
positive (pos (suc n)) = true
positive (negsuc n) = false

-- "then +1 before −1, then ya"
unfoldable pub ahead : Crossing → Crossing → Bool
ahead a b =
    cond (positive a.d)
    (cond (positive b.d) (lt a.ya b.ya) true)
    (cond (positive b.d) false (lt a.ya b.ya))

-- "sorted by ya + yb, then +1 before −1, then ya"
unfoldable pub before : Crossing → Crossing → Bool
before a b = lt (a.ya ⊕ a.yb) (b.ya ⊕ b.yb) || eq (a.ya ⊕ a.yb) (b.ya ⊕ b.yb) && ahead a b

-- the crossings of a slab "in edge order"
unfoldable pub spanning : Float → Float → List Edge → List Crossing
spanning xa xb [] = []
spanning xa xb (e ∷ es) = elim (spans xa xb e) [ true ↦ crossing xa xb e ∷ spanning xa xb es | false ↦ spanning xa xb es ]

-- "Crossings are sorted by .., stably in edge order"
unfoldable pub crossings : Float → Float → List Edge → List Crossing
crossings xa xb es = sort before (spanning xa xb es)

-- ---- strips

-- "Each side takes the smaller and larger height at each end": between the lower edge (la, lb) and the upper edge (ya, yb)
unfoldable pub strip : Float → Float → Float → Float → Float → Float → Trapezoid
strip xa xb la lb ya yb = record { x0 = xa; x1 = xb; low0 = smaller la ya; low1 = smaller lb yb; high0 = larger la ya; high1 = larger lb yb }

-- "a strip is kept if high exceeds low at either end"
unfoldable pub kept : Trapezoid → Bool
kept s = lt s.low0 s.high0 || lt s.low1 s.high1

unfoldable pub piece : Bool → Trapezoid → List Trapezoid
piece closed s = elim (closed && kept s) [ true ↦ s ∷ [] | false ↦ [] ]

-- "For a part, strips run from where winding becomes positive to where it stops being so. For the sheet, strips are the rest"
unfoldable pub runs : Bool → ℤ → Bool
runs sheet w = cond sheet (not (positive w)) (positive w)

-- "Winding sums d": at winding w; (la, lb) is the lower edge of the strip that runs. What runs at the end is the sheet's, "of its bounding box", and ends at
-- the top
unfoldable pub walk : Bool → Float → Float → Float → ℤ → Float → Float → List Crossing → List Trapezoid
walk sheet top xa xb w la lb [] = piece (sheet && runs sheet w) (strip xa xb la lb top top)
walk sheet top xa xb w la lb (c ∷ cs) =
    piece (runs sheet w && not (runs sheet (w +ℤ c.d))) (strip xa xb la lb c.ya c.yb)
    ++ walk sheet top xa xb (w +ℤ c.d) (cond (runs sheet w) la c.ya) (cond (runs sheet w) lb c.yb) cs

-- "from zero", "from bottom to top"
unfoldable pub slab : List Edge → Bool → Float → Float → Float → Float → List Trapezoid
slab es sheet bottom top xa xb = walk sheet top xa xb (pos 0) bottom bottom (crossings xa xb es)
