-- The bounds and the strips of a set with finite numbers of at most 100,000 and no minus zero: finite, not minus zero, within a bound, x0 below x1. Assumes nothing.
use Prim.Native.Nat.{ℕ, zero, suc, ◌+◌, ◌-◌, ◌*◌, ◌≤◌, ◌<◌}
use native.Mathlib.Omega.{arith}
use mathlib.Core.Path.{refl}
use mathlib.Core.List.{List, [], ◌∷◌, ◌++◌}
use mathlib.Core.Bool.{Bool, true, false, cond}
use lib.Dec.{T}
use lib.ListN.{get_or}
use lib.Ieee.{Float, nan, lt, eq}
use Rattle.numbers.specs.Numbers.{smaller, larger}
use Rattle.numbers.proofs.Doubles.{k, finite, lt_yes}
use Rattle.slabs.specs.declared.Edge.{Edge}
use Rattle.slabs.specs.Slab.{up, sort, slab}
use Rattle.slabs.proofs.Sizes.{Coordinate, Height, Good, Sides, wide, all_sort, slab-good}
use Rattle.slabs.proofs.Merging.{All, all_append, all_up}
use Rattle.strips.specs.declared.Rect.{Rect}
use Rattle.strips.specs.Strips.{x_of, y_of, widened, bounds_on, bounds, frame, distinct_from, distinct, xs, strips_between, slabs, edge, after, loop_edges, edges, trapezoids}
use Rattle.strips.specs.inner.Tables.{Loops}

-- all four sides are coordinates
pub record Framed (b : Rect) : Type 0 where
  pub left : Coordinate b.left
  pub bottom : Coordinate b.bottom
  pub right : Coordinate b.right
  pub top : Coordinate b.top

cond_coordinate : (b : Bool) (x y : Float) → Coordinate x → Coordinate y → Coordinate (cond b x y)
cond_coordinate true x y p q = p
cond_coordinate false x y p q = q

widened-framed : (b : Rect) (x y : Float) → Framed b → Coordinate x → Coordinate y → Framed (widened b x y)
unfolding widened smaller larger
widened-framed b x y F X Y = record {
  left = cond_coordinate (lt x b.left) x b.left X F.left;
  bottom = cond_coordinate (lt y b.bottom) y b.bottom Y F.bottom;
  right = cond_coordinate (lt b.right x) x b.right X F.right;
  top = cond_coordinate (lt b.top y) y b.top Y F.top;
}

-- ---- the x's
from_all : (a : Float) (l : List Float) → All Coordinate l → All Coordinate (distinct_from a l)
unfolding distinct_from
from_all a [] p = tt
from_all a (b ∷ l) p = go (eq a b) (from_all a l p.1) (from_all b l p.1)
  where
    go : (t : Bool) → All Coordinate (distinct_from a l) → All Coordinate (distinct_from b l) → All Coordinate (elim t [ true ↦ distinct_from a l | false ↦ b ∷ distinct_from b l ])
    go true q r = q
    go false q r = (p.0, r)

distinct_all : (l : List Float) → All Coordinate l → All Coordinate (distinct l)
unfolding distinct
distinct_all [] p = tt
distinct_all (a ∷ l) p = (p.0, from_all a l p.1)

frame_all : (sheet : Bool) (b : Rect) → Framed b → All Coordinate (frame sheet b.left b.right)
unfolding frame
frame_all true b F = (F.left, (F.right, tt))
frame_all false b F = tt

slabs-good : (es : List Edge) (sheet : Bool) (bottom top : Float) (l : List Float) → All Sides es → Height bottom → Height top → All Coordinate l → All Good (slabs es sheet bottom top l)
unfolding slabs strips_between
slabs-good es sheet bottom top [] S p q c = tt
slabs-good es sheet bottom top (a ∷ []) S p q c = tt
slabs-good es sheet bottom top (a ∷ b ∷ l) S p q c =
    all_append Good (strips_between es sheet bottom top a b) (slabs es sheet bottom top (b ∷ l)) (go (lt a b) (λ t. lt_yes (finite c.0.num) (finite c.1.0.num) t)) (slabs-good es sheet bottom top (b ∷ l) S p q c.1)
  where
    go : (t : Bool) → (T t → k a < k b) → All Good (elim t [ true ↦ slab es sheet bottom top a b | false ↦ [] ])
    go true h = slab-good es sheet bottom top a b S p q c.0 c.1.0 (h tt)
    go false h = tt

-- ---- a set of n points
module _ (pts : List Float) (n : ℕ) (P : (i : ℕ) → i < 2 * n → Coordinate (get_or pts i nan)) where
  x_good : (i : ℕ) → i < n → Coordinate (x_of pts i)
  unfolding x_of
  x_good i h = P (2 * i) (omega arith)

  y_good : (i : ℕ) → i < n → Coordinate (y_of pts i)
  unfolding y_of
  y_good i h = P (2 * i + 1) (omega arith)

  edge-good : (i j : ℕ) → i < n → j < n → Sides (edge pts i j)
  unfolding edge
  edge-good i j h l = record { px = x_good i h; py = y_good i h; qx = x_good j l; qy = y_good j l; lo = refl; hi = refl }

  after-good : (first i m : ℕ) → first < n → i + suc m ≤ n → after first i m < n
  unfolding after
  after-good first i zero h l = h
  after-good first i (suc m) h l = omega arith

  loop_good : (first i m : ℕ) → (0 < m → first < n) → i + m ≤ n → All Sides (loop_edges pts first i m)
  unfolding loop_edges
  loop_good first i zero h l = tt
  loop_good first i (suc m) h l = (edge-good i (after first i m) (omega arith) (after-good first i m (h (omega arith)) l), loop_good first (i + 1) m (λ z. h (omega arith)) (omega arith))

  edges-good : (first : ℕ) (ends : List ℕ) → Loops first ends n → All Sides (edges pts first ends)
  unfolding edges Loops
  edges-good first [] c = tt
  edges-good first (e ∷ es) c = all_append Sides (loop_edges pts first first (e - first)) (edges pts e es) (loop_good first first (e - first) (λ z. omega (arith, c.1)) (omega (arith, c.0, c.1))) (edges-good e es c.2)

  framed_on : (b : Rect) (i m : ℕ) → i + m ≤ n → Framed b → Framed (bounds_on pts b i m)
  unfolding bounds_on
  framed_on b i zero h p = p
  framed_on b i (suc m) h p = framed_on (widened b (x_of pts i) (y_of pts i)) (i + 1) m (omega arith) (widened-framed b (x_of pts i) (y_of pts i) p (x_good i (omega arith)) (y_good i (omega arith)))

  -- the bounds of the set
  pub bounds-framed : 0 < n → Framed (bounds pts n)
  unfolding bounds
  bounds-framed h =
      framed_on (record { left = x_of pts 0; bottom = y_of pts 0; right = x_of pts 0; top = y_of pts 0 }) 0 n (omega arith) (record { left = x_good 0 h; bottom = y_good 0 h; right = x_good 0 h; top = y_good 0 h })

  -- its strips
  pub trapezoids-good : (ends : List ℕ) (sheet : Bool) → 0 < n → Loops 0 ends n → All Good (trapezoids pts n ends sheet)
  unfolding trapezoids xs
  trapezoids-good ends sheet h c =
      let F = bounds-framed h in
      let L = up (x_of pts) 0 n ++ frame sheet (bounds pts n).left (bounds pts n).right in
      slabs-good (edges pts 0 ends) sheet (bounds pts n).bottom (bounds pts n).top (distinct (sort lt L)) (edges-good 0 ends c) (wide F.bottom) (wide F.top)
      (distinct_all (sort lt L) (all_sort Coordinate lt L (all_append Coordinate (up (x_of pts) 0 n) (frame sheet (bounds pts n).left (bounds pts n).right) (all_up Coordinate (x_of pts) 0 n (λ j l. x_good j (omega arith))) (frame_all sheet (bounds pts n) F))))
