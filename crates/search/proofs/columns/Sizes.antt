-- Where bounds and resolution lie within refusal 31's ranges, there are at most 4,000,000,000 columns, and the ranges are finite. Assumes nothing.
use Prim.Native.Nat.{◌-◌, ◌*◌, ◌≤◌, ◌<◌}
use lib.Dec.{lit≤}
use lib.Ieee.{Float, binary64}
use Rattle.numbers.specs.Numbers.{◌⊖◌, ◌⊘◌}
use Rattle.numbers.proofs.Doubles.{k, o, u, Finite, sub_upto}
use Rattle.numbers.proofs.Ranges.{div-within, floor_within}
use Rattle.strips.specs.declared.Rect.{Rect}
use Rattle.index.specs.inner.Listing.{Bounded}
use Rattle.search.specs.columns.inner.Stands.{columns_of}

-- "bound .. not finite or beyond ±1,000,000"
pub record BoundedRect (b : Rect) : Type 0 where
  pub left : Bounded 1000000 b.left
  pub bottom : Bounded 1000000 b.bottom
  pub right : Bounded 1000000 b.right
  pub top : Bounded 1000000 b.top

-- a resolution of at least 0.001
pub record Resolving (r : Float) : Type 0 where
  pub fine : Finite r
  pub some : o < k r
  pub least : u ≤ 1000 * (k r - o)

difference : {x y : Float} → Bounded 1000000 x → Bounded 1000000 y → Bounded 2000000 (x ⊖ y)
difference X Y = let d = sub_upto {a = 1000000} {b = 1000000} X.fine Y.fine X.bound Y.bound (lit≤ tt) in record { fine = d.0; bound = d.1 }

module _ (s b : Rect) (r : Float) (S : BoundedRect s) (B : BoundedRect b) where
  pub x_low-bounded : Bounded 2000000 (columns_of s b r).x_low
  unfolding columns_of
  x_low-bounded = difference S.left B.left

  pub x_high-bounded : Bounded 2000000 (columns_of s b r).x_high
  unfolding columns_of
  x_high-bounded = difference S.right B.right

  pub y_low-bounded : Bounded 2000000 (columns_of s b r).y_low
  unfolding columns_of
  y_low-bounded = difference S.bottom B.bottom

  pub y_high-bounded : Bounded 2000000 (columns_of s b r).y_high
  unfolding columns_of
  y_high-bounded = difference S.top B.top

  pub few-columns : Resolving r → (columns_of s b r).count ≤ 4000000000
  unfolding columns_of
  few-columns R =
      let h = difference S.right B.right in
      let l = difference S.left B.left in
      let d = sub_upto {a = 2000000} {b = 2000000} h.fine l.fine h.bound l.bound (lit≤ tt) in
      let q = div-within binary64 4000000 1000 (s.right ⊖ b.right ⊖ (s.left ⊖ b.left)) r d.0 R.fine d.1 R.some R.least (lit≤ tt) in
      floor_within binary64 64 4000000000 ((s.right ⊖ b.right ⊖ (s.left ⊖ b.left)) ⊘ r) q.0 q.1 (lit≤ tt)
