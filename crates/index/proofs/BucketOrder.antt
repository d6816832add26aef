-- Buckets lie in the order of their x's, over a rounded difference and a rounded quotient; so two ranges that meet share a bucket. Assumes nothing.
use mathlib.Core.Path.{◌≡◌}
use mathlib.Core.Bool.{Bool, true, false, not, cond}
use Prim.Native.Nat.{ℕ, ◌-◌, ◌≤◌, ◌<◌, min, max}
use native.Mathlib.Omega.{arith}
use lib.Dec.{T, lit≤}
use lib.Ieee.{Float, binary64, lt, to_unsigned}
use lib.Ieee.Fits.{div-fits}
use Rattle.numbers.specs.Numbers.{◌⊖◌, ◌⊘◌, smaller, larger}
use Rattle.numbers.proofs.Doubles.{k, Finite, lt_yes, lt_no, sub_upto, sub_mono, div_mono}
use Rattle.numbers.proofs.Operations.{div-real}
use Rattle.numbers.proofs.RoundDown.{floor_mono}
use Rattle.index.specs.declared.Index.{Index}
use Rattle.index.specs.Buckets.{buckets, bucket_in}
use Rattle.index.specs.inner.Listing.{Bounded, Fair}

-- ---- the smaller and the larger of two finite doubles
pub smaller_finite : {a b : Float} → Finite a → Finite b → Finite (smaller a b) × (k (smaller a b) ≡ min (k a) (k b))
unfolding smaller
smaller_finite {a} {b} A B = go (lt b a) (lt_yes B A) (lt_no B A)
  where
    go : (t : Bool) → (T t → k b < k a) → (T (not t) → k a ≤ k b) → Finite (cond t b a) × (k (cond t b a) ≡ min (k a) (k b))
    go true h l = (B, omega (arith, h tt))
    go false h l = (A, omega (arith, l tt))

pub larger_finite : {a b : Float} → Finite a → Finite b → Finite (larger a b) × (k (larger a b) ≡ max (k a) (k b))
unfolding larger
larger_finite {a} {b} A B = go (lt a b) (lt_yes A B) (lt_no A B)
  where
    go : (t : Bool) → (T t → k a < k b) → (T (not t) → k b ≤ k a) → Finite (cond t b a) × (k (cond t b a) ≡ max (k a) (k b))
    go true h l = (B, omega (arith, h tt))
    go false h l = (A, omega (arith, l tt))

module _ (ix : Index) (I : Fair ix) where
  pub bucket_mono : (x y : Float) → Bounded 4000000 x → Bounded 4000000 y → k x ≤ k y → bucket_in ix x ≤ bucket_in ix y
  unfolding bucket_in
  bucket_mono x y X Y h =
      z (to_unsigned 64 ((x ⊖ ix.x0) ⊘ ix.width)) (to_unsigned 64 ((y ⊖ ix.x0) ⊘ ix.width))
      (floor_mono binary64 64 ((x ⊖ ix.x0) ⊘ ix.width) ((y ⊖ ix.x0) ⊘ ix.width) (div-fits binary64 (x ⊖ ix.x0) ix.width) (div-fits binary64 (y ⊖ ix.x0) ix.width)
      (div-real binary64 (x ⊖ ix.x0) ix.width (D x X) I.width I.some) (div-real binary64 (y ⊖ ix.x0) ix.width (D y Y) I.width I.some) (lit≤ tt)
      (div_mono (D x X) (D y Y) I.width I.some (sub_mono X.fine I.start.fine Y.fine I.start.fine (omega arith))))
    where
      D : (x : Float) → Bounded 4000000 x → Finite (x ⊖ ix.x0)
      D x X = (sub_upto {a = 4000000} {b = 4000000} X.fine I.start.fine X.bound I.start.bound (lit≤ tt)).0

      z : (a b : ℕ) → a ≤ b → min a (buckets - 1) ≤ min b (buckets - 1)
      z a b h = omega arith

  -- two ranges p0..p1 and q0..q1 that meet share a bucket: the larger of their first ones
  pub bucket_meets : (p0 p1 q0 q1 : Float) → Bounded 4000000 p0 → Bounded 4000000 p1 → Bounded 4000000 q0 → Bounded 4000000 q1 → k p0 ≤ k p1 → k q0 ≤ k q1 → k p0 ≤ k q1 → k q0 ≤ k p1
      → (max (bucket_in ix q0) (bucket_in ix p0) ≤ bucket_in ix q1) × (max (bucket_in ix q0) (bucket_in ix p0) ≤ bucket_in ix p1)
  bucket_meets p0 p1 q0 q1 P0 P1 Q0 Q1 a b c d =
      let i = bucket_mono p0 p1 P0 P1 a in
      let j = bucket_mono q0 q1 Q0 Q1 b in
      let m = bucket_mono p0 q1 P0 Q1 c in
      let l = bucket_mono q0 p1 Q0 P1 d in
      (omega arith, omega arith)
