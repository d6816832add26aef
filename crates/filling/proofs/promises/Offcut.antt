-- The offcut is a number, never minus zero and never below zero; it is at most what right leaves, and every standing strip ends
-- at or left of where it begins. Assumes nothing.
use Prim.Native.Nat.{ℕ, zero, suc, ◌+◌, ◌*◌, ◌≤◌, ◌<◌, max}
use native.Mathlib.Nat.{le_trans, eq-or-lt_of_le}
use native.Mathlib.Omega.{arith}
use mathlib.Core.Path.{◌≡◌, sym, ap, subst}
use mathlib.Core.Logic.{◌⊎◌, inl, inr}
use mathlib.Core.Bool.{true}
use mathlib.Core.List.{List, foldl}
use lib.Dec.{lit≤}
use lib.Ieee.{Float, binary64, lt, le}
use lib.Ieee.Fits.{sub-fits}
use Rattle.numbers.specs.Numbers.{◌⊖◌, larger, pos_zero}
use Rattle.numbers.proofs.Operations.{sub-real}
use Rattle.numbers.proofs.Bounds.{sub_neg}
use Rattle.numbers.proofs.Ranges.{zero_num, zero-key, larger-key, cond_num}
use Rattle.numbers.proofs.Doubles.{k, o, u, Number, Upto, Small, finite, sub_upto, sub_number, sub_mono, sub_nonneg}
use Rattle.numbers.proofs.Truth.{below_or_not}
use Rattle.trapezoid.specs.Strip.{strip_at, capacity}
use Rattle.trapezoid.proofs.Sizes.{small_more}
use Rattle.index.specs.Buckets.{up_from}
use Rattle.look.proofs.height.SmallestHeight.{Real, real_of, is_lt, is_not-lt, is_le}
use Rattle.filling.specs.Accounts.{reach_of, not_below_zero}

-- ---- the larger of numbers

module _ (f : ℕ → Float) where
  abbrev largest : ℕ → ℕ → Float → Float
  largest n c a = foldl (λ r i. larger r (f i)) a (up_from n c)

  record Largest (n c : ℕ) (a : Float) : Type 0 where
    num : Number (largest n c a)
    first : k a ≤ k (largest n c a)
    others : (i : ℕ) → c ≤ i → i < c + n → k (f i) ≤ k (largest n c a)

  is_largest : (n c : ℕ) (a : Float) → Number a → ((i : ℕ) → c ≤ i → i < c + n → Number (f i)) → Largest n c a
  unfolding up_from larger
  is_largest zero c a h g = record { num = h; first = omega arith; others = λ i l b. absurd (omega arith) }
  is_largest (suc n) c a h g =
      let C = g c (omega arith) (omega arith) in
      let e : k (larger a (f c)) ≡ max (k a) (k (f c)) = larger-key binary64 a (f c) h C in
      let r = is_largest n (suc c) (larger a (f c)) (cond_num binary64 (lt a (f c)) (f c) a C h) (λ i l b. g i (omega arith) (omega arith)) in
      record {
        num = r.num;
        first = (let q = r.first in omega (arith, e, q));
        others = λ i l b. go i b r.first e (r.others i) (eq-or-lt_of_le l);
      }
    where
      go : (i : ℕ) → i < c + suc n → k (larger a (f c)) ≤ k (largest n (suc c) (larger a (f c))) → k (larger a (f c)) ≡ max (k a) (k (f c))
          → (suc c ≤ i → i < suc c + n → k (f i) ≤ k (largest n (suc c) (larger a (f c)))) → (c ≡ i) ⊎ (c < i)
          → k (f i) ≤ k (largest n (suc c) (larger a (f c)))
      go i b q e r (inl z) = subst (λ (m : ℕ). k (f m) ≤ k (largest n (suc c) (larger a (f c)))) z (omega (arith, e, q))
      go i b q e r (inr l) = r l (omega arith)

-- how far strips reach: a number, at or right of a and of every strip's x1
pub record Reaches (a : Float) (strips : List Float) : Type 0 where
  pub num : Number (reach_of a strips)
  pub first : k a ≤ k (reach_of a strips)
  pub covers : (i : ℕ) → i < capacity strips → le (strip_at strips i).x1 (reach_of a strips) ≡ true

pub reaches : (a : Float) (strips : List Float) → Number a → ((i : ℕ) → i < capacity strips → Number (strip_at strips i).x1) → Reaches a strips
unfolding reach_of
reaches a strips h g =
    let r = is_largest (λ i. (strip_at strips i).x1) (capacity strips) 0 a h (λ i l b. g i (omega arith)) in
    record {
      num = r.num;
      first = r.first;
      covers = λ i b. is_le (real_of (finite (g i b))) (real_of (finite r.num)) (r.others i (omega arith) (omega arith));
    }

-- ---- what is left of the sheet's width

zero-real : Real pos_zero
zero-real = real_of (finite (zero_num binary64))

-- the sheet's right edge, right, and how far the strips reach
module _ {edge right reach : Float} (E : Small 100000 edge) (R : Small 710000 right) (M : Number reach) (h : k right ≤ k reach) where
  -- the strips reach past the sheet
  left-none : k edge < k reach → not_below_zero (edge ⊖ reach) ≡ pos_zero
  unfolding not_below_zero
  left-none l =
      let d : Real (edge ⊖ reach) = record { fit = sub-fits binary64 edge reach; is_real = sub-real binary64 edge reach (finite E.num) (finite M) } in
      let b = sub_neg binary64 edge reach (finite E.num) (finite M) l in
      let z = zero-key binary64 in
      rw (is_lt d zero-real (omega (arith, b, z)))

  -- they do not
  record Some : Type 0 where
    num : Number (edge ⊖ reach)
    from : o ≤ k (edge ⊖ reach)
    is : not_below_zero (edge ⊖ reach) ≡ edge ⊖ reach

  left-some : k reach ≤ k edge → Some
  unfolding not_below_zero
  left-some l =
      let m = small_more E (lit≤ tt) in
      let B : Upto 710000 reach = record { at_least = low (k right) (k reach) (710000 * u) h R.bound.at_least; at_most = le_trans l m.bound.at_most } in
      let f = sub_upto (finite E.num) (finite M) E.bound B (lit≤ tt) in
      let n = sub_number E.num (finite M) f.0 in
      let p = sub_nonneg (finite E.num) (finite M) l in
      let z = zero-key binary64 in
      record { num = n; from = p; is = rw (is_not-lt (real_of (finite n)) zero-real (omega (arith, p, z))) }
    where
      low : (a b m : ℕ) → a ≤ b → o ≤ a + m → o ≤ b + m
      low a b m x y = omega arith

  pub left-number : Number (not_below_zero (edge ⊖ reach))
  left-number = go (below_or_not (k edge) (k reach))
    where
      go : (k edge < k reach) ⊎ (k reach ≤ k edge) → Number (not_below_zero (edge ⊖ reach))
      go (inl l) = subst Number (sym (left-none l)) (zero_num binary64)
      go (inr l) = let q = left-some l in subst Number (sym q.is) q.num

  left_key : o ≤ k (not_below_zero (edge ⊖ reach))
  left_key = go (below_or_not (k edge) (k reach))
    where
      go : (k edge < k reach) ⊎ (k reach ≤ k edge) → o ≤ k (not_below_zero (edge ⊖ reach))
      go (inl l) = let e = ap k (left-none l) in let z = zero-key binary64 in omega (arith, e, z)
      go (inr l) = let q = left-some l in subst (λ (x : Float). o ≤ k x) (sym q.is) q.from

  -- never below zero
  pub left-from : le pos_zero (not_below_zero (edge ⊖ reach)) ≡ true
  left-from = let z = zero-key binary64 in let b = left_key in is_le zero-real (real_of (finite left-number)) (omega (arith, z, b))

-- never more than what right leaves
module _ {edge right reach : Float} (E : Small 100000 edge) (R : Small 710000 right) (M : Number reach) (h : k right ≤ k reach) where
  self : k right ≤ k right
  self = omega arith

  pub left_upto : le (not_below_zero (edge ⊖ reach)) (not_below_zero (edge ⊖ right)) ≡ true
  left_upto = is_le (real_of (finite (left-number E R M h))) (real_of (finite (left-number E R R.num self))) (go (below_or_not (k edge) (k reach)))
    where
      go : (k edge < k reach) ⊎ (k reach ≤ k edge) → k (not_below_zero (edge ⊖ reach)) ≤ k (not_below_zero (edge ⊖ right))
      go (inl l) = let e = ap k (left-none E R M h l) in let z = zero-key binary64 in let b = left_key E R R.num self in omega (arith, e, z, b)
      go (inr l) =
          let p = left-some E R M h l in
          let q = left-some E R R.num self (le_trans h l) in
          let m = sub_mono (finite E.num) (finite M) (finite E.num) (finite R.num) (omega arith) in
          let a = ap k p.is in
          let b = ap k q.is in
          omega (arith, m, a, b)
