-- The standing copies' strips and reach, copy by copy. Assumes nothing.
use Prim.Native.Nat.{ℕ, zero, suc, ◌+◌, ◌-◌, ◌*◌, ◌≤◌}
use native.Mathlib.Omega.{arith}
use mathlib.Core.Path.{◌≡◌, refl, sym, ap, ◌∙◌}
use mathlib.Core.Logic.{◌≢◌}
use mathlib.Core.List.{List}
use lib.ListN.{get_or}
use lib.Ieee.{Float, nan}
use Rattle.numbers.specs.Numbers.{◌⊕◌, larger}
use Rattle.choose.specs.inner.Choosing.{bounds_at, part_at}
use Rattle.withdraw.specs.standing.inner.Standing.{strips_at, strips_to, right_with, right_over}

-- ---- one copy

-- a number that is not 0 is 1 + an orientation
pub one_more : (n : ℕ) → n ≢ 0 → n ≡ suc (n - 1)
one_more zero h = absurd (h refl)
one_more (suc n) h = omega arith

pub none-strips : (parts : List ℕ) (k n : ℕ) → n ≡ 0 → 0 ≡ strips_at parts k n
unfolding strips_at
none-strips parts k n e = sym (ap (strips_at parts k) e)

pub some-strips : (parts : List ℕ) (k n : ℕ) → n ≢ 0 → (part_at parts (16 * k + (n - 1))).apart_count ≡ strips_at parts k n
unfolding strips_at
some-strips parts k n h = sym (ap (strips_at parts k) (one_more n h))

pub none_right : (bounds : List Float) (r x : Float) (k n : ℕ) → n ≡ 0 → r ≡ right_with bounds r x k n
unfolding right_with
none_right bounds r x k n e = sym (ap (right_with bounds r x k) e)

pub some_right : (bounds : List Float) (r x : Float) (k n : ℕ) → n ≢ 0 → larger r (x ⊕ (bounds_at bounds (16 * k + (n - 1))).right) ≡ right_with bounds r x k n
unfolding right_with
some_right bounds r x k n h = sym (ap (right_with bounds r x k) (one_more n h))

-- ---- one more place

module _ (parts order orientation : List ℕ) where
  pub strips-none : strips_to parts order orientation 0 ≡ 0
  unfolding strips_to
  strips-none = refl

  pub strips_more : (n : ℕ) → strips_to parts order orientation (n + 1)
      ≡ strips_to parts order orientation n + strips_at parts (get_or order n 0) (get_or orientation n 0)
  unfolding strips_to
  strips_more n = let e : n + 1 ≡ suc n = omega arith in ap (strips_to parts order orientation) e

  -- the strips only grow
  pub strips-rise : (n d : ℕ) → strips_to parts order orientation n ≤ strips_to parts order orientation (n + d)
  strips-rise n zero = let e : n + 0 ≡ n = omega arith in let f = ap (strips_to parts order orientation) e in omega arith
  strips-rise n (suc d) =
      let e : n + suc d ≡ n + d + 1 = omega arith in
      let f = ap (strips_to parts order orientation) e in
      let g = strips_more (n + d) in
      let h = strips-rise n d in
      omega arith

  pub strips_upto : (n m : ℕ) → n ≤ m → strips_to parts order orientation n ≤ strips_to parts order orientation m
  strips_upto n m h =
      let e : n + (m - n) ≡ m = omega arith in
      let f = ap (strips_to parts order orientation) e in
      let g = strips-rise n (m - n) in
      omega arith

module _ (bounds : List Float) (order orientation : List ℕ) (x : List Float) (r : Float) (m : ℕ) where
  pub right-none : (i : ℕ) → i ≡ m → r ≡ right_over bounds order orientation x r m (i - m)
  unfolding right_over
  right-none i e = let z : i - m ≡ 0 = omega arith in sym (ap (right_over bounds order orientation x r m) z)

  pub right_more : (i : ℕ) → m ≤ i → right_with bounds (right_over bounds order orientation x r m (i - m)) (get_or x i nan) (get_or order i 0) (get_or orientation i 0)
      ≡ right_over bounds order orientation x r m (i + 1 - m)
  unfolding right_over
  right_more i h =
      let e : i + 1 - m ≡ suc (i - m) = omega arith in
      let f : m + (i - m) ≡ i = omega arith in
      sym (ap (right_over bounds order orientation x r m) e
      ∙ ap (λ (q : ℕ). right_with bounds (right_over bounds order orientation x r m (i - m)) (get_or x q nan) (get_or order q 0) (get_or orientation q 0)) f)
