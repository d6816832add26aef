-- Numbers of bounded size pass the tests of 31; a column's distance from the first and a sum of areas are of bounded size. Assumes nothing.
use mathlib.Core.Path.{◌≡◌, refl, sym, ap, subst, ◌∙◌}
use mathlib.Core.Logic.{inl, inr}
use mathlib.Core.Bool.{Bool, true, false}
use Prim.Native.Nat.{ℕ, zero, suc, ◌+◌, ◌-◌, ◌*◌, ◌/◌, ◌^◌, ◌≤◌, ◌<◌, min}
use native.Mathlib.Nat.{le_trans, le_of_eq, suc-mul, mul-one, mul_assoc, mul_right_comm, mul-le-mul_right, mul-pos, le-div_iff_mul-le}
use native.Mathlib.Omega.{arith}
use lib.Dec.{T, lit≤, lit<}
use lib.Ieee.{Float, binary64, fits, le, neg, to_unsigned, unlike, of_int}
use lib.Ieee.Fits.{mul-fits}
use lib.Ieee.Scale.{finite}
use Rattle.numbers.specs.Numbers.{◌⊕◌, ◌⊗◌, ◌⊘◌, from_int, pos_zero}
use Rattle.numbers.proofs.Truth.{is_true, below_or_not, holds}
use Rattle.numbers.proofs.Keys.{mag, negative, shift, unit-pos, finite_real, key→le}
use Rattle.numbers.proofs.Rounding.{near, near_mono, key-pos}
use Rattle.numbers.proofs.Operations.{neg_fin, neg_key, mul-key, mul-real, div-key}
use Rattle.numbers.proofs.Bounds.{near-whole, value_key, within_finite}
use Rattle.numbers.proofs.RoundDown.{floor_is}
use Rattle.numbers.proofs.Ranges.{int_num, zero_num, zero-key, zero-add, nonneg_minus, div-within, floor_within, tested_within}
use Rattle.numbers.proofs.Literals.{milli, milli_num, milli_reach}
use Rattle.numbers.proofs.Doubles as Doubles
use Rattle.numbers.proofs.Doubles.{k, o, u, Finite, Number, Upto, Small, add_mono}
use Rattle.trapezoid.proofs.Sizes.{small_more}
use Rattle.bits.proofs.Accepted.{UpFrom, resolution-least}
use Rattle.index.specs.inner.Listing.{Bounded}
use Rattle.filling.specs.Consistent.{bounded, resolution_fits}

-- a test of two numbers from their keys
pub le_of_keys : {x y : Float} → Finite x → Finite y → k x ≤ k y → le x y ≡ true
le_of_keys {x} {y} X Y h = is_true (le x y) (key→le binary64 x y X.fit Y.fit (finite_real x X.is_finite) (finite_real y Y.is_finite) h)

-- ---- "not finite or beyond ±1,000,000"

limit-low : T (fits binary64 (neg (from_int 1_000_000))) × lib.Ieee.Exact.HasValue (neg (from_int 1_000_000)) true 1000000 1
unfolding fits neg of_int
limit-low = (tt, (refl, refl))

limit-high : T (fits binary64 (from_int 1_000_000)) × lib.Ieee.Exact.HasValue (from_int 1_000_000) false 1000000 1
unfolding fits of_int
limit-high = (tt, (refl, refl))

pub tested_bounded : (x : Float) → T (fits binary64 x) → le (neg (from_int 1_000_000)) x ≡ true → le x (from_int 1_000_000) ≡ true → Bounded 1000000 x
tested_bounded x f l h = let t = tested_within binary64 1000000 (neg (from_int 1_000_000)) (from_int 1_000_000) x limit-low.0 limit-high.0 f limit-low.1 limit-high.1 (holds l) (holds h) (lit≤ tt) in record { fine = t.0; bound = t.1 }

limit : Number (from_int 1_000_000) × (k (from_int 1_000_000) ≡ o + 1000000 * u)
limit = int_num binary64 1000000 (lit≤ tt)

pub small-bounded : {n : ℕ} {x : Float} → Small n x → n ≤ 1000000 → bounded x ≡ true
unfolding bounded
small-bounded {n} {x} S h =
    let W = small_more S h in
    let L = Doubles.finite limit.0 in
    let N = neg_fin binary64 (from_int 1_000_000) L in
    let X = Doubles.finite S.num in
    rw (
      is_true (finite x) S.num.is_finite,
      le_of_keys N X (low (k (neg (from_int 1_000_000))) (k (from_int 1_000_000)) (k x) (1000000 * u) (neg_key binary64 (from_int 1_000_000) L) limit.1 W.bound.at_least),
      le_of_keys X L (high (k (from_int 1_000_000)) (k x) (1000000 * u) limit.1 W.bound.at_most),
    )
  where
    low : (n l x m : ℕ) → n + l ≡ o + o → l ≡ o + m → o ≤ x + m → n ≤ x
    low n l x m a b c = omega arith

    high : (l x m : ℕ) → l ≡ o + m → x ≤ o + m → x ≤ l
    high l x m a b = omega arith

-- ---- "a .. resolution .. beyond its range"

pub resolution-fits : {r : Float} → UpFrom milli 10000 r → resolution_fits r ≡ true
unfolding resolution_fits
resolution-fits {r} R =
    let M = int_num binary64 10000 (lit≤ tt) in
    let F = Doubles.finite R.num in
    rw (ap (λ (x : Float). le x r) resolution-least ∙ le_of_keys (Doubles.finite milli_num) F R.low, le_of_keys F (Doubles.finite M.0) (subst (λ (n : ℕ). k r ≤ n) (sym M.1) R.high.at_most))

-- ---- column c's distance from the first: c × resolution

-- a quotient that reaches c is at least c less one before it is rounded
pub quotient_from : (a b c : ℕ) → 0 < b → c ≤ 2 ^ 53 → c * u ≤ near binary64 a b → c * b ≤ a + b
quotient_from a b zero p h l = let z : 0 * b ≡ 0 = native.Mathlib.Nat.zero-mul b in omega arith
quotient_from a b (suc m) p h l = elim (below_or_not a (m * b)) [
  | inl g ↦ absurd (no (m * u) (suc m * u) (near binary64 a b) u (suc-mul m u) l (le_trans (near_mono binary64 a b m 1 p (lit< tt) (le_trans (le_of_eq (mul-one a)) (native.Mathlib.Nat.le_of_lt g))) (le_of_eq (near-whole binary64 m (omega arith)))) (unit-pos binary64))
  | inr g ↦ last (m * b) (suc m * b) (suc-mul m b) g
]
  where
    no : (m s n u : ℕ) → s ≡ m + u → s ≤ n → n ≤ m → 0 < u → ⊥
    no m s n u e g h l = omega arith

    last : (m s : ℕ) → s ≡ m + b → m ≤ a → s ≤ a + b
    last m s e h = omega arith

-- a product of bounded size
mul-size : (n : ℕ) (x y : Float) → Finite x → Finite y → mag binary64 x * mag binary64 y ≤ n * (u * u) → n ≤ 2 ^ 53 → Finite (x ⊗ y) × Upto n (x ⊗ y)
mul-size n x y X Y h l = (record { fit = mul-fits binary64 x y; is_finite = within_finite binary64 (x ⊗ y) n (mul-fits binary64 x y) (mul-real binary64 x y X Y) l W }, W)
  where
    go : (s : Bool) (m : ℕ) → k (x ⊗ y) ≡ shift o s m → m ≤ n * u → Upto n (x ⊗ y)
    go true m e l = record { at_least = omega arith; at_most = omega arith }
    go false m e l = record { at_least = omega arith; at_most = omega arith }

    W : Upto n (x ⊗ y)
    W = go (unlike (negative x) (negative y)) (near binary64 (mag binary64 x * mag binary64 y) (u * u)) (mul-key binary64 x y X Y)
        (le_trans (near_mono binary64 (mag binary64 x * mag binary64 y) (u * u) n 1 (mul-pos (unit-pos binary64) (unit-pos binary64)) (lit< tt) (le_trans (le_of_eq (mul-one (mag binary64 x * mag binary64 y))) h)) (le_of_eq (near-whole binary64 n l)))

module _ {r d : Float} (R : UpFrom milli 10000 r) (D : Finite d) (P : o ≤ k d) (B : Upto 400000 d) where
  reach : u ≤ 1001 * (k r - o)
  reach = let a = milli_reach in let b = R.low in z u (k milli) (k r) o a b
    where
      z : (u m r o : ℕ) → u ≤ 1001 * (m - o) → m ≤ r → u ≤ 1001 * (r - o)
      z u m r o a b = omega arith

  above : o < k r
  above = let a = reach in let b = unit-pos binary64 in z u (k r) o a b
    where
      z : (u r o : ℕ) → u ≤ 1001 * (r - o) → 0 < u → o < r
      z u r o a b = omega arith

  F : Finite r
  F = Doubles.finite R.num

  columns-few : to_unsigned 64 (d ⊘ r) ≤ 400400000
  columns-few = let q = div-within binary64 400000 1001 d r D F B above reach (lit≤ tt) in floor_within binary64 64 400400000 (d ⊘ r) q.0 q.1 (lit≤ tt)

  module _ (c : ℕ) (h : c ≤ to_unsigned 64 (d ⊘ r)) where
    few : c ≤ 2 ^ 53
    few = le_trans h (le_trans columns-few (lit≤ tt))

    whole : c * u ≤ k (d ⊘ r) - o
    whole =
        let q = div-within binary64 400000 1001 d r D F B above reach (lit≤ tt) in
        (le-div_iff_mul-le (unit-pos binary64)).0 (z c ((k (d ⊘ r) - o) / u) (2 ^ 64 - 1) (subst (λ (n : ℕ). c ≤ n) (floor_is binary64 64 (d ⊘ r) q.0.fit (finite_real (d ⊘ r) q.0.is_finite) (lit≤ tt)) h))
      where
        z : (c a b : ℕ) → c ≤ min a b → c ≤ a
        z c a b h = omega arith

    reached : c * u ≤ near binary64 (k d - o) (k r - o)
    reached = z (c * u) (k (d ⊘ r)) (near binary64 (k d - o) (k r - o)) whole (div-key binary64 d r D F above ∙ key-pos binary64 (k d) o (k r - o) P)
      where
        z : (a q n : ℕ) → a ≤ q - o → q ≡ o + n → a ≤ n
        z a q n h e = omega arith

    product : c * (k r - o) ≤ 410000 * u
    product = z (c * (k r - o)) (k d) (k r) u (quotient_from (k d - o) (k r - o) c (y (k r) above) few reached) B.at_most R.high.at_most
      where
        y : (r : ℕ) → o < r → 0 < r - o
        y r h = omega arith

        z : (p d r u : ℕ) → p ≤ (d - o) + (r - o) → d ≤ o + 400000 * u → r ≤ o + 10000 * u → p ≤ 410000 * u
        z p d r u a b e = omega arith

    pub column_upto : Finite (from_int c ⊗ r) × Upto 410000 (from_int c ⊗ r)
    column_upto =
        let C = int_num binary64 c few in
        let m : mag binary64 (from_int c) ≡ c * u = x (k (from_int c)) (mag binary64 (from_int c)) (c * u) C.1 (nonneg_minus binary64 (from_int c) C.0 (w (k (from_int c)) (c * u) C.1)).1 in
        let n : mag binary64 r ≡ k r - o = y (k r) (mag binary64 r) (nonneg_minus binary64 r R.num (native.Mathlib.Nat.le_of_lt above)).1 in
        mul-size 410000 (from_int c) r (Doubles.finite C.0) F
        (subst (λ (a : ℕ). a * mag binary64 r ≤ 410000 * (u * u)) (sym m) (subst (λ (b : ℕ). c * u * b ≤ 410000 * (u * u)) (sym n)
        (le_trans (le_of_eq (mul_right_comm c u (k r - o))) (le_trans (mul-le-mul_right u product) (le_of_eq (mul_assoc 410000 u u))))))
        (lit≤ tt)
      where
        w : (a b : ℕ) → a ≡ o + b → o ≤ a
        w a b e = omega arith

        x : (a m b : ℕ) → a ≡ o + b → a ≡ o + m → m ≡ b
        x a m b e f = omega arith

        y : (r m : ℕ) → r ≡ o + m → m ≡ r - o
        y r m e = omega arith

-- ---- sums of numbers that are not negative

pub zero-small : Small 0 pos_zero
zero-small = let e = zero-key binary64 in record { num = zero_num binary64; bound = record { at_least = z (k pos_zero) (0 * u) e; at_most = y (k pos_zero) (0 * u) e } }
  where
    z : (a b : ℕ) → a ≡ o → o ≤ a + b
    z a b e = omega arith

    y : (a b : ℕ) → a ≡ o → a ≤ o + b
    y a b e = omega arith

pub sum_grows : {x y : Float} → Finite x → Finite y → o ≤ k x → o ≤ k y → o ≤ k (x ⊕ y)
sum_grows {x} {y} X Y a b =
    let Z = Doubles.finite (zero_num binary64) in
    let s = (zero-add binary64 pos_zero Z).1 in
    let t = zero-key binary64 in
    z (k pos_zero) (k (pos_zero ⊕ pos_zero)) (k (x ⊕ y)) t s (add_mono Z Z X Y (w (k pos_zero) (k x) (k y) t a b))
  where
    w : (p x y : ℕ) → p ≡ o → o ≤ x → o ≤ y → p + p ≤ x + y
    w p x y e a b = omega arith

    z : (p q r : ℕ) → p ≡ o → q ≡ p → q ≤ r → o ≤ r
    z p q r e f h = omega arith

-- "an area outside 0..1e16"
pub most : T (fits binary64 (from_int 10_000_000_000_000_000)) × T (finite (from_int 10_000_000_000_000_000)) × lib.Ieee.Exact.HasValue (from_int 10_000_000_000_000_000) false 10000000000000000 1
unfolding fits of_int
most = (tt, tt, (refl, refl))

pub gap-high : {x : Float} → Small 400000 x → le x (from_int 1_000_000) ≡ true
gap-high {x} S = le_of_keys (Doubles.finite S.num) (Doubles.finite limit.0) (high (k (from_int 1_000_000)) (k x) u limit.1 S.bound.at_most)
  where
    high : (l x u : ℕ) → l ≡ o + 1000000 * u → x ≤ o + 400000 * u → x ≤ l
    high l x u e h = omega arith

pub area-low : {x : Float} → Finite x → o ≤ k x → le pos_zero x ≡ true
area-low {x} X h = le_of_keys (Doubles.finite (zero_num binary64)) X (subst (λ (n : ℕ). n ≤ k x) (sym (zero-key binary64)) h)

pub area-high : {x : Float} → Finite x → Upto 4096000000000000 x → le x (from_int 10_000_000_000_000_000) ≡ true
area-high {x} X h = le_of_keys X (record { fit = most.0; is_finite = most.1 }) (subst (λ (n : ℕ). k x ≤ n) (sym (value_key binary64 (from_int 10_000_000_000_000_000) false 10000000000000000 most.0 most.2)) (z (k x) u h.at_most))
  where
    z : (x u : ℕ) → x ≤ o + 4096000000000000 * u → x ≤ o + 10000000000000000 * u
    z x u h = omega arith
