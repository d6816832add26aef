-- Rounding down, as Rust's saturating `as` has it, by keys; and the bucket of an x. Assumes nothing.
use Rattle.std.proofs.Common.{◌≡◌, ℕ, suc, ◌+◌, ◌-◌, ◌*◌, ◌/◌, ◌^◌, ◌<◌, ◌≤◌, min, true, false, not, T, ℤ, pos, sym, refl, ap, ◌∙◌, subst, mul-le-mul_right, mul_comm, div-lt_iff_lt-mul, lt_of_not-le, le-div_iff_mul-le, mul-div_cancel, arith, T_not, pow_pos, pow_mono, pow-add}
use native.Mathlib.Nat.{zero-div}
use lib.Ieee.{Float, nan, inf, fin, Format, binary64, emax, low, up, down, fits, le, lt, to_unsigned}
use lib.Ieee.Fits.{down_pos}
use lib.Ieee.Nearest as Nearest
use lib.Ieee.Exact.{HasValue}
use Rattle.numbers.proofs.Keys.{mid, unit, mag, key, unit-pos, mid-pos, mag-exact, real, le→key, key→le, key→lt}
use Rattle.numbers.proofs.Bounds.{value_key}

floor_fin : (f : Format) (m : ℕ) (e : ℤ) → T (fits f (fin false m e)) → m * up e / down e ≡ (key f (fin false m e) - mid f) / unit f
unfolding key
floor_fin f m e p = Nearest.div_same (m * up e) (down e) (mag f (fin false m e)) (unit f) (down_pos e) (unit-pos f) (sym (mag-exact f false m e p)) ∙ ap (λ (k : ℕ). k / unit f) (omega arith)

mid_over : (f : Format) → mid f / unit f ≡ 2 ^ suc (emax f)
unfolding mid unit
mid_over f = ap (λ (k : ℕ). k / 2 ^ low f) (pow-add 2 (low f) (suc (emax f)) ∙ mul_comm (2 ^ low f) (2 ^ suc (emax f))) ∙ mul-div_cancel (2 ^ suc (emax f)) (pow_pos (low f))

nothing : (u c k m : ℕ) → k ≤ m → 0 ≡ min ((k - m) / u) c
nothing u c k m h = omega (arith, ap (λ (r : ℕ). r / u) (y k m h) ∙ zero-div u)
  where
    y : (k m : ℕ) → k ≤ m → k - m ≡ 0
    y k m h = omega arith

-- Rust's `as` to an unsigned integer of w bits is the whole part of the key above `mid`, cut at the largest
pub floor_is : (f : Format) (w : ℕ) (x : Float) → T (fits f x) → T (real x) → w ≤ suc (emax f) → to_unsigned w x ≡ min ((key f x - mid f) / unit f) (2 ^ w - 1)
unfolding to_unsigned key mag
floor_is f w nan p r h = absurd r
floor_is f w (inf true) p r h = nothing (unit f) (2 ^ w - 1) (mid f - mid f) (mid f) (omega arith)
floor_is f w (inf false) p r h = omega (arith, ap (λ (k : ℕ). k / unit f) (y (mid f)) ∙ mid_over f, pow_mono h)
  where
    y : (m : ℕ) → m + m - m ≡ m
    y m = omega arith
floor_is f w (fin true m e) p r h = nothing (unit f) (2 ^ w - 1) (mid f - mag f (fin true m e)) (mid f) (omega arith)
floor_is f w (fin false m e) p r h = ap (λ (k : ℕ). min k (2 ^ w - 1)) (floor_fin f m e p)

pub floor_mono : (f : Format) (w : ℕ) (x y : Float) → T (fits f x) → T (fits f y) → T (real x) → T (real y) → w ≤ suc (emax f) → key f x ≤ key f y → to_unsigned w x ≤ to_unsigned w y
floor_mono f w x y p q r u h k =
    subst (λ (z : ℕ). z ≤ to_unsigned w y) (sym (floor_is f w x p r h)) (subst (λ (z : ℕ). min ((key f x - mid f) / unit f) (2 ^ w - 1) ≤ z) (sym (floor_is f w y q u h))
    (z ((key f x - mid f) / unit f) ((key f y - mid f) / unit f) (2 ^ w - 1) (Nearest.div_mono (key f x - mid f) (unit f) (key f y - mid f) (unit f) (unit-pos f) (unit-pos f) (mul-le-mul_right (unit f) (omega arith)))))
  where
    z : (a b c : ℕ) → a ≤ b → min a c ≤ min b c
    z a b c h = omega arith

-- what a test of x against a whole number n says of its whole part
pub floor_ge : (f : Format) (w : ℕ) (x : Float) (n : ℕ) → T (fits f x) → T (real x) → w ≤ suc (emax f) → n ≤ 2 ^ w - 1 → mid f + n * unit f ≤ key f x → n ≤ to_unsigned w x
floor_ge f w x n p r h c k = subst (λ (z : ℕ). n ≤ z) (sym (floor_is f w x p r h)) (z n ((key f x - mid f) / unit f) (2 ^ w - 1) ((le-div_iff_mul-le (unit-pos f)).1 (y (mid f) (n * unit f) (key f x) k)) c)
  where
    y : (m a k : ℕ) → m + a ≤ k → a ≤ k - m
    y m a k h = omega arith

    z : (n a c : ℕ) → n ≤ a → n ≤ c → n ≤ min a c
    z n a c h k = omega arith

pub floor-lt : (f : Format) (w : ℕ) (x : Float) (n : ℕ) → T (fits f x) → T (real x) → w ≤ suc (emax f) → 0 < n → key f x < mid f + n * unit f → to_unsigned w x < n
floor-lt f w x n p r h c k = subst (λ (z : ℕ). z < n) (sym (floor_is f w x p r h)) (z n ((key f x - mid f) / unit f) (2 ^ w - 1) ((div-lt_iff_lt-mul (unit-pos f)).1 (y (mid f) (n * unit f) (key f x) (native.Mathlib.Nat.mul-pos c (unit-pos f)) k)))
  where
    y : (m a k : ℕ) → 0 < a → k < m + a → k - m < a
    y m a k l h = omega arith

    z : (n a c : ℕ) → a < n → min a c < n
    z n a c h = omega arith

-- ---- tests against a double c that is a whole number n
pub le-real : (x y : Float) → T (le x y) → T (real y)
unfolding le
le-real nan y h = absurd h
le-real (inf s) nan h = absurd h
le-real (inf s) (inf t) h = tt
le-real (inf s) (fin t n d) h = tt
le-real (fin s m e) nan h = absurd h
le-real (fin s m e) (inf t) h = tt
le-real (fin s m e) (fin t n d) h = tt

value_real : (c : Float) (n : ℕ) → HasValue c false n 1 → T (real c)
value_real nan n v = v
value_real (inf t) n v = tt
value_real (fin t m e) n v = tt

module _ (n : ℕ) (c x : Float) (C : T (fits binary64 c)) (X : T (fits binary64 x)) (v : HasValue c false n 1) where
  pub from-whole : T (le c x) → mid binary64 + n * unit binary64 ≤ key binary64 x
  from-whole h = subst (λ (k : ℕ). k ≤ key binary64 x) (value_key binary64 c false n C v) (le→key binary64 c x C X h)

  pub below-whole : T (real x) → T (not (le c x)) → key binary64 x < mid binary64 + n * unit binary64
  below-whole r h = lt_of_not-le (λ (g : mid binary64 + n * unit binary64 ≤ key binary64 x). T_not (le c x) h (key→le binary64 c x C X (value_real c n v) r (subst (λ (k : ℕ). k ≤ key binary64 x) (sym (value_key binary64 c false n C v)) g)))

-- ---- the three answers of the function `floor`: from 2 ^ 64 on, from 1 on, below 1 or a NaN
abbrev one : Float
one = fin false 1 (pos 0)

abbrev limit : Float
limit = fin false 1 (pos 64)

pub floor_high : (x : Float) → T (fits binary64 x) → T (le limit x) → 18446744073709551615 ≡ to_unsigned 64 x
floor_high x p h =
    let r = le-real limit x h in
    z (to_unsigned 64 x) ((key binary64 x - mid binary64) / unit binary64) (floor_is binary64 64 x p r (lib.Dec.lit≤ tt))
    (floor_ge binary64 64 x 18446744073709551615 p r (lib.Dec.lit≤ tt) (lib.Dec.lit≤ tt) (y (mid binary64) (unit binary64) (key binary64 x) (from-whole 18446744073709551616 limit x (unfold fits in tt) p (refl, refl) h)))
  where
    y : (m u k : ℕ) → m + 18446744073709551616 * u ≤ k → m + 18446744073709551615 * u ≤ k
    y m u k h = omega arith

    z : (a b : ℕ) → a ≡ min b 18446744073709551615 → 18446744073709551615 ≤ a → 18446744073709551615 ≡ a
    z a b e h = omega arith

below_one : (x : Float) → T (fits binary64 x) → T (real x) → T (not (le one x)) → 0 ≡ to_unsigned 64 x
below_one x p r h = omega (arith, floor-lt binary64 64 x 1 p r (lib.Dec.lit≤ tt) (lib.Dec.lit< tt) (below-whole 1 one x (unfold fits in tt) p (refl, refl) r h))

pub floor_low : (x : Float) → T (fits binary64 x) → T (not (le one x)) → 0 ≡ to_unsigned 64 x
floor_low nan p h = unfold to_unsigned in refl
floor_low (inf s) p h = below_one (inf s) p tt h
floor_low (fin s m e) p h = below_one (fin s m e) p tt h

minus_one : key binary64 (fin true 1 (pos 0)) ≡ mid binary64 - 1 * unit binary64
minus_one = value_key binary64 (fin true 1 (pos 0)) true 1 (unfold fits in tt) (refl, refl)

-- what the kit's `truncating_f64_to_u64` asks
pub floor_casts : (x : Float) → T (fits binary64 x) → T (le one x) → T (not (le limit x)) → T (lt (fin true 1 (pos 0)) x) × T (lt x limit)
floor_casts x p h k =
    let r = le-real one x h in
    let l = below-whole 18446744073709551616 limit x (unfold fits in tt) p (refl, refl) r k in (
      key→lt binary64 (fin true 1 (pos 0)) x (unfold fits in tt) p tt r (subst (λ (a : ℕ). a < key binary64 x) (sym minus_one) (omega (arith, unit-pos binary64, mid-pos binary64, from-whole 1 one x (unfold fits in tt) p (refl, refl) h))),
      key→lt binary64 x limit p (unfold fits in tt) r tt (subst (λ (a : ℕ). key binary64 x < a) (sym (value_key binary64 limit false 18446744073709551616 (unfold fits in tt) (refl, refl))) l),
    )
