-- What the crates above cite: bounds, monotony, signs, and rounding down, all of keys. Assumes nothing.
use Rattle.std.proofs.Common.{◌≡◌, ℕ, ◌+◌, ◌-◌, ◌*◌, ◌^◌, ◌<◌, ◌≤◌, Bool, false, T, ◌⊎◌, sym, ap, ◌∙◌, inl, inr, zero-le, le_trans, lt_of_le_of_lt, le_of_lt, mul-le-mul_right, mul_comm, one-mul, mul-one, mul_right_comm, arith, lit<, pow_pos}
use native.Mathlib.Nat.{eq_of_mul-eq-mul_right}
use lib.Ieee.{Float, nan, inf, fin, Format, binary32, binary64, prec, up, down, round, fits, add, sub, mul, div}
use lib.Ieee.Fits.{round-fits, down_pos, add-fits, sub-fits, mul-fits}
use lib.Ieee.Exact.{HasValue}
use lib.Ieee.Back.{round_whole}
use lib.Ieee.Scale.{finite}
use Rattle.numbers.proofs.Keys.{mid, unit, mag, shift, key, FiniteIn, NumberIn, fin_of, unit-pos, mid-pos, mag-exact, real}
use Rattle.numbers.proofs.Rounding.{rounded, rounded-pos, rounded_mono_same, rounded_mono, rounded-plain, near, near_mono, round_minus, plus-plain, key-pos, key_neg, finite_of_key, near-pos}
use Rattle.numbers.proofs.Operations.{add_is, sub_is, div_is, add-key, sub-key, div-key, add-real, sub-real, share, mul-real}
use Rattle.numbers.proofs.Truth.{below_or_not}

-- ---- whole numbers
pub value_key : (f : Format) (x : Float) (s : Bool) (n : ℕ) → T (fits f x) → HasValue x s n 1 → key f x ≡ shift (mid f) s (n * unit f)
unfolding key
value_key f nan s n p v = absurd v
value_key f (inf t) s n p v = absurd v
value_key f (fin t m e) s n p v =
    ap (λ (b : Bool). shift (mid f) b (mag f (fin t m e))) v.0
    ∙ ap (λ (k : ℕ). shift (mid f) s k)
    (eq_of_mul-eq-mul_right (down e) (down_pos e) (mag f (fin t m e)) (n * unit f) (mag-exact f t m e p ∙ ap (λ (k : ℕ). k * unit f) (sym (mul-one (m * up e)) ∙ v.1) ∙ mul_right_comm n (down e) (unit f)))

pub near-whole : (f : Format) (n : ℕ) → n ≤ 2 ^ prec f → near f n 1 ≡ n * unit f
near-whole f n h = omega (arith, sym (Rattle.numbers.proofs.Rounding.round-key f false n 1) ∙ value_key f (round f false n 1) false n (round-fits f false n 1) (round_whole f false n h))

-- ---- x lies between -n and n
pub record Within (f : Format) (n : ℕ) (x : Float) : Type 0 where
  pub at_least : mid f ≤ key f x + n * unit f
  pub at_most : key f x ≤ mid f + n * unit f

pub prec_mid : (f : Format) → 2 ^ prec f * unit f < mid f
unfolding mid unit
prec_mid binary32 = lit< tt
prec_mid binary64 = lit< tt

rounded-below : (f : Format) (p n c : ℕ) → c ≤ 2 ^ prec f → p ≤ n + c * unit f → key f (rounded f p n (unit f)) ≤ mid f + c * unit f
rounded-below f p n c h k =
    let e : key f (rounded f c 0 1) ≡ mid f + c * unit f = key-pos f c 0 1 zero-le ∙ ap (λ (z : ℕ). mid f + near f z 1) (native.Mathlib.Nat.sub-zero c) ∙ ap (λ (z : ℕ). mid f + z) (near-whole f c h) in
    rw e at (rounded_mono f p n (unit f) c 0 1 (unit-pos f) (lit< tt) (omega arith))

rounded-above : (f : Format) (p n c : ℕ) → c ≤ 2 ^ prec f → n ≤ p + c * unit f → mid f ≤ key f (rounded f p n (unit f)) + c * unit f
rounded-above f p n c h k =
    let m : key f (rounded f 0 c 1) ≤ key f (rounded f p n (unit f)) = rounded_mono f 0 c 1 p n (unit f) (lit< tt) (unit-pos f) (omega arith) in
    let w : near f (c - 0) 1 ≡ c * unit f = ap (λ (z : ℕ). near f z 1) (native.Mathlib.Nat.sub-zero c) ∙ near-whole f c h in
    elim (below_or_not 0 c) [ inl l ↦ omega (arith, m, w, key_neg f 0 c 1 l) | inr l ↦ omega (arith, m, key-pos f 0 c 1 l) ]

pub within_finite : (f : Format) (x : Float) (n : ℕ) → T (fits f x) → T (real x) → n ≤ 2 ^ prec f → Within f n x → T (finite x)
within_finite f x n p r h w =
    let l : n * unit f < mid f = lt_of_le_of_lt (mul-le-mul_right (unit f) h) (prec_mid f) in
    finite_of_key f x p r (omega arith) (omega arith)

-- what has the key of a whole number of units, rounded
keyed_within : (f : Format) (x : Float) (p n c : ℕ) → T (fits f x) → T (real x) → key f x ≡ key f (rounded f p n (unit f)) → c ≤ 2 ^ prec f → n ≤ p + c * unit f → p ≤ n + c * unit f → FiniteIn f x × Within f c x
keyed_within f x p n c t r e h k l =
    let w : Within f c x = record { at_least = rw e (rounded-above f p n c h k); at_most = rw e (rounded-below f p n c h l) } in
    (record { fit = t; is_finite = within_finite f x c t r h w }, w)

-- ---- sums and differences: bounded, never -0 from a number, monotone
pub add-within : (f : Format) (a b : ℕ) (x y : Float) → FiniteIn f x → FiniteIn f y → Within f a x → Within f b y → a + b ≤ 2 ^ prec f → FiniteIn f (add f x y) × Within f (a + b) (add f x y)
add-within f a b x y p q v w h = keyed_within f (add f x y) (key f x + key f y) (mid f + mid f) (a + b) (add-fits f x y) (add-real f x y p q) (add-key f x y p q) h (omega arith) (omega arith)

pub sub_within : (f : Format) (a b : ℕ) (x y : Float) → FiniteIn f x → FiniteIn f y → Within f a x → Within f b y → a + b ≤ 2 ^ prec f → FiniteIn f (sub f x y) × Within f (a + b) (sub f x y)
sub_within f a b x y p q v w h = keyed_within f (sub f x y) (key f x) (key f y) (a + b) (sub-fits f x y) (sub-real f x y p q) (sub-key f x y p q) h (omega arith) (omega arith)

-- with a number on the left, a finite result is a number
pub add_num : (f : Format) (x y : Float) → NumberIn f x → FiniteIn f y → FiniteIn f (add f x y) → NumberIn f (add f x y)
add_num f x y p q r = record { fit = r.fit; is_finite = r.is_finite; plus = rw (add_is f x y p q) (rounded-plain f (key f x + key f y) (mid f + mid f)) }

pub sub_num : (f : Format) (x y : Float) → NumberIn f x → FiniteIn f y → FiniteIn f (sub f x y) → NumberIn f (sub f x y)
sub_num f x y p q r = record { fit = r.fit; is_finite = r.is_finite; plus = rw (sub_is f x y p q) (rounded-plain f (key f x) (key f y)) }

pub add_mono : (f : Format) (x y x' y' : Float) → FiniteIn f x → FiniteIn f y → FiniteIn f x' → FiniteIn f y' → key f x + key f y ≤ key f x' + key f y' → key f (add f x y) ≤ key f (add f x' y')
add_mono f x y x' y' p q r u h = rw (add-key f x y p q, add-key f x' y' r u) (rounded_mono_same f (key f x + key f y) (mid f + mid f) (key f x' + key f y') (mid f + mid f) (unit f) (unit-pos f) (omega arith))

pub sub_mono : (f : Format) (x y x' y' : Float) → FiniteIn f x → FiniteIn f y → FiniteIn f x' → FiniteIn f y' → key f x + key f y' ≤ key f x' + key f y → key f (sub f x y) ≤ key f (sub f x' y')
sub_mono f x y x' y' p q r u h = rw (sub-key f x y p q, sub-key f x' y' r u) (rounded_mono_same f (key f x) (key f y) (key f x') (key f y') (unit f) (unit-pos f) h)

-- the sign of a difference is that of the order; gradual underflow: it is 0 for equal numbers only
pub sub-pos : (f : Format) (x y : Float) → FiniteIn f x → FiniteIn f y → key f y < key f x → mid f < key f (sub f x y)
sub-pos f x y p q h =
    let n : 0 < near f (key f x - key f y) (unit f) = near-pos f (key f x - key f y) (omega arith) in
    omega (arith, sub-key f x y p q, key-pos f (key f x) (key f y) (unit f) (omega arith))

pub sub_nonneg : (f : Format) (x y : Float) → FiniteIn f x → FiniteIn f y → key f y ≤ key f x → mid f ≤ key f (sub f x y)
sub_nonneg f x y p q h = omega (arith, sub-key f x y p q, key-pos f (key f x) (key f y) (unit f) h)

pub sub_neg : (f : Format) (x y : Float) → FiniteIn f x → FiniteIn f y → key f x < key f y → key f (sub f x y) < mid f
sub_neg f x y p q h =
    let n : 0 < near f (key f y - key f x) (unit f) = near-pos f (key f y - key f x) (omega arith) in
    omega (arith, mid-pos f, sub-key f x y p q, key_neg f (key f x) (key f y) (unit f) h)

-- ---- quotients
pub div_mono : (f : Format) (x x' y : Float) → FiniteIn f x → FiniteIn f x' → FiniteIn f y → mid f < key f y → key f x ≤ key f x' → key f (div f x y) ≤ key f (div f x' y)
div_mono f x x' y p p' q h k = rw (div-key f x y p q h, div-key f x' y p' q h) (rounded_mono_same f (key f x) (mid f) (key f x') (mid f) (key f y - mid f) (omega arith) (omega arith))

near-top : (f : Format) (c : ℕ) → 0 < c → near f c c ≡ unit f
near-top f c C = Rattle.numbers.proofs.Operations.near_same f c c 1 1 C (lit< tt) (mul_comm c 1) ∙ near-whole f 1 (pow_pos (prec f)) ∙ one-mul (unit f)

pub unit-mid : (f : Format) → unit f < mid f
unit-mid f = rw one-mul at (lt_of_le_of_lt (mul-le-mul_right (unit f) (pow_pos (prec f))) (prec_mid f))

-- 0 ≤ x ≤ y and 0 < y: the quotient is from 0 to 1, and is a number
pub div_share : (f : Format) (x y : Float) → NumberIn f x → FiniteIn f y → mid f < key f y → mid f ≤ key f x → key f x ≤ key f y → NumberIn f (div f x y) × (mid f ≤ key f (div f x y)) × (key f (div f x y) ≤ mid f + unit f)
div_share f x y p q h k l =
    let a = key f x - mid f in
    let c = key f y - mid f in
    let C : 0 < c = omega arith in
    let n : near f a c ≤ near f c c = near_mono f a c c c C C (mul-le-mul_right c (omega arith)) in
    let R = Rattle.numbers.proofs.Rounding.round-key f false a c in
    let A : mid f ≤ key f (round f false a c) = omega (arith, R) in
    let B : key f (round f false a c) ≤ mid f + unit f = omega (arith, R, n, near-top f c C) in
    rw (div_is f x y p q h, rounded-pos f (key f x) (mid f) c k) (
      record {
        fit = round-fits f false a c;
        is_finite = finite_of_key f (round f false a c) (round-fits f false a c) (Rattle.numbers.proofs.Rounding.round-real f false a c) (omega (arith, mid-pos f, A)) (omega (arith, B, unit-mid f));
        plus = plus-plain (round f false a c) (round_minus f false a c);
      },
      A,
      B,
    )

-- ---- a share of a bounded number is bounded, though it can be -0
pub share_within : (f : Format) (n : ℕ) (t y : Float) → NumberIn f t → FiniteIn f y → mid f ≤ key f t → key f t ≤ mid f + unit f → n ≤ 2 ^ prec f → Within f n y → FiniteIn f (mul f t y) × Within f n (mul f t y)
share_within f n t y p q h k l w = (record { fit = mul-fits f t y; is_finite = within_finite f (mul f t y) n (mul-fits f t y) (mul-real f t y (fin_of p) q) l B }, B)
  where
    S : (key f y ≤ mid f → (key f y ≤ key f (mul f t y)) × (key f (mul f t y) ≤ mid f)) × (mid f ≤ key f y → (mid f ≤ key f (mul f t y)) × (key f (mul f t y) ≤ key f y))
    S = share f t y p q h k

    go : (key f y < mid f) ⊎ (mid f ≤ key f y) → Within f n (mul f t y)
    go (inl g) = let r = S.0 (le_of_lt g) in record { at_least = z (mid f) (key f y) (key f (mul f t y)) (n * unit f) w.at_least r.0; at_most = y' (mid f) (key f (mul f t y)) (n * unit f) r.1 }
      where
        z : (m y r a : ℕ) → m ≤ y + a → y ≤ r → m ≤ r + a
        z m y r a h k = omega arith

        y' : (m r a : ℕ) → r ≤ m → r ≤ m + a
        y' m r a h = omega arith
    go (inr g) = let r = S.1 g in record { at_least = z (mid f) (key f (mul f t y)) (n * unit f) r.0; at_most = le_trans r.1 w.at_most }
      where
        z : (m r a : ℕ) → m ≤ r → m ≤ r + a
        z m r a h = omega arith

    B : Within f n (mul f t y)
    B = go (below_or_not (key f y) (mid f))
