-- Rounding of a signed fraction (p - n) / c, by keys: it keeps the order, it sees only the value, it changes no number, and a whole count of units never gives -0.
-- Assumes nothing.
use Rattle.std.proofs.Common.{◌≡◌, ℕ, zero, suc, ◌+◌, ◌-◌, ◌*◌, ◌/◌, ◌%◌, ◌^◌, ◌<◌, ◌≤◌, Bool, true, false, cond, ◌&&◌, T, eqb, ltb, leb, ◌⊎◌, ℤ, pos, negsuc, sym, refl, ap, ◌∙◌, subst, inl, inr, zero-le, lt_of_lt_of_le, lt_of_le_of_lt, le_of_lt, mul-le-mul_right, mul_assoc, add-mul, mul-lt-mul_of_pos_right, one-mul, zero-mul, mul-one, sub-add_cancel, arith, lit<, eqb→eq, ltb→lt, lt→ltb, leb→le, pow_pos, pow-add, le-ltb, lt-ltb}
use Prim.Native.Nat.{compare}
use native.Mathlib.Nat.{eq_of_mul-eq-mul_right}
use lib.Ieee.{Float, nan, inf, fin, Format, binary32, binary64, prec, emax, low, up, down, size, nearest, odd, units, round, fits}
use lib.Ieee.Fits.{round_is, round-fits, down_pos}
use lib.Ieee.Exact.{HasValue, round_exact}
use lib.Ieee.Order.{round_mono}
use lib.Ieee.Scale.{finite}
use Rattle.numbers.proofs.Truth.{below_or_not}
use Rattle.numbers.proofs.Keys.{mid, unit, mag, negative, shift, key, plain, FiniteIn, NumberIn, unit-pos, mid-pos, mag-exact, mag-lt, mag-le, real, le→key}

-- ---- what `round` gives: `odd` of some digits, or an infinity; the same for both signs
pub data Shape (f : Format) (a c : ℕ) : Type 0 where
  digits : (q k : ℕ) → ((s : Bool) → round f s a c ≡ odd (suc (prec f)) s q k (low f)) → Shape f a c
  overflow : ((s : Bool) → round f s a c ≡ inf s) → Shape f a c

shape : (f : Format) (a c : ℕ) → Shape f a c
unfolding units
shape f a c = go (ltb (q * 2 ^ k) (2 ^ (low f + suc (emax f)))) refl
  where
    k : ℕ
    k = size (a * 2 ^ low f / c) - prec f

    q : ℕ
    q = nearest (a * 2 ^ low f / (c * 2 ^ k)) (compare (a * 2 ^ low f % (c * 2 ^ k) * 2) (c * 2 ^ k))

    go : (b : Bool) → ltb (q * 2 ^ k) (2 ^ (low f + suc (emax f))) ≡ b → Shape f a c
    go true e = digits q k (λ s. round_is f s a c ∙ rw e)
    go false e = overflow (λ s. round_is f s a c ∙ rw e)

odd_sign : (d : ℕ) (s : Bool) (q k l : ℕ) → negative (odd d s q k l) ≡ s
unfolding odd
odd_sign d s zero k l = refl
odd_sign d s (suc q) k l = refl

odd_real : (d : ℕ) (s : Bool) (q k l : ℕ) → T (real (odd d s q k l))
unfolding odd
odd_real d s zero k l = tt
odd_real d s (suc q) k l = tt

odd_mag : (f : Format) (d : ℕ) (s t : Bool) (q k l : ℕ) → mag f (odd d s q k l) ≡ mag f (odd d t q k l)
unfolding odd mag
odd_mag f d s t zero k l = refl
odd_mag f d s t (suc q) k l = refl

pub round_minus : (f : Format) (s : Bool) (a c : ℕ) → negative (round f s a c) ≡ s
round_minus f s a c = elim (shape f a c) [ digits q k e ↦ ap negative (e s) ∙ odd_sign (suc (prec f)) s q k (low f) | overflow e ↦ ap negative (e s) ]

pub round-real : (f : Format) (s : Bool) (a c : ℕ) → T (real (round f s a c))
round-real f s a c = elim (shape f a c) [ digits q k e ↦ rw (e s) (odd_real (suc (prec f)) s q k (low f)) | overflow e ↦ rw (e s) tt ]

-- a / c rounded, in units; mid f where it overflows
unfoldable pub near : Format → ℕ → ℕ → ℕ
near f a c = mag f (round f false a c)

round-mag : (f : Format) (s : Bool) (a c : ℕ) → mag f (round f s a c) ≡ near f a c
unfolding near mag
round-mag f s a c = elim (shape f a c) [ digits q k e ↦ rw (e s, e false) (odd_mag f (suc (prec f)) s false q k (low f)) | overflow e ↦ rw (e s, e false) ]

pub round-key : (f : Format) (s : Bool) (a c : ℕ) → key f (round f s a c) ≡ shift (mid f) s (near f a c)
unfolding key
round-key f s a c = ap (λ (t : Bool). shift (mid f) t (mag f (round f s a c))) (round_minus f s a c) ∙ ap (λ (k : ℕ). shift (mid f) s k) (round-mag f s a c)

pub near_le : (f : Format) (a c : ℕ) → near f a c ≤ mid f
unfolding near
near_le f a c = mag-le f (round f false a c) (round-fits f false a c)

pub near_mono : (f : Format) (a b c d : ℕ) → 0 < b → 0 < d → a * d ≤ c * b → near f a b ≤ near f c d
near_mono f a b c d B D h =
    let k = le→key f (round f false a b) (round f false c d) (round-fits f false a b) (round-fits f false c d) (round_mono f a b c d B D h) in
    omega (arith, k, round-key f false a b, round-key f false c d)

-- ---- the signed fraction (p - n) / c, rounded; an exact zero is +0
unfoldable pub rounded : Format → ℕ → ℕ → ℕ → Float
rounded f p n c = cond (ltb p n) (round f true (n - p) c) (round f false (p - n) c)

pub rounded-fits : (f : Format) (p n c : ℕ) → T (fits f (rounded f p n c))
unfolding rounded
rounded-fits f p n c = lib.Ieee.Fits.cond-fits f (ltb p n) (round f true (n - p) c) (round f false (p - n) c) (round-fits f true (n - p) c) (round-fits f false (p - n) c)

pub rounded_neg : (f : Format) (p n c : ℕ) → p < n → rounded f p n c ≡ round f true (n - p) c
unfolding rounded
rounded_neg f p n c h = rw (lt-ltb p n h)

pub rounded-pos : (f : Format) (p n c : ℕ) → n ≤ p → rounded f p n c ≡ round f false (p - n) c
unfolding rounded
rounded-pos f p n c h = rw (le-ltb p n h)

-- by the difference itself
pub rounded_at_pos : (f : Format) (p n c r : ℕ) → p ≡ n + r → rounded f p n c ≡ round f false r c
rounded_at_pos f p n c r e = let d : p - n ≡ r = omega arith in rounded-pos f p n c (omega arith) ∙ ap (λ (z : ℕ). round f false z c) d

pub rounded_at_neg : (f : Format) (p n c r : ℕ) → n ≡ p + r → 0 < r → rounded f p n c ≡ round f true r c
rounded_at_neg f p n c r e h = let d : n - p ≡ r = omega arith in rounded_neg f p n c (omega arith) ∙ ap (λ (z : ℕ). round f true z c) d

pub key_neg : (f : Format) (p n c : ℕ) → p < n → key f (rounded f p n c) ≡ mid f - near f (n - p) c
key_neg f p n c h = ap (key f) (rounded_neg f p n c h) ∙ round-key f true (n - p) c

pub key-pos : (f : Format) (p n c : ℕ) → n ≤ p → key f (rounded f p n c) ≡ mid f + near f (p - n) c
key-pos f p n c h = ap (key f) (rounded-pos f p n c h) ∙ round-key f false (p - n) c

pub rounded-real : (f : Format) (p n c : ℕ) → T (real (rounded f p n c))
rounded-real f p n c = elim (below_or_not p n) [ inl l ↦ rw (rounded_neg f p n c l) (round-real f true (n - p) c) | inr l ↦ rw (rounded-pos f p n c l) (round-real f false (p - n) c) ]

-- ---- the order is kept
diff : (p n c q m d : ℕ) → n ≤ p → m ≤ q → p * d + m * c ≤ q * c + n * d → (p - n) * d ≤ (q - m) * c
diff p n c q m d h k l =
    let a : (p - n) * d + n * d ≡ p * d = sym (add-mul (p - n) n d) ∙ ap (λ (z : ℕ). z * d) (sub-add_cancel h) in
    let b : (q - m) * c + m * c ≡ q * c = sym (add-mul (q - m) m c) ∙ ap (λ (z : ℕ). z * c) (sub-add_cancel k) in
    omega arith

pub rounded_mono : (f : Format) (p n c q m d : ℕ) → 0 < c → 0 < d → p * d + m * c ≤ q * c + n * d → key f (rounded f p n c) ≤ key f (rounded f q m d)
rounded_mono f p n c q m d C D h = go (below_or_not p n) (below_or_not q m)
  where
    go : (p < n) ⊎ (n ≤ p) → (q < m) ⊎ (m ≤ q) → key f (rounded f p n c) ≤ key f (rounded f q m d)
    go (inl a) (inl b) =
        let k = near_mono f (m - q) d (n - p) c D C (diff m q d n p c (le_of_lt b) (le_of_lt a) (omega arith)) in
        omega (arith, k, key_neg f p n c a, key_neg f q m d b)
    go (inl a) (inr b) = omega (arith, key_neg f p n c a, key-pos f q m d b)
    go (inr a) (inl b) = absurd (omega (arith, mul-le-mul_right d a, mul-lt-mul_of_pos_right b C))
    go (inr a) (inr b) =
        let k = near_mono f (p - n) c (q - m) d C D (diff p n c q m d a b h) in
        omega (arith, k, key-pos f p n c a, key-pos f q m d b)

-- over one divisor
pub rounded_mono_same : (f : Format) (p n q m c : ℕ) → 0 < c → p + m ≤ q + n → key f (rounded f p n c) ≤ key f (rounded f q m c)
rounded_mono_same f p n q m c C h = rounded_mono f p n c q m c C C (subst (λ (k : ℕ). k ≤ q * c + n * c) (add-mul p m c) (subst (λ (k : ℕ). (p + m) * c ≤ k) (add-mul q n c) (mul-le-mul_right c h)))

-- ---- only the difference counts
pub rounded-shift : (f : Format) (p n q m c : ℕ) → p + m ≡ q + n → rounded f p n c ≡ rounded f q m c
rounded-shift f p n q m c h = elim (below_or_not p n) [
  | inl l ↦ (let e : n - p ≡ m - q = omega arith in rounded_neg f p n c l ∙ ap (λ (z : ℕ). round f true z c) e ∙ sym (rounded_neg f q m c (omega arith)))
  | inr l ↦ (let e : p - n ≡ q - m = omega arith in rounded-pos f p n c l ∙ ap (λ (z : ℕ). round f false z c) e ∙ sym (rounded-pos f q m c (omega arith)))
]

-- ---- a value of the format is not changed
pub value→mag : (f : Format) (x : Float) (s : Bool) (a : ℕ) → T (fits f x) → HasValue x s a (unit f) → mag f x ≡ a
value→mag f nan s a p v = absurd v
value→mag f (inf t) s a p v = absurd v
value→mag f (fin t m e) s a p v = eq_of_mul-eq-mul_right (down e) (down_pos e) (mag f (fin t m e)) a (mag-exact f t m e p ∙ v.1)

-- a count of units that is q * 2 ^ j
pub near-exact : (f : Format) (q j : ℕ) → q < 2 ^ prec f → q * 2 ^ j < mid f → near f (q * 2 ^ j) (unit f) ≡ q * 2 ^ j
unfolding near unit mid
near-exact f q j h k = value→mag f (round f false (q * 2 ^ j) (2 ^ low f)) false (q * 2 ^ j) (round-fits f false (q * 2 ^ j) (2 ^ low f)) (round_exact f false (q * 2 ^ j) (2 ^ low f) q j (pow_pos (low f)) h k refl)

pub near-zero : (f : Format) (c : ℕ) → 0 < c → near f 0 c ≡ 0
near-zero f c C = native.Mathlib.Nat.le_antisymm (subst (λ (k : ℕ). near f 0 c ≤ k) (near-exact f 0 0 (pow_pos (prec f)) (subst (λ (k : ℕ). k < mid f) (sym (zero-mul 1)) (mid-pos f)) ∙ zero-mul 1) (near_mono f 0 c (0 * 1) (unit f) C (unit-pos f) (subst (λ (k : ℕ). k ≤ 0 * 1 * c) (sym (zero-mul (unit f))) zero-le))) zero-le

one-lt : (f : Format) → 1 < 2 ^ prec f
one-lt binary32 = lit< tt
one-lt binary64 = lit< tt

one-mid : (f : Format) → 1 < mid f
unfolding mid
one-mid binary32 = lit< tt
one-mid binary64 = lit< tt

pub near-one : (f : Format) → near f 1 (unit f) ≡ 1
near-one f = near-exact f 1 0 (one-lt f) (one-mid f)

-- from 1 unit on nothing is rounded to 0
pub near-pos : (f : Format) (a : ℕ) → 0 < a → 0 < near f a (unit f)
near-pos f a h = subst (λ (k : ℕ). k ≤ near f a (unit f)) (near-one f) (near_mono f 1 (unit f) a (unit f) (unit-pos f) (unit-pos f) (mul-le-mul_right (unit f) h))

-- the size of a value of the format is q * 2 ^ j
fits_prec : (f : Format) (s : Bool) (m : ℕ) (e : ℤ) → T (fits f (fin s m e)) → m < 2 ^ prec f
unfolding fits
fits_prec f s zero e t = pow_pos (prec f)
fits_prec f s (suc m) e t = ltb→lt (suc m) (2 ^ prec f) (lib.Ieee.Fits.and_r (eqb (suc m % 2) 1) (ltb (suc m) (2 ^ prec f)) (lib.Ieee.Fits.and_l (eqb (suc m % 2) 1 && ltb (suc m) (2 ^ prec f)) (leb (down e) (2 ^ low f)) (lib.Ieee.Fits.and_l (eqb (suc m % 2) 1 && ltb (suc m) (2 ^ prec f) && leb (down e) (2 ^ low f)) (ltb (suc m * up e) (2 ^ suc (emax f) * down e)) t)))

down_le : (f : Format) (s : Bool) (m : ℕ) (e : ℤ) → T (fits f (fin s m e)) → down e ≤ unit f
unfolding fits unit
down_le f s zero (pos k) t = pow_pos (low f)
down_le f s zero (negsuc k) t = absurd (omega (arith, pow_pos k, sym (native.Mathlib.Nat.pow-succ' 2 k) ∙ sym (one-mul (2 ^ suc k)) ∙ eqb→eq (1 * 2 ^ suc k) 1 t))
down_le f s (suc m) e t = leb→le (down e) (2 ^ low f) (lib.Ieee.Fits.and_r (eqb (suc m % 2) 1 && ltb (suc m) (2 ^ prec f)) (leb (down e) (2 ^ low f)) (lib.Ieee.Fits.and_l (eqb (suc m % 2) 1 && ltb (suc m) (2 ^ prec f) && leb (down e) (2 ^ low f)) (ltb (suc m * up e) (2 ^ suc (emax f) * down e)) t))

mag_power : (f : Format) (s : Bool) (m : ℕ) (e : ℤ) → T (fits f (fin s m e)) → (j : ℕ) × (mag f (fin s m e) ≡ m * 2 ^ j)
unfolding unit
mag_power f s m (pos i) t = (i + low f, sym (mul-one (mag f (fin s m (pos i)))) ∙ mag-exact f s m (pos i) t ∙ mul_assoc m (2 ^ i) (2 ^ low f) ∙ ap (λ (k : ℕ). m * k) (sym (pow-add 2 i (low f))))
mag_power f s m (negsuc i) t =
    let h : suc i ≤ low f = Rattle.numbers.proofs.Keys.pow_le_inv (suc i) (low f) (down_le f s m (negsuc i) t) in
    (low f - suc i, eq_of_mul-eq-mul_right (2 ^ suc i) (pow_pos (suc i)) (mag f (fin s m (negsuc i))) (m * 2 ^ (low f - suc i)) (mag-exact f s m (negsuc i) t ∙ ap (λ (k : ℕ). k * 2 ^ low f) (mul-one m) ∙ ap (λ (k : ℕ). m * 2 ^ k) (sym (sub-add_cancel h)) ∙ ap (λ (k : ℕ). m * k) (pow-add 2 (low f - suc i) (suc i)) ∙ sym (mul_assoc m (2 ^ (low f - suc i)) (2 ^ suc i))))

pub near-mag : (f : Format) (s : Bool) (m : ℕ) (e : ℤ) → T (fits f (fin s m e)) → near f (mag f (fin s m e)) (unit f) ≡ mag f (fin s m e)
near-mag f s m e t =
    let k = mag_power f s m e t in
    subst (λ (z : ℕ). near f z (unit f) ≡ z) (sym k.1) (near-exact f m k.0 (fits_prec f s m e t) (subst (λ (z : ℕ). z < mid f) k.1 (mag-lt f s m e t)))

pub rounded-key : (f : Format) (x : Float) → FiniteIn f x → key f (rounded f (key f x) (mid f) (unit f)) ≡ key f x
unfolding key
rounded-key f nan p = absurd p.is_finite
rounded-key f (inf s) p = absurd p.is_finite
rounded-key f (fin false m e) p =
    let a = mag f (fin false m e) in
    let d : mid f + a - mid f ≡ a = omega arith in
    key-pos f (mid f + a) (mid f) (unit f) (omega arith) ∙ ap (λ (k : ℕ). mid f + near f k (unit f)) d ∙ ap (λ (k : ℕ). mid f + k) (near-mag f false m e p.fit)
rounded-key f (fin true m e) p =
    let a = mag f (fin true m e) in
    let l = mag-lt f true m e p.fit in
    let n = near-mag f true m e p.fit in
    elim (below_or_not (mid f - a) (mid f)) [
      | inl g ↦ (let d : mid f - (mid f - a) ≡ a = omega arith in omega (arith, key_neg f (mid f - a) (mid f) (unit f) g, ap (λ (k : ℕ). near f k (unit f)) d, n))
      | inr g ↦ (let d : mid f - a - mid f ≡ a = omega arith in omega (arith, key-pos f (mid f - a) (mid f) (unit f) g, ap (λ (k : ℕ). near f k (unit f)) d, n))
    ]

-- ---- what is finite, and what is not -0
pub finite_of_key : (f : Format) (x : Float) → T (fits f x) → T (real x) → 0 < key f x → key f x < mid f + mid f → T (finite x)
unfolding key mag
finite_of_key f nan p r h k = absurd r
finite_of_key f (inf true) p r h k = absurd (omega arith)
finite_of_key f (inf false) p r h k = absurd (omega arith)
finite_of_key f (fin s m e) p r h k = tt

pub key_finite : (f : Format) (x : Float) → FiniteIn f x → (0 < key f x) × (key f x < mid f + mid f)
unfolding key
key_finite f nan p = absurd p.is_finite
key_finite f (inf s) p = absurd p.is_finite
key_finite f (fin true m e) p = omega (arith, mag-lt f true m e p.fit)
key_finite f (fin false m e) p = omega (arith, mag-lt f false m e p.fit)

-- a value whose size is not 0 is not -0
mag-plain : (f : Format) (x : Float) → 0 < mag f x → T (plain x)
mag-plain f nan h = tt
mag-plain f (inf s) h = tt
mag-plain f (fin false m e) h = tt
mag-plain f (fin true zero e) h = absurd (omega (arith, Rattle.numbers.proofs.Keys.zero-mag f true zero e refl))
mag-plain f (fin true (suc m) e) h = lt→ltb 0 (suc m) (native.Mathlib.Nat.zero-lt-suc m)

pub plus-plain : (x : Float) → negative x ≡ false → T (plain x)
plus-plain nan h = tt
plus-plain (inf s) h = tt
plus-plain (fin true m e) h = absurd (mathlib.Core.Bool.true≢false h)
plus-plain (fin false m e) h = tt

pub rounded-plain : (f : Format) (p n : ℕ) → T (plain (rounded f p n (unit f)))
rounded-plain f p n = elim (below_or_not p n) [
  | inl l ↦ rw (rounded_neg f p n (unit f) l) (mag-plain f (round f true (n - p) (unit f)) (rw (round-mag f true (n - p) (unit f)) (near-pos f (n - p) (omega arith))))
  | inr l ↦ rw (rounded-pos f p n (unit f) l) (plus-plain (round f false (p - n) (unit f)) (round_minus f false (p - n) (unit f)))
]

-- a whole number of units, no larger than a number and no smaller than another, is rounded to a number between the two
pub rounded_num : (f : Format) (p n : ℕ) (lo hi : Float) → FiniteIn f lo → FiniteIn f hi → key f lo + n ≤ p + mid f → p + mid f ≤ key f hi + n → NumberIn f (rounded f p n (unit f))
rounded_num f p n lo hi L H h k =
    let a : key f lo ≤ key f (rounded f p n (unit f)) = subst (λ (z : ℕ). z ≤ key f (rounded f p n (unit f))) (rounded-key f lo L) (rounded_mono_same f (key f lo) (mid f) p n (unit f) (unit-pos f) h) in
    let b : key f (rounded f p n (unit f)) ≤ key f hi = subst (λ (z : ℕ). key f (rounded f p n (unit f)) ≤ z) (rounded-key f hi H) (rounded_mono_same f p n (key f hi) (mid f) (unit f) (unit-pos f) k) in
    record {
      fit = rounded-fits f p n (unit f);
      is_finite = finite_of_key f (rounded f p n (unit f)) (rounded-fits f p n (unit f)) (rounded-real f p n (unit f)) (lt_of_lt_of_le (key_finite f lo L).0 a) (lt_of_le_of_lt b (key_finite f hi H).1);
      plus = rounded-plain f p n;
    }
