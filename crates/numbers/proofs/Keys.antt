-- The order of the doubles as an order of naturals. `key f x` is x in units of the format's smallest value, moved up by `mid f` so that it is a natural:
-- an infinity is at 0 or at 2 * mid, and a zero of either sign at mid. Assumes nothing.
use Rattle.std.proofs.Common.{◌≡◌, ℕ, zero, suc, ◌+◌, ◌-◌, ◌*◌, ◌/◌, ◌%◌, ◌^◌, ◌<◌, ◌≤◌, Bool, true, false, cond, not, ◌&&◌, ◌||◌, T, eqb, ltb, leb, ◌⊎◌, ℤ, pos, negsuc, sym, refl, ap, ◌∙◌, subst, inl, inr, zero-le, le_of_eq, le_refl, le_of_lt, mul_assoc, mul_comm, div-lt_iff_lt-mul, lt_of_mul-lt-mul_right, eq-or-lt_of_le, mul-lt-mul_of_pos_right, mul-pos, lt_of_not-le, zero-mul, sub-add_cancel, mul_right_comm, not-le_of_lt, mul-div_cancel, arith, le→leb, eqb→eq, ltb→lt, lt→ltb, leb→le, nltb→le, T_not, pow_pos, pow-add}
use native.Mathlib.Nat.{zero-div, eq_of_mul-eq-mul_right}
use mathlib.Core.Bool.{beq}
use lib.Pow.{pow-lt}
use lib.Ieee.{Float, nan, inf, fin, Format, prec, emax, low, up, down, fits, lt, le, eq, to_bits, of_bits}
use lib.Ieee.Fits.{up_pos, down_pos, and_l, and_r, and_i, eq→eqb}
use lib.Ieee.Bits.{of_bits-to_bits}
use lib.Ieee.Scale.{finite}

-- half of the keys: 2 ^ (emax + 1) in units of the smallest value
unfoldable pub mid : Format → ℕ
mid f = 2 ^ (low f + suc (emax f))

-- the smallest value is 1 / unit
unfoldable pub unit : Format → ℕ
unit f = 2 ^ low f

-- the size in units
unfoldable pub mag : Format → Float → ℕ
mag f nan = 0
mag f (inf s) = mid f
mag f (fin s m e) = m * up e * unit f / down e

abbrev pub negative : Float → Bool
negative nan = false
negative (inf s) = s
negative (fin s m e) = s

-- ±k, moved up by h
abbrev pub shift : ℕ → Bool → ℕ → ℕ
shift h true k = h - k
shift h false k = h + k

unfoldable pub key : Format → Float → ℕ
key f x = shift (mid f) (negative x) (mag f x)

-- not -0
abbrev pub plain : Float → Bool
plain nan = true
plain (inf s) = true
plain (fin true m e) = ltb 0 m
plain (fin false m e) = true

-- finite and of the format
pub record FiniteIn (f : Format) (x : Float) : Type 0 where
  pub fit : T (fits f x)
  pub is_finite : T (finite x)

-- finite, of the format, and not -0
pub record NumberIn (f : Format) (x : Float) : Type 0 where
  pub fit : T (fits f x)
  pub is_finite : T (finite x)
  pub plus : T (plain x)

pub fin_of : {f : Format} {x : Float} → NumberIn f x → FiniteIn f x
fin_of n = record { fit = n.fit; is_finite = n.is_finite }

pub unit-pos : (f : Format) → 0 < unit f
unfolding unit
unit-pos f = pow_pos (low f)

pub mid-pos : (f : Format) → 0 < mid f
unfolding mid
mid-pos f = pow_pos (low f + suc (emax f))

-- ---- a value's size is exact
pub pow_le_inv : (j k : ℕ) → 2 ^ j ≤ 2 ^ k → j ≤ k
pow_le_inv j k h = go (leb j k) (leb→le j k) (λ (t : T (not (leb j k))). lib.Dec.nleb→lt j k t)
  where
    go : (b : Bool) → (T b → j ≤ k) → (T (not b) → k < j) → j ≤ k
    go true p q = p tt
    go false p q = absurd (not-le_of_lt (pow-lt (q tt)) h)

-- down e is a power of two
down_is : (e : ℤ) → (k : ℕ) × (down e ≡ 2 ^ k)
down_is (pos k) = (0, refl)
down_is (negsuc k) = (suc k, refl)

exact : (a l k d : ℕ) → d ≡ 2 ^ k → d ≤ 2 ^ l → a * 2 ^ l / d * d ≡ a * 2 ^ l
exact a l k d e h =
    let kl : k ≤ l = pow_le_inv k l (subst (λ (z : ℕ). z ≤ 2 ^ l) e h) in
    let s : a * 2 ^ l ≡ a * 2 ^ (l - k) * d = ap (λ (z : ℕ). a * 2 ^ z) (sym (sub-add_cancel kl)) ∙ ap (λ (z : ℕ). a * z) (pow-add 2 (l - k) k) ∙ sym (mul_assoc a (2 ^ (l - k)) (2 ^ k)) ∙ ap (λ (z : ℕ). a * 2 ^ (l - k) * z) (sym e) in
    ap (λ (z : ℕ). z / d * d) s ∙ ap (λ (z : ℕ). z * d) (mul-div_cancel (a * 2 ^ (l - k)) (subst (λ (z : ℕ). 0 < z) (sym e) (pow_pos k))) ∙ sym s

fits-down : (f : Format) (s : Bool) (m : ℕ) (e : ℤ) → T (fits f (fin s (suc m) e)) → down e ≤ 2 ^ low f
unfolding fits
fits-down f s m e t =
    leb→le (down e) (2 ^ low f) (and_r (eqb (suc m % 2) 1 && ltb (suc m) (2 ^ prec f)) (leb (down e) (2 ^ low f))
    (and_l (eqb (suc m % 2) 1 && ltb (suc m) (2 ^ prec f) && leb (down e) (2 ^ low f)) (ltb (suc m * up e) (2 ^ suc (emax f) * down e)) t))

fits-top : (f : Format) (s : Bool) (m : ℕ) (e : ℤ) → T (fits f (fin s (suc m) e)) → suc m * up e < 2 ^ suc (emax f) * down e
unfolding fits
fits-top f s m e t =
    ltb→lt (suc m * up e) (2 ^ suc (emax f) * down e)
    (and_r (eqb (suc m % 2) 1 && ltb (suc m) (2 ^ prec f) && leb (down e) (2 ^ low f)) (ltb (suc m * up e) (2 ^ suc (emax f) * down e)) t)

pub mag-exact : (f : Format) (s : Bool) (m : ℕ) (e : ℤ) → T (fits f (fin s m e)) → mag f (fin s m e) * down e ≡ m * up e * unit f
unfolding mag unit mid
mag-exact f s zero e t =
    let z : zero * up e * 2 ^ low f ≡ 0 = ap (λ (k : ℕ). k * 2 ^ low f) (zero-mul (up e)) ∙ zero-mul (2 ^ low f) in
    ap (λ (k : ℕ). k / down e * down e) z ∙ ap (λ (k : ℕ). k * down e) (zero-div (down e)) ∙ zero-mul (down e) ∙ sym z
mag-exact f s (suc m) e t = exact (suc m * up e) (low f) (down_is e).0 (down e) (down_is e).1 (fits-down f s m e t)

pub mag-lt : (f : Format) (s : Bool) (m : ℕ) (e : ℤ) → T (fits f (fin s m e)) → mag f (fin s m e) < mid f
unfolding mag unit mid
mag-lt f s zero e t = subst (λ (k : ℕ). k < mid f) (sym (ap (λ (k : ℕ). k / down e) (ap (λ (k : ℕ). k * 2 ^ low f) (zero-mul (up e)) ∙ zero-mul (2 ^ low f)) ∙ zero-div (down e))) (mid-pos f)
mag-lt f s (suc m) e t =
    (div-lt_iff_lt-mul (down_pos e)).1
    (subst (λ (z : ℕ). suc m * up e * 2 ^ low f < z)
    (mul_right_comm (2 ^ suc (emax f)) (down e) (2 ^ low f) ∙ ap (λ (z : ℕ). z * down e) (mul_comm (2 ^ suc (emax f)) (2 ^ low f) ∙ sym (pow-add 2 (low f) (suc (emax f)))))
    (mul-lt-mul_of_pos_right (fits-top f s m e t) (pow_pos (low f))))

pub mag-le : (f : Format) (x : Float) → T (fits f x) → mag f x ≤ mid f
mag-le f nan t = unfold mag in zero-le
mag-le f (inf s) t = unfold mag in le_refl (mid f)
mag-le f (fin s m e) t = le_of_lt (mag-lt f s m e t)

-- ---- two sizes compare as the cross products do
module _ (f : Format) (s : Bool) (m : ℕ) (e : ℤ) (t : Bool) (n : ℕ) (d : ℤ) (p : T (fits f (fin s m e))) (q : T (fits f (fin t n d))) where
  pub cross_l : m * up e * down d * unit f ≡ mag f (fin s m e) * (down e * down d)
  cross_l = mul_right_comm (m * up e) (down d) (unit f) ∙ ap (λ (z : ℕ). z * down d) (sym (mag-exact f s m e p)) ∙ mul_assoc (mag f (fin s m e)) (down e) (down d)

  pub cross_r : n * up d * down e * unit f ≡ mag f (fin t n d) * (down e * down d)
  cross_r = mul_right_comm (n * up d) (down e) (unit f) ∙ ap (λ (z : ℕ). z * down e) (sym (mag-exact f t n d q)) ∙ mul_assoc (mag f (fin t n d)) (down d) (down e) ∙ ap (λ (z : ℕ). mag f (fin t n d) * z) (mul_comm (down d) (down e))

  pub both : 0 < down e * down d
  both = mul-pos (down_pos e) (down_pos d)

  pub lt→mag : m * up e * down d < n * up d * down e → mag f (fin s m e) < mag f (fin t n d)
  lt→mag h = lt_of_mul-lt-mul_right (down e * down d) (subst (λ (z : ℕ). z < mag f (fin t n d) * (down e * down d)) cross_l (subst (λ (z : ℕ). m * up e * down d * unit f < z) cross_r (mul-lt-mul_of_pos_right h (unit-pos f))))

  pub mag→lt : mag f (fin s m e) < mag f (fin t n d) → m * up e * down d < n * up d * down e
  mag→lt h = lt_of_mul-lt-mul_right (unit f) (subst (λ (z : ℕ). z < n * up d * down e * unit f) (sym cross_l) (subst (λ (z : ℕ). mag f (fin s m e) * (down e * down d) < z) (sym cross_r) (mul-lt-mul_of_pos_right h both)))

  pub eq→mag : m * up e * down d ≡ n * up d * down e → mag f (fin s m e) ≡ mag f (fin t n d)
  eq→mag h = eq_of_mul-eq-mul_right (down e * down d) both (mag f (fin s m e)) (mag f (fin t n d)) (sym cross_l ∙ ap (λ (z : ℕ). z * unit f) h ∙ cross_r)

  pub mag→eq : mag f (fin s m e) ≡ mag f (fin t n d) → m * up e * down d ≡ n * up d * down e
  mag→eq h = eq_of_mul-eq-mul_right (unit f) (unit-pos f) (m * up e * down d) (n * up d * down e) (cross_l ∙ ap (λ (z : ℕ). z * (down e * down d)) h ∙ sym cross_r)

-- ---- the order
pub mag-zero : (f : Format) (s : Bool) (m : ℕ) (e : ℤ) → T (fits f (fin s m e)) → mag f (fin s m e) ≡ 0 → m ≡ 0
mag-zero f s zero e t h = refl
mag-zero f s (suc m) e t h =
    let p : 0 < suc m * up e * unit f = mul-pos (mul-pos (native.Mathlib.Nat.zero-lt-suc m) (up_pos e)) (unit-pos f) in
    let z : suc m * up e * unit f ≡ 0 = sym (mag-exact f s (suc m) e t) ∙ ap (λ (z : ℕ). z * down e) h ∙ zero-mul (down e) in
    absurd (omega arith)

pub zero-mag : (f : Format) (s : Bool) (m : ℕ) (e : ℤ) → m ≡ 0 → mag f (fin s m e) ≡ 0
unfolding mag
zero-mag f s m e h = ap (λ (k : ℕ). k * up e * unit f / down e) h ∙ ap (λ (k : ℕ). k * unit f / down e) (zero-mul (up e)) ∙ ap (λ (k : ℕ). k / down e) (zero-mul (unit f)) ∙ zero-div (down e)

cross_zero : (m : ℕ) (e d : ℤ) → m ≡ 0 → m * up e * down d ≡ 0
cross_zero m e d h = ap (λ (z : ℕ). z * up e * down d) h ∙ ap (λ (z : ℕ). z * down d) (zero-mul (up e)) ∙ zero-mul (down d)

zero_cross : (m : ℕ) (e d : ℤ) → m * up e * down d ≡ 0 → m ≡ 0
zero_cross zero e d h = refl
zero_cross (suc m) e d h = let p : 0 < suc m * up e * down d = mul-pos (mul-pos (native.Mathlib.Nat.zero-lt-suc m) (up_pos e)) (down_pos d) in absurd (omega arith)

-- one of two is not 0, where one of two others is not that are 0 with them
sum-pos : (a b x y : ℕ) → (x ≡ 0 → a ≡ 0) → (y ≡ 0 → b ≡ 0) → 0 < a + b → 0 < x + y
sum-pos a b zero zero p q h = let i = p refl in let j = q refl in omega arith
sum-pos a b zero (suc y) p q h = omega arith
sum-pos a b (suc x) y p q h = omega arith

pub lt→key : (f : Format) (x y : Float) → T (fits f x) → T (fits f y) → T (lt x y) → key f x < key f y
unfolding lt key mag
lt→key f nan y p q h = absurd h
lt→key f (inf s) nan p q h = absurd h
lt→key f (inf true) (inf true) p q h = absurd h
lt→key f (inf true) (inf false) p q h = omega (arith, mid-pos f)
lt→key f (inf false) (inf t) p q h = absurd h
lt→key f (inf true) (fin true n d) p q h = omega (arith, mag-lt f true n d q)
lt→key f (inf true) (fin false n d) p q h = omega (arith, mid-pos f)
lt→key f (inf false) (fin t n d) p q h = absurd h
lt→key f (fin s m e) nan p q h = absurd h
lt→key f (fin s m e) (inf true) p q h = absurd h
lt→key f (fin true m e) (inf false) p q h = omega (arith, mid-pos f)
lt→key f (fin false m e) (inf false) p q h = omega (arith, mag-lt f false m e p)
lt→key f (fin false m e) (fin false n d) p q h = omega (arith, lt→mag f false m e false n d p q (ltb→lt (m * up e * down d) (n * up d * down e) h))
lt→key f (fin false m e) (fin true n d) p q h = absurd h
lt→key f (fin true m e) (fin false n d) p q h =
    omega (
      arith,
      mag-lt f true m e p,
      sum-pos (m * up e * down d) (n * up d * down e) (mag f (fin true m e)) (mag f (fin false n d)) (λ z. cross_zero m e d (mag-zero f true m e p z)) (λ z. cross_zero n d e (mag-zero f false n d q z)) (ltb→lt 0 (m * up e * down d + n * up d * down e) h),
    )
lt→key f (fin true m e) (fin true n d) p q h = omega (arith, mag-lt f true m e p, lt→mag f true n d true m e q p (ltb→lt (n * up d * down e) (m * up e * down d) h))

-- not a NaN
abbrev pub real : Float → Bool
real nan = false
real (inf s) = true
real (fin s m e) = true

pub finite_real : (x : Float) → T (finite x) → T (real x)
finite_real nan t = t
finite_real (inf s) t = tt
finite_real (fin s m e) t = tt

pub self_real : (x : Float) → eq x x ≡ true → T (real x)
unfolding eq
self_real nan e = subst T (sym e) tt
self_real (inf s) e = tt
self_real (fin s m e) h = tt

pub key-top : (f : Format) (x : Float) → T (fits f x) → key f x ≤ mid f + mid f
unfolding key
key-top f x t = go (negative x) (mag-le f x t)
  where
    go : (s : Bool) → mag f x ≤ mid f → shift (mid f) s (mag f x) ≤ mid f + mid f
    go true h = omega arith
    go false h = omega arith

not-lt : (a b : ℕ) → (b < a → ⊥) → a ≤ b
not-lt a b h = native.Mathlib.Nat.le_of_suc-le-suc (lt_of_not-le (λ (l : suc b ≤ a). h l))

pub nlt→key : (f : Format) (x y : Float) → T (fits f x) → T (fits f y) → T (real x) → T (real y) → T (not (lt x y)) → key f y ≤ key f x
unfolding lt key mag
nlt→key f nan y p q r u h = absurd r
nlt→key f (inf s) nan p q r u h = absurd u
nlt→key f (inf true) (inf true) p q r u h = le_refl (mid f - mid f)
nlt→key f (inf true) (inf false) p q r u h = absurd h
nlt→key f (inf false) (inf t) p q r u h = key-top f (inf t) q
nlt→key f (inf true) (fin t n d) p q r u h = absurd h
nlt→key f (inf false) (fin t n d) p q r u h = key-top f (fin t n d) q
nlt→key f (fin s m e) nan p q r u h = absurd u
nlt→key f (fin s m e) (inf true) p q r u h = omega arith
nlt→key f (fin s m e) (inf false) p q r u h = absurd h
nlt→key f (fin false m e) (fin false n d) p q r u h =
    omega (arith, not-lt (mag f (fin false n d)) (mag f (fin false m e)) (λ g. not-le_of_lt (mag→lt f false m e false n d p q g) (nltb→le (m * up e * down d) (n * up d * down e) h)))
nlt→key f (fin false m e) (fin true n d) p q r u h = omega arith
nlt→key f (fin true m e) (fin false n d) p q r u h =
    let a = m * up e * down d in
    let b = n * up d * down e in
    let g : a + b ≤ 0 = nltb→le 0 (a + b) h in
    omega (arith, zero-mag f true m e (zero_cross m e d (omega arith)), zero-mag f false n d (zero_cross n d e (omega arith)))
nlt→key f (fin true m e) (fin true n d) p q r u h =
    omega (arith, not-lt (mag f (fin true m e)) (mag f (fin true n d)) (λ g. not-le_of_lt (mag→lt f true n d true m e q p g) (nltb→le (n * up d * down e) (m * up e * down d) h)))

-- ---- a comparison is that of the keys
pub same_bool : (a b : Bool) → (T a → T b) → (T b → T a) → a ≡ b
same_bool true true p q = refl
same_bool true false p q = absurd (p tt)
same_bool false true p q = absurd (q tt)
same_bool false false p q = refl

by_not : (b : Bool) → (T (not b) → ⊥) → T b
by_not true h = tt
by_not false h = h tt

pub key→lt : (f : Format) (x y : Float) → T (fits f x) → T (fits f y) → T (real x) → T (real y) → key f x < key f y → T (lt x y)
key→lt f x y p q r u h = by_not (lt x y) (λ n. not-le_of_lt h (nlt→key f x y p q r u n))

pub lt_is : (f : Format) (x y : Float) → T (fits f x) → T (fits f y) → T (real x) → T (real y) → lt x y ≡ ltb (key f x) (key f y)
lt_is f x y p q r u = same_bool (lt x y) (ltb (key f x) (key f y)) (λ h. lt→ltb (key f x) (key f y) (lt→key f x y p q h)) (λ h. key→lt f x y p q r u (ltb→lt (key f x) (key f y) h))

pub or_e : (a b : Bool) → T (a || b) → T a ⊎ T b
or_e true b t = inl tt
or_e false b t = inr t

pub eq→key : (f : Format) (x y : Float) → T (fits f x) → T (fits f y) → T (eq x y) → key f x ≡ key f y
unfolding eq key mag
eq→key f nan y p q h = absurd h
eq→key f (inf s) nan p q h = absurd h
eq→key f (inf true) (inf true) p q h = refl
eq→key f (inf true) (inf false) p q h = absurd h
eq→key f (inf false) (inf true) p q h = absurd h
eq→key f (inf false) (inf false) p q h = refl
eq→key f (inf s) (fin t n d) p q h = absurd h
eq→key f (fin s m e) nan p q h = absurd h
eq→key f (fin s m e) (inf t) p q h = absurd h
eq→key f (fin s m e) (fin t n d) p q h =
    let A = m * up e * down d in
    let B = n * up d * down e in
    go s t (eq→mag f s m e t n d p q (eqb→eq A B (and_l (eqb A B) (beq s t || eqb A 0) h))) (or_e (beq s t) (eqb A 0) (and_r (eqb A B) (beq s t || eqb A 0) h))
  where
    nil : T (eqb (m * up e * down d) 0) → mag f (fin s m e) ≡ 0
    nil z = zero-mag f s m e (zero_cross m e d (eqb→eq (m * up e * down d) 0 z))

    go : (u v : Bool) → mag f (fin s m e) ≡ mag f (fin t n d) → T (beq u v) ⊎ T (eqb (m * up e * down d) 0) → shift (mid f) u (mag f (fin s m e)) ≡ shift (mid f) v (mag f (fin t n d))
    go true true g o = ap (λ (k : ℕ). mid f - k) g
    go false false g o = ap (λ (k : ℕ). mid f + k) g
    go true false g (inl o) = absurd o
    go true false g (inr o) = omega (arith, nil o)
    go false true g (inl o) = absurd o
    go false true g (inr o) = omega (arith, nil o)

or_l : (a b : Bool) → T a → T (a || b)
or_l true b t = tt
or_l false b t = absurd t

or_r : (a b : Bool) → T b → T (a || b)
or_r true b t = tt
or_r false b t = t

-- the key of an infinity is no finite value's
apart : (s t : Bool) (a b : ℕ) → b < a → shift a s a ≡ shift a t b → ⊥
apart true true a b q h = omega arith
apart true false a b q h = omega arith
apart false true a b q h = omega arith
apart false false a b q h = omega arith

pub key→eq : (f : Format) (x y : Float) → T (fits f x) → T (fits f y) → T (real x) → T (real y) → key f x ≡ key f y → T (eq x y)
unfolding eq key mag
key→eq f nan y p q r u h = absurd r
key→eq f (inf s) nan p q r u h = absurd u
key→eq f (inf true) (inf true) p q r u h = tt
key→eq f (inf true) (inf false) p q r u h = absurd (omega (arith, mid-pos f))
key→eq f (inf false) (inf true) p q r u h = absurd (omega (arith, mid-pos f))
key→eq f (inf false) (inf false) p q r u h = tt
key→eq f (inf s) (fin t n d) p q r u h = absurd (apart s t (mid f) (mag f (fin t n d)) (mag-lt f t n d q) h)
key→eq f (fin s m e) nan p q r u h = absurd u
key→eq f (fin s m e) (inf t) p q r u h = absurd (apart t s (mid f) (mag f (fin s m e)) (mag-lt f s m e p) (sym h))
key→eq f (fin s m e) (fin t n d) p q r u h = go s t h
  where
    i : mag f (fin s m e) < mid f
    i = mag-lt f s m e p

    j : mag f (fin t n d) < mid f
    j = mag-lt f t n d q

    equal : (u v : Bool) → mag f (fin s m e) ≡ mag f (fin t n d) → T (beq u v || eqb (m * up e * down d) 0) → T (eqb (m * up e * down d) (n * up d * down e) && (beq u v || eqb (m * up e * down d) 0))
    equal u v g t' = and_i (eqb (m * up e * down d) (n * up d * down e)) (beq u v || eqb (m * up e * down d) 0) (eq→eqb (mag→eq f s m e t n d p q g)) t'

    nil : mag f (fin s m e) ≡ 0 → T (eqb (m * up e * down d) 0)
    nil z = eq→eqb (cross_zero m e d (mag-zero f s m e p z))

    go : (u v : Bool) → shift (mid f) u (mag f (fin s m e)) ≡ shift (mid f) v (mag f (fin t n d)) → T (eqb (m * up e * down d) (n * up d * down e) && (beq u v || eqb (m * up e * down d) 0))
    go true true g = equal true true (omega (arith, i, j)) tt
    go false false g = equal false false (omega arith) tt
    go true false g = equal true false (omega (arith, i, j)) (nil (omega (arith, i)))
    go false true g = equal false true (omega (arith, i, j)) (nil (omega (arith, j)))

pub eq_is : (f : Format) (x y : Float) → T (fits f x) → T (fits f y) → T (real x) → T (real y) → eq x y ≡ eqb (key f x) (key f y)
eq_is f x y p q r u = same_bool (eq x y) (eqb (key f x) (key f y)) (λ h. eq→eqb (eq→key f x y p q h)) (λ h. key→eq f x y p q r u (eqb→eq (key f x) (key f y) h))

pub le→key : (f : Format) (x y : Float) → T (fits f x) → T (fits f y) → T (le x y) → key f x ≤ key f y
unfolding le
le→key f x y p q h = elim (or_e (lt x y) (eq x y) h) [ inl a ↦ le_of_lt (lt→key f x y p q a) | inr b ↦ le_of_eq (eq→key f x y p q b) ]

pub key→le : (f : Format) (x y : Float) → T (fits f x) → T (fits f y) → T (real x) → T (real y) → key f x ≤ key f y → T (le x y)
unfolding le
key→le f x y p q r u h = elim (eq-or-lt_of_le h) [ inl e ↦ or_r (lt x y) (eq x y) (key→eq f x y p q r u e) | inr l ↦ or_l (lt x y) (eq x y) (key→lt f x y p q r u l) ]

pub nle→key : (f : Format) (x y : Float) → T (fits f x) → T (fits f y) → T (real x) → T (real y) → T (not (le x y)) → key f y < key f x
nle→key f x y p q r u h = lt_of_not-le (λ (g : key f x ≤ key f y). T_not (le x y) h (key→le f x y p q r u g))

pub le_is : (f : Format) (x y : Float) → T (fits f x) → T (fits f y) → T (real x) → T (real y) → le x y ≡ leb (key f x) (key f y)
le_is f x y p q r u = same_bool (le x y) (leb (key f x) (key f y)) (λ h. le→leb (key f x) (key f y) (le→key f x y p q h)) (λ h. key→le f x y p q r u (leb→le (key f x) (key f y) h))

-- ---- a number is known by its key
pub same_bits : (f : Format) (s : Bool) (m : ℕ) (e : ℤ) (n : ℕ) (d : ℤ) → mag f (fin s m e) ≡ mag f (fin s n d) → to_bits f (fin s m e) ≡ to_bits f (fin s n d)
unfolding to_bits mag unit
same_bits f s m e n d h = ap (λ (k : ℕ). cond s (lib.Ieee.top f) 0 + (lib.Ieee.size k - prec f) * lib.Ieee.hid f + k / 2 ^ (lib.Ieee.size k - prec f)) h

pub by_bits : (f : Format) (x y : Float) → T (fits f x) → T (fits f y) → to_bits f x ≡ to_bits f y → x ≡ y
by_bits f x y p q h = sym (of_bits-to_bits f x p) ∙ ap (of_bits f) h ∙ of_bits-to_bits f y q

pub mag-pos : (f : Format) (s : Bool) (m : ℕ) (e : ℤ) → T (fits f (fin s m e)) → 0 < m → 0 < mag f (fin s m e)
mag-pos f s m e p h = elim (native.Mathlib.Nat.eq-zero-or-pos (mag f (fin s m e))) [ inl g ↦ absurd (omega (arith, h, mag-zero f s m e p g)) | inr l ↦ l ]

pub key_inj : (f : Format) (x y : Float) → NumberIn f x → NumberIn f y → key f x ≡ key f y → x ≡ y
unfolding key
key_inj f nan y p q h = absurd p.is_finite
key_inj f (inf s) y p q h = absurd p.is_finite
key_inj f (fin s m e) nan p q h = absurd q.is_finite
key_inj f (fin s m e) (inf t) p q h = absurd q.is_finite
key_inj f (fin true m e) (fin true n d) p q h = by_bits f (fin true m e) (fin true n d) p.fit q.fit (same_bits f true m e n d (omega (arith, mag-lt f true m e p.fit, mag-lt f true n d q.fit)))
key_inj f (fin false m e) (fin false n d) p q h = by_bits f (fin false m e) (fin false n d) p.fit q.fit (same_bits f false m e n d (omega arith))
key_inj f (fin true m e) (fin false n d) p q h = absurd (omega (arith, mag-pos f true m e p.fit (ltb→lt 0 m p.plus), mid-pos f))
key_inj f (fin false m e) (fin true n d) p q h = absurd (omega (arith, mag-pos f true n d q.fit (ltb→lt 0 n q.plus), mid-pos f))
