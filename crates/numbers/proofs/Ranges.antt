-- Bounds that are numbers, exact results, products, whole numbers, the smaller and the larger of two. Assumes nothing.
use Rattle.std.proofs.Common.{◌≡◌, ℕ, suc, ◌+◌, ◌-◌, ◌*◌, ◌^◌, ◌<◌, ◌≤◌, min, max, Bool, true, false, cond, not, T, ◌⊎◌, pos, sym, refl, ap, ◌∙◌, subst, inl, inr, le_trans, le_of_eq, le_refl, le_of_suc-le-suc, mul-le-mul_right, mul_assoc, mul-le-mul, le_antisymm, mul-le-mul_left, mul-pos, mul-one, arith, ltb→lt}
use native.Mathlib.Nat.{mul-mul-mul_comm}
use lib.Ieee.{Float, nan, inf, fin, Format, prec, emax, round, fits, lt, le, add, sub, mul, div, of_int, unlike, to_unsigned}
use lib.Ieee.Fits.{round-fits, mul-fits}
use lib.Ieee.Exact.{HasValue}
use lib.Ieee.Back.{round_whole}
use lib.Ieee.Scale.{finite}
use Rattle.numbers.proofs.Keys.{mid, unit, mag, negative, shift, key, FiniteIn, NumberIn, fin_of, unit-pos, mid-pos, mag-le, mag-pos, finite_real, lt→key, le→key, key_inj, nlt→key}
use Rattle.numbers.proofs.Rounding.{rounded, rounded-shift, rounded_mono_same, rounded-key, rounded_num, near, near-exact, near_mono, key-pos, key_neg}
use Rattle.numbers.proofs.Operations.{add_is, sub_is, mul-key, mul-real}
use Rattle.numbers.proofs.Bounds.{Within, value_key, near-whole, within_finite}
use Rattle.numbers.proofs.Truth.{below_or_not}

-- ---- a number rounded is itself
pub rounded_self : (f : Format) (x : Float) → NumberIn f x → rounded f (key f x) (mid f) (unit f) ≡ x
rounded_self f x p = key_inj f (rounded f (key f x) (mid f) (unit f)) x (rounded_num f (key f x) (mid f) x x (fin_of p) (fin_of p) (le_refl (key f x + mid f)) (le_refl (key f x + mid f))) p (rounded-key f x (fin_of p))

-- ---- bounds that are any two finite values
pub record Between (f : Format) (lo hi x : Float) : Type 0 where
  pub num : NumberIn f x
  pub from : key f lo ≤ key f x
  pub upto : key f x ≤ key f hi

rounded-between : (f : Format) (p n : ℕ) (lo hi : Float) → FiniteIn f lo → FiniteIn f hi → key f lo + n ≤ p + mid f → p + mid f ≤ key f hi + n → Between f lo hi (rounded f p n (unit f))
rounded-between f p n lo hi L H h k = record {
  num = rounded_num f p n lo hi L H h k;
  from = subst (λ (z : ℕ). z ≤ key f (rounded f p n (unit f))) (rounded-key f lo L) (rounded_mono_same f (key f lo) (mid f) p n (unit f) (unit-pos f) h);
  upto = subst (λ (z : ℕ). key f (rounded f p n (unit f)) ≤ z) (rounded-key f hi H) (rounded_mono_same f p n (key f hi) (mid f) (unit f) (unit-pos f) k);
}

pub add-between : (f : Format) (x y lo hi : Float) → NumberIn f x → FiniteIn f y → FiniteIn f lo → FiniteIn f hi → key f lo + mid f ≤ key f x + key f y → key f x + key f y ≤ key f hi + mid f → Between f lo hi (add f x y)
add-between f x y lo hi p q L H h k = rw (add_is f x y p q) (rounded-between f (key f x + key f y) (mid f + mid f) lo hi L H (omega arith) (omega arith))

pub sub-between : (f : Format) (x y lo hi : Float) → NumberIn f x → FiniteIn f y → FiniteIn f lo → FiniteIn f hi → key f lo + key f y ≤ key f x + mid f → key f x + mid f ≤ key f hi + key f y → Between f lo hi (sub f x y)
sub-between f x y lo hi p q L H h k = rw (sub_is f x y p q) (rounded-between f (key f x) (key f y) lo hi L H h k)

-- ---- exact sums and differences
pub add-exact : (f : Format) (x y z : Float) → NumberIn f x → FiniteIn f y → NumberIn f z → key f x + key f y ≡ key f z + mid f → add f x y ≡ z
add-exact f x y z p q r h = add_is f x y p q ∙ rounded-shift f (key f x + key f y) (mid f + mid f) (key f z) (mid f) (unit f) (omega arith) ∙ rounded_self f z r

pub sub-exact : (f : Format) (x y z : Float) → NumberIn f x → FiniteIn f y → NumberIn f z → key f x + mid f ≡ key f z + key f y → sub f x y ≡ z
sub-exact f x y z p q r h = sub_is f x y p q ∙ rounded-shift f (key f x) (key f y) (key f z) (mid f) (unit f) h ∙ rounded_self f z r

-- a sum or a difference that is a count of 2 ^ j units, of prec digits at most, is exact
pub rounded-grid-pos : (f : Format) (p n q j : ℕ) → q < 2 ^ prec f → q * 2 ^ j < mid f → p ≡ n + q * 2 ^ j → key f (rounded f p n (unit f)) ≡ mid f + q * 2 ^ j
rounded-grid-pos f p n q j h k e =
    let d : p - n ≡ q * 2 ^ j = omega arith in
    omega (arith, key-pos f p n (unit f) (omega arith), ap (λ (a : ℕ). near f a (unit f)) d, near-exact f q j h k)

pub rounded-grid_neg : (f : Format) (p n q j : ℕ) → q < 2 ^ prec f → q * 2 ^ j < mid f → 0 < q * 2 ^ j → n ≡ p + q * 2 ^ j → key f (rounded f p n (unit f)) ≡ mid f - q * 2 ^ j
rounded-grid_neg f p n q j h k g e =
    let d : n - p ≡ q * 2 ^ j = omega arith in
    omega (arith, key_neg f p n (unit f) (omega arith), ap (λ (a : ℕ). near f a (unit f)) d, near-exact f q j h k)

-- ---- zero
pub zero_num : (f : Format) → NumberIn f (fin false 0 (pos 0))
unfolding fits
zero_num f = record { fit = tt; is_finite = tt; plus = tt }

pub zero-key : (f : Format) → key f (fin false 0 (pos 0)) ≡ mid f
zero-key f = omega (arith, value_key f (fin false 0 (pos 0)) false 0 (zero_num f).fit (refl, refl))

-- 0 + x is x, and takes the sign off -0
pub zero-add : (f : Format) (x : Float) → FiniteIn f x → NumberIn f (add f (fin false 0 (pos 0)) x) × (key f (add f (fin false 0 (pos 0)) x) ≡ key f x)
zero-add f x p =
    let z : key f (fin false 0 (pos 0)) ≡ mid f = zero-key f in
    let B : Between f x x (add f (fin false 0 (pos 0)) x) = add-between f (fin false 0 (pos 0)) x x x (zero_num f) p p p (omega arith) (omega arith) in
    (B.num, le_antisymm B.upto B.from)

pub sub_self : (f : Format) (x : Float) → NumberIn f x → sub f x x ≡ fin false 0 (pos 0)
sub_self f x p = let z : key f (fin false 0 (pos 0)) ≡ mid f = zero-key f in sub-exact f x x (fin false 0 (pos 0)) p (fin_of p) (zero_num f) (omega arith)

-- ---- whole numbers
pub int_num : (f : Format) (n : ℕ) → n ≤ 2 ^ prec f → NumberIn f (of_int f (pos n)) × (key f (of_int f (pos n)) ≡ mid f + n * unit f)
unfolding of_int
int_num f n h = (record { fit = round-fits f false n 1; is_finite = fw (round f false n 1) V'; plus = Rattle.numbers.proofs.Rounding.plus-plain (round f false n 1) (Rattle.numbers.proofs.Rounding.round_minus f false n 1) }, value_key f (round f false n 1) false n (round-fits f false n 1) V')
  where
    V' : HasValue (round f false n 1) false n 1
    V' = round_whole f false n h

    fw : (x : Float) → HasValue x false n 1 → T (finite x)
    fw nan v = v
    fw (inf s) v = v
    fw (fin s m e) v = tt

-- ---- the size of a key
pub size_is : (f : Format) (x : Float) → FiniteIn f x → (n : ℕ) → Within f n x → mag f x ≤ n * unit f
unfolding key
size_is f x p n w = go (negative x) (mag-le f x p.fit) w.at_least w.at_most
  where
    go : (s : Bool) → mag f x ≤ mid f → mid f ≤ shift (mid f) s (mag f x) + n * unit f → shift (mid f) s (mag f x) ≤ mid f + n * unit f → mag f x ≤ n * unit f
    go true h k l = omega arith
    go false h k l = omega arith

-- ---- products
near_product : (f : Format) (a b m n : ℕ) → m ≤ a * unit f → n ≤ b * unit f → a * b ≤ 2 ^ prec f → near f (m * n) (unit f * unit f) ≤ a * b * unit f
near_product f a b m n h k l =
    subst (λ (z : ℕ). near f (m * n) (unit f * unit f) ≤ z) (near-whole f (a * b) l)
    (near_mono f (m * n) (unit f * unit f) (a * b) 1 (mul-pos (unit-pos f) (unit-pos f)) (native.Mathlib.Nat.zero-lt-suc 0)
    (le_trans (le_of_eq (mul-one (m * n))) (le_trans (mul-le-mul h k) (le_of_eq (mul-mul-mul_comm a (unit f) b (unit f))))))

pub mul-within : (f : Format) (a b : ℕ) (x y : Float) → FiniteIn f x → FiniteIn f y → Within f a x → Within f b y → a * b ≤ 2 ^ prec f → FiniteIn f (mul f x y) × Within f (a * b) (mul f x y)
mul-within f a b x y p q v w h = (record { fit = mul-fits f x y; is_finite = within_finite f (mul f x y) (a * b) (mul-fits f x y) (mul-real f x y p q) h W }, W)
  where
    go : (s : Bool) (n : ℕ) → key f (mul f x y) ≡ shift (mid f) s n → n ≤ a * b * unit f → Within f (a * b) (mul f x y)
    go true n e l = record { at_least = omega arith; at_most = omega arith }
    go false n e l = record { at_least = omega arith; at_most = omega arith }

    W : Within f (a * b) (mul f x y)
    W = go (unlike (negative x) (negative y)) (near f (mag f x * mag f y) (unit f * unit f)) (mul-key f x y p q) (near_product f a b (mag f x) (mag f y) (size_is f x p a v) (size_is f y q b w) h)

-- the sign and the size of a number that is not negative
pub nonneg_minus : (f : Format) (x : Float) → NumberIn f x → mid f ≤ key f x → (negative x ≡ false) × (key f x ≡ mid f + mag f x)
unfolding key
nonneg_minus f nan p h = absurd p.is_finite
nonneg_minus f (inf s) p h = absurd p.is_finite
nonneg_minus f (fin true m e) p h = absurd (omega (arith, mag-pos f true m e p.fit (ltb→lt 0 m p.plus), mid-pos f))
nonneg_minus f (fin false m e) p h = (refl, refl)

-- numbers that are not negative: the product grows with each factor
pub mul_mono : (f : Format) (x y x' y' : Float) → NumberIn f x → NumberIn f y → NumberIn f x' → NumberIn f y' → mid f ≤ key f x → mid f ≤ key f y → key f x ≤ key f x' → key f y ≤ key f y' → key f (mul f x y) ≤ key f (mul f x' y')
mul_mono f x y x' y' p q r u a b h k =
    let X = (nonneg_minus f x p a).1 in
    let Y = (nonneg_minus f y q b).1 in
    let X' = (nonneg_minus f x' r (le_trans a h)).1 in
    let Y' = (nonneg_minus f y' u (le_trans b k)).1 in
    let U : 0 < unit f * unit f = mul-pos (unit-pos f) (unit-pos f) in
    let n : near f (mag f x * mag f y) (unit f * unit f) ≤ near f (mag f x' * mag f y') (unit f * unit f) = near_mono f (mag f x * mag f y) (unit f * unit f) (mag f x' * mag f y') (unit f * unit f) U U (mul-le-mul_right (unit f * unit f) (mul-le-mul (omega (arith, X, X')) (omega (arith, Y, Y')))) in
    omega (arith, n, at f x y p q a b, at f x' y' r u (le_trans a h) (le_trans b k))
  where
    at : (f : Format) (x y : Float) → NumberIn f x → NumberIn f y → mid f ≤ key f x → mid f ≤ key f y → key f (mul f x y) ≡ mid f + near f (mag f x * mag f y) (unit f * unit f)
    at f x y p q a b = mul-key f x y (fin_of p) (fin_of q) ∙ ap (λ (s : Bool). shift (mid f) (unlike s (negative y)) (near f (mag f x * mag f y) (unit f * unit f))) (nonneg_minus f x p a).0 ∙ ap (λ (s : Bool). shift (mid f) (unlike false s) (near f (mag f x * mag f y) (unit f * unit f))) (nonneg_minus f y q b).0

-- ---- the smaller and the larger of two
pub smaller-key : (f : Format) (a b : Float) → NumberIn f a → NumberIn f b → key f (cond (lt b a) b a) ≡ min (key f a) (key f b)
smaller-key f a b p q = go (lt b a) (lt→key f b a q.fit p.fit) (nlt→key f b a q.fit p.fit (finite_real b q.is_finite) (finite_real a p.is_finite))
  where
    go : (t : Bool) → (T t → key f b < key f a) → (T (not t) → key f a ≤ key f b) → key f (cond t b a) ≡ min (key f a) (key f b)
    go true h k = omega (arith, h tt)
    go false h k = omega (arith, k tt)

pub larger-key : (f : Format) (a b : Float) → NumberIn f a → NumberIn f b → key f (cond (lt a b) b a) ≡ max (key f a) (key f b)
larger-key f a b p q = go (lt a b) (lt→key f a b p.fit q.fit) (nlt→key f a b p.fit q.fit (finite_real a p.is_finite) (finite_real b q.is_finite))
  where
    go : (t : Bool) → (T t → key f a < key f b) → (T (not t) → key f b ≤ key f a) → key f (cond t b a) ≡ max (key f a) (key f b)
    go true h k = omega (arith, h tt)
    go false h k = omega (arith, k tt)

pub cond_num : (f : Format) (t : Bool) (a b : Float) → NumberIn f a → NumberIn f b → NumberIn f (cond t a b)
cond_num f true a b p q = p
cond_num f false a b p q = q

-- ---- tests
pub tested_within : (f : Format) (n : ℕ) (lo hi x : Float) → T (fits f lo) → T (fits f hi) → T (fits f x) → HasValue lo true n 1 → HasValue hi false n 1 → T (le lo x) → T (le x hi) → n ≤ 2 ^ prec f → FiniteIn f x × Within f n x
tested_within f n lo hi x a b c v w h k l = (record { fit = c; is_finite = within_finite f x n c (Rattle.numbers.proofs.RoundDown.le-real lo x h) l W }, W)
  where
    z : (m n k r : ℕ) → r ≡ m - n → r ≤ k → m ≤ k + n
    z m n k r e h = omega arith

    W : Within f n x
    W = record { at_least = z (mid f) (n * unit f) (key f x) (key f lo) (value_key f lo true n a v) (le→key f lo x a c h); at_most = subst (λ (r : ℕ). key f x ≤ r) (value_key f hi false n b w) (le→key f x hi c b k) }

-- ---- a quotient by a number that is at least 1 / k
pub div-within : (f : Format) (a k : ℕ) (x y : Float) → FiniteIn f x → FiniteIn f y → Within f a x → mid f < key f y → unit f ≤ k * (key f y - mid f) → a * k ≤ 2 ^ prec f → FiniteIn f (div f x y) × Within f (a * k) (div f x y)
div-within f a k x y p q w h u l = (record { fit = lib.Ieee.Fits.div-fits f x y; is_finite = within_finite f (div f x y) (a * k) (lib.Ieee.Fits.div-fits f x y) (Rattle.numbers.proofs.Operations.div-real f x y p q h) l W }, W)
  where
    -- a size of at most a is at most a k of y's
    reach : (c s : ℕ) → 0 < c → unit f ≤ k * c → s ≤ a * unit f → near f s c ≤ a * k * unit f
    reach c s C u g = rw (near-whole f (a * k) l) at (near_mono f s c (a * k) 1 C (lib.Dec.lit< tt) (le_trans (le_of_eq (mul-one s)) (le_trans g (le_trans (mul-le-mul_left a u) (le_of_eq (sym (mul_assoc a k c)))))))

    go : (c : ℕ) → 0 < c → unit f ≤ k * c → key f (div f x y) ≡ key f (rounded f (key f x) (mid f) c) → (key f x < mid f) ⊎ (mid f ≤ key f x) → Within f (a * k) (div f x y)
    go c C u K (inl g) =
        let E = key_neg f (key f x) (mid f) c g in
        let R = reach c (mid f - key f x) C u (omega arith) in
        record { at_least = omega (arith, E, R, K); at_most = omega (arith, E, K) }
    go c C u K (inr g) =
        let E = key-pos f (key f x) (mid f) c g in
        let R = reach c (key f x - mid f) C u (omega arith) in
        record { at_least = omega (arith, E, K); at_most = omega (arith, E, R, K) }

    W : Within f (a * k) (div f x y)
    W = go (key f y - mid f) (omega arith) u (Rattle.numbers.proofs.Operations.div-key f x y p q h) (below_or_not (key f x) (mid f))

-- the whole part of a bounded value
pub floor_within : (f : Format) (w n : ℕ) (x : Float) → FiniteIn f x → Within f n x → w ≤ suc (emax f) → to_unsigned w x ≤ n
floor_within f w n x p b h = le_of_suc-le-suc (Rattle.numbers.proofs.RoundDown.floor-lt f w x (suc n) p.fit (finite_real x p.is_finite) h (native.Mathlib.Nat.zero-lt-suc n) (subst (λ (k : ℕ). key f x < mid f + k) (sym (native.Mathlib.Nat.suc-mul n (unit f))) (omega (arith, b.at_most, unit-pos f))))
