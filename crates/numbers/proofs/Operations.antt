-- The four operations on finite values as rounded signed fractions of keys. Assumes nothing.
use Rattle.std.proofs.Common.{◌≡◌, ℕ, zero, suc, ◌+◌, ◌-◌, ◌*◌, ◌<◌, ◌≤◌, Bool, true, false, cond, not, ◌&&◌, T, eqb, ltb, ◌⊎◌, ℤ, sym, refl, ap, ◌∙◌, subst, inl, inr, le_trans, le_of_eq, le_of_lt, mul-le-mul_right, mul_assoc, mul_comm, add-mul, eq-zero-or-pos, le_antisymm, lt_of_mul-lt-mul_right, mul-le-mul_left, mul-lt-mul_of_pos_right, mul-pos, sub-add_cancel, mul_right_comm, le_of_mul-le-mul_right, mul_left_comm, arith, eqb→eq, ltb→lt, lt→ltb, nltb→le}
use native.Mathlib.Nat.{mul-mul-mul_comm, eq_of_mul-eq-mul_right}
use mathlib.Core.Bool.{beq}
use lib.Ieee.{Float, nan, inf, fin, Format, up, down, round, fits, neg, sum, add, sub, mul, div, unlike}
use lib.Ieee.Fits.{up_pos, down_pos, neg-fits}
use lib.Ieee.Scale.{round_same}
use Rattle.numbers.proofs.Keys.{mid, unit, mag, negative, shift, key, plain, FiniteIn, NumberIn, fin_of, unit-pos, mid-pos, mag-exact, mag-lt, mag-pos, real, cross_l, cross_r, both}
use Rattle.numbers.proofs.Rounding.{rounded, rounded_at_neg, rounded_at_pos, rounded-shift, round-key, round-real, near, near_le, near_mono, near-mag, near-zero, key-pos}

-- ---- equal fractions
pub near_same : (f : Format) (a b c d : ℕ) → 0 < b → 0 < d → a * d ≡ c * b → near f a b ≡ near f c d
near_same f a b c d B D e = le_antisymm (near_mono f a b c d B D (le_of_eq e)) (near_mono f c d a b D B (le_of_eq (sym e)))

-- ---- a sum of a / c and b / c, which are A and B units
dist : (a b c u A B : ℕ) → a * u ≡ A * c → b * u ≡ B * c → b ≤ a → B ≤ A → (a - b) * u ≡ (A - B) * c
dist a b c u A B p q h k =
    let x : (a - b) * u + b * u ≡ a * u = sym (add-mul (a - b) b u) ∙ ap (λ (z : ℕ). z * u) (sub-add_cancel h) in
    let y : (A - B) * c + B * c ≡ A * c = sym (add-mul (A - B) B c) ∙ ap (λ (z : ℕ). z * c) (sub-add_cancel k) in
    omega arith

module _ (f : Format) (a b c A B : ℕ) (C : 0 < c) (p : a * unit f ≡ A * c) (q : b * unit f ≡ B * c) (h_a : A ≤ mid f) (h_b : B ≤ mid f) where
  le_up : a ≤ b → A ≤ B
  le_up h = le_of_mul-le-mul_right (subst (λ (z : ℕ). z ≤ B * c) p (subst (λ (z : ℕ). a * unit f ≤ z) q (mul-le-mul_right (unit f) h))) C

  lt_up : a < b → A < B
  lt_up h = lt_of_mul-lt-mul_right c (subst (λ (z : ℕ). z < B * c) p (subst (λ (z : ℕ). a * unit f < z) q (mul-lt-mul_of_pos_right h (unit-pos f))))

  total : (a + b) * unit f ≡ (A + B) * c
  total = add-mul a b (unit f) ∙ ap (λ (z : ℕ). z + b * unit f) p ∙ ap (λ (z : ℕ). A * c + z) q ∙ sym (add-mul A B c)

sum_at : (f : Format) (s : Bool) (a : ℕ) (t : Bool) (b c A B : ℕ) → 0 < c → a * unit f ≡ A * c → b * unit f ≡ B * c → A ≤ mid f → B ≤ mid f → (T (s && t) → 0 < A + B)
    → sum f s a t b c ≡ rounded f (shift (mid f) s A + shift (mid f) t B) (mid f + mid f) (unit f)
unfolding sum
sum_at f false a false b c A B C p q h_a h_b nz = round_same f false (a + b) c (A + B) (unit f) C (unit-pos f) (total f a b c A B C p q h_a h_b) ∙ sym (rounded_at_pos f (mid f + A + (mid f + B)) (mid f + mid f) (unit f) (A + B) (omega arith))
sum_at f true a true b c A B C p q h_a h_b nz = round_same f true (a + b) c (A + B) (unit f) C (unit-pos f) (total f a b c A B C p q h_a h_b) ∙ sym (rounded_at_neg f (mid f - A + (mid f - B)) (mid f + mid f) (unit f) (A + B) (omega arith) (nz tt))
sum_at f false a true b c A B C p q h_a h_b nz = go (ltb a b) (ltb→lt a b) (nltb→le a b)
  where
    go : (x : Bool) → (T x → a < b) → (T (not x) → b ≤ a) → cond x (round f true (b - a) c) (round f false (a - b) c) ≡ rounded f (mid f + A + (mid f - B)) (mid f + mid f) (unit f)
    go true l g =
        let k : A < B = lt_up f a b c A B C p q h_a h_b (l tt) in
        round_same f true (b - a) c (B - A) (unit f) C (unit-pos f) (dist b a c (unit f) B A q p (le_of_lt (l tt)) (le_of_lt k)) ∙ sym (rounded_at_neg f (mid f + A + (mid f - B)) (mid f + mid f) (unit f) (B - A) (omega arith) (omega arith))
    go false l g =
        let k : B ≤ A = le_up f b a c B A C q p h_b h_a (g tt) in
        round_same f false (a - b) c (A - B) (unit f) C (unit-pos f) (dist a b c (unit f) A B p q (g tt) k) ∙ sym (rounded_at_pos f (mid f + A + (mid f - B)) (mid f + mid f) (unit f) (A - B) (omega arith))
sum_at f true a false b c A B C p q h_a h_b nz = go (ltb a b) (ltb→lt a b) (nltb→le a b)
  where
    again : (x : Bool) → b ≤ a → (T x → b < a) → (T (not x) → a ≤ b) → round f x (a - b) c ≡ rounded f (mid f - A + (mid f + B)) (mid f + mid f) (unit f)
    again true g l r =
        let k : B < A = lt_up f b a c B A C q p h_b h_a (l tt) in
        round_same f true (a - b) c (A - B) (unit f) C (unit-pos f) (dist a b c (unit f) A B p q g (le_of_lt k)) ∙ sym (rounded_at_neg f (mid f - A + (mid f + B)) (mid f + mid f) (unit f) (A - B) (omega arith) (omega arith))
    again false g l r =
        let k : B ≤ A = le_up f b a c B A C q p h_b h_a g in
        let j : A ≤ B = le_up f a b c A B C p q h_a h_b (r tt) in
        round_same f false (a - b) c (A - B) (unit f) C (unit-pos f) (dist a b c (unit f) A B p q g k) ∙ sym (rounded_at_pos f (mid f - A + (mid f + B)) (mid f + mid f) (unit f) (A - B) (omega arith))

    go : (x : Bool) → (T x → a < b) → (T (not x) → b ≤ a) → cond x (round f false (b - a) c) (round f (ltb b a) (a - b) c) ≡ rounded f (mid f - A + (mid f + B)) (mid f + mid f) (unit f)
    go true l g =
        let k : A < B = lt_up f a b c A B C p q h_a h_b (l tt) in
        round_same f false (b - a) c (B - A) (unit f) C (unit-pos f) (dist b a c (unit f) B A q p (le_of_lt (l tt)) (le_of_lt k)) ∙ sym (rounded_at_pos f (mid f - A + (mid f + B)) (mid f + mid f) (unit f) (B - A) (omega arith))
    go false l g = again (ltb b a) (g tt) (ltb→lt b a) (nltb→le b a)

add_at : (f : Format) (x y : Float) → FiniteIn f x → FiniteIn f y → T (plain x) ⊎ T (plain y) → add f x y ≡ rounded f (key f x + key f y) (mid f + mid f) (unit f)
unfolding add key
add_at f nan y p q o = absurd p.is_finite
add_at f (inf s) y p q o = absurd p.is_finite
add_at f (fin s m e) nan p q o = absurd q.is_finite
add_at f (fin s m e) (inf t) p q o = absurd q.is_finite
add_at f (fin s m e) (fin t n d) p q o =
    sum_at f s (m * up e * down d) t (n * up d * down e) (down e * down d) (mag f (fin s m e)) (mag f (fin t n d)) (both f s m e t n d p.fit q.fit)
    (cross_l f s m e t n d p.fit q.fit) (cross_r f s m e t n d p.fit q.fit) (le_of_lt (mag-lt f s m e p.fit)) (le_of_lt (mag-lt f t n d q.fit)) (nz s t o (mag-pos f s m e p.fit) (mag-pos f t n d q.fit))
  where
    l : (a b : ℕ) → 0 < a → 0 < a + b
    l a b h = omega arith

    nz : (s' t' : Bool) → T (plain (fin s' m e)) ⊎ T (plain (fin t' n d)) → (0 < m → 0 < mag f (fin s m e)) → (0 < n → 0 < mag f (fin t n d)) → T (s' && t') → 0 < mag f (fin s m e) + mag f (fin t n d)
    nz true true (inl h) i j k = l (mag f (fin s m e)) (mag f (fin t n d)) (i (ltb→lt 0 m h))
    nz true true (inr h) i j k = omega (arith, j (ltb→lt 0 n h))
    nz true false h i j k = absurd k
    nz false t' h i j k = absurd k

pub add_is : (f : Format) (x y : Float) → NumberIn f x → FiniteIn f y → add f x y ≡ rounded f (key f x + key f y) (mid f + mid f) (unit f)
add_is f x y p q = add_at f x y (fin_of p) q (inl p.plus)

-- with -0 among them, the key is the same
sum-key : (f : Format) (s : Bool) (a : ℕ) (t : Bool) (b c A B : ℕ) → 0 < c → a * unit f ≡ A * c → b * unit f ≡ B * c → A ≤ mid f → B ≤ mid f
    → key f (sum f s a t b c) ≡ key f (rounded f (shift (mid f) s A + shift (mid f) t B) (mid f + mid f) (unit f))
sum-key f true a true b c A B C p q h_a h_b = go (eq-zero-or-pos (A + B))
  where
    opened : sum f true a true b c ≡ round f true (a + b) c
    opened = unfold sum in refl

    go : (A + B ≡ 0) ⊎ (0 < A + B) → key f (sum f true a true b c) ≡ key f (rounded f (mid f - A + (mid f - B)) (mid f + mid f) (unit f))
    go (inr l) = ap (key f) (sum_at f true a true b c A B C p q h_a h_b (λ _. l))
    go (inl e) =
        ap (key f) opened ∙ round-key f true (a + b) c
        ∙ ap (λ (k : ℕ). mid f - k) (near_same f (a + b) c (A + B) (unit f) C (unit-pos f) (total f a b c A B C p q h_a h_b) ∙ ap (λ (k : ℕ). near f k (unit f)) e ∙ near-zero f (unit f) (unit-pos f))
        ∙ omega arith
        ∙ ap (λ (k : ℕ). mid f + k) (sym (ap (λ (k : ℕ). near f k (unit f)) (omega arith) ∙ near-zero f (unit f) (unit-pos f)))
        ∙ sym (key-pos f (mid f - A + (mid f - B)) (mid f + mid f) (unit f) (omega arith))
sum-key f true a false b c A B C p q h_a h_b = ap (key f) (sum_at f true a false b c A B C p q h_a h_b (λ t. absurd t))
sum-key f false a t b c A B C p q h_a h_b = ap (key f) (sum_at f false a t b c A B C p q h_a h_b (λ t. absurd t))

pub add-key : (f : Format) (x y : Float) → FiniteIn f x → FiniteIn f y → key f (add f x y) ≡ key f (rounded f (key f x + key f y) (mid f + mid f) (unit f))
unfolding add key
add-key f nan y p q = absurd p.is_finite
add-key f (inf s) y p q = absurd p.is_finite
add-key f (fin s m e) nan p q = absurd q.is_finite
add-key f (fin s m e) (inf t) p q = absurd q.is_finite
add-key f (fin s m e) (fin t n d) p q =
    sum-key f s (m * up e * down d) t (n * up d * down e) (down e * down d) (mag f (fin s m e)) (mag f (fin t n d)) (both f s m e t n d p.fit q.fit)
    (cross_l f s m e t n d p.fit q.fit) (cross_r f s m e t n d p.fit q.fit) (le_of_lt (mag-lt f s m e p.fit)) (le_of_lt (mag-lt f t n d q.fit))

-- ---- the difference
pub neg_fin : (f : Format) (y : Float) → FiniteIn f y → FiniteIn f (neg y)
neg_fin f nan q = absurd q.is_finite
neg_fin f (inf t) q = absurd q.is_finite
neg_fin f (fin t n d) q = record { fit = neg-fits f (fin t n d) q.fit; is_finite = unfold neg in tt }

pub neg_key : (f : Format) (y : Float) → FiniteIn f y → key f (neg y) + key f y ≡ mid f + mid f
unfolding key neg mag
neg_key f nan q = absurd q.is_finite
neg_key f (inf t) q = absurd q.is_finite
neg_key f (fin true n d) q = omega (arith, mag-lt f true n d q.fit)
neg_key f (fin false n d) q = omega (arith, mag-lt f false n d q.fit)

sub_opens : (f : Format) (x y : Float) → sub f x y ≡ add f x (neg y)
unfolding sub
sub_opens f x y = refl

pub sub_is : (f : Format) (x y : Float) → NumberIn f x → FiniteIn f y → sub f x y ≡ rounded f (key f x) (key f y) (unit f)
sub_is f x y p q = sub_opens f x y ∙ add_is f x (neg y) p (neg_fin f y q) ∙ rounded-shift f (key f x + key f (neg y)) (mid f + mid f) (key f x) (key f y) (unit f) (z (key f x) (key f (neg y)) (key f y) (mid f + mid f) (neg_key f y q))
  where
    z : (x n y m : ℕ) → n + y ≡ m → x + n + y ≡ x + m
    z x n y m h = omega arith

pub sub-key : (f : Format) (x y : Float) → FiniteIn f x → FiniteIn f y → key f (sub f x y) ≡ key f (rounded f (key f x) (key f y) (unit f))
sub-key f x y p q = ap (key f) (sub_opens f x y) ∙ add-key f x (neg y) p (neg_fin f y q) ∙ ap (key f) (rounded-shift f (key f x + key f (neg y)) (mid f + mid f) (key f x) (key f y) (unit f) (omega (arith, neg_key f y q)))

-- ---- the quotient by a number above zero
-- A / B is X / Y where A and B are X and Y times D / u
ratio : (A B X Y D u : ℕ) → 0 < D → A * u ≡ X * D → B * u ≡ Y * D → A * Y ≡ X * B
ratio A B X Y D u P p q =
    eq_of_mul-eq-mul_right D P (A * Y) (X * B)
    (mul_assoc A Y D ∙ ap (λ (z : ℕ). A * z) (sym q) ∙ mul_left_comm A B u ∙ ap (λ (z : ℕ). B * z) p ∙ mul_left_comm B X D ∙ sym (mul_assoc X B D))

-- a y above zero
pos_den : (f : Format) (n : ℕ) (d : ℤ) → mid f < key f (fin false n d) → (0 < n) × (0 < mag f (fin false n d))
unfolding key
pos_den f zero d h = absurd (omega (arith, Rattle.numbers.proofs.Keys.zero-mag f false zero d refl))
pos_den f (suc n) d h = (native.Mathlib.Nat.zero-lt-suc n, omega arith)

neg_den : (f : Format) (n : ℕ) (d : ℤ) → mid f < key f (fin true n d) → ⊥
unfolding key
neg_den f n d h = omega arith

div_opens : (f : Format) (s : Bool) (m : ℕ) (e : ℤ) (n : ℕ) (d : ℤ) → 0 < n → div f (fin s m e) (fin false n d) ≡ round f s (m * up e * down d) (n * up d * down e)
unfolding div
div_opens f s m e n d h = go s (eqb n 0) (eqb→eq n 0)
  where
    go : (s : Bool) (b : Bool) → (T b → n ≡ 0) → cond b (cond (eqb m 0) nan (inf (unlike s false))) (round f (unlike s false) (m * up e * down d) (n * up d * down e)) ≡ round f s (m * up e * down d) (n * up d * down e)
    go s true k = absurd (omega (arith, h, k tt))
    go true false k = refl
    go false false k = refl

-- a finite x over y: the size is rounded, with the sign of x
div-size : (f : Format) (s : Bool) (m : ℕ) (e : ℤ) (n : ℕ) (d : ℤ) → T (fits f (fin s m e)) → T (fits f (fin false n d)) → mid f < key f (fin false n d) → div f (fin s m e) (fin false n d) ≡ round f s (mag f (fin s m e)) (mag f (fin false n d))
div-size f s m e n d p q h =
    let P = pos_den f n d h in
    div_opens f s m e n d P.0
    ∙ round_same f s (m * up e * down d) (n * up d * down e) (mag f (fin s m e)) (mag f (fin false n d)) (mul-pos (mul-pos P.0 (up_pos d)) (down_pos e)) P.1
    (ratio (m * up e * down d) (n * up d * down e) (mag f (fin s m e)) (mag f (fin false n d)) (down e * down d) (unit f) (both f s m e false n d p q) (cross_l f s m e false n d p q) (cross_r f s m e false n d p q))

pub div_is : (f : Format) (x y : Float) → NumberIn f x → FiniteIn f y → mid f < key f y → div f x y ≡ rounded f (key f x) (mid f) (key f y - mid f)
unfolding key
div_is f nan y p q h = absurd p.is_finite
div_is f (inf s) y p q h = absurd p.is_finite
div_is f (fin s m e) nan p q h = absurd q.is_finite
div_is f (fin s m e) (inf t) p q h = absurd q.is_finite
div_is f (fin s m e) (fin true n d) p q h = absurd (neg_den f n d h)
div_is f (fin false m e) (fin false n d) p q h =
    let c : mag f (fin false n d) ≡ mid f + mag f (fin false n d) - mid f = omega arith in
    div-size f false m e n d p.fit q.fit h ∙ ap (λ (k : ℕ). round f false (mag f (fin false m e)) k) c ∙ sym (rounded_at_pos f (mid f + mag f (fin false m e)) (mid f) (mid f + mag f (fin false n d) - mid f) (mag f (fin false m e)) refl)
div_is f (fin true m e) (fin false n d) p q h =
    let c : mag f (fin false n d) ≡ mid f + mag f (fin false n d) - mid f = omega arith in
    div-size f true m e n d p.fit q.fit h ∙ ap (λ (k : ℕ). round f true (mag f (fin true m e)) k) c
    ∙ sym (rounded_at_neg f (mid f - mag f (fin true m e)) (mid f) (mid f + mag f (fin false n d) - mid f) (mag f (fin true m e)) (omega (arith, mag-lt f true m e p.fit)) (mag-pos f true m e p.fit (ltb→lt 0 m p.plus)))

-- a value of the format that is finite is a number, or is -0
pub num_or_zero : (f : Format) (x : Float) → FiniteIn f x → NumberIn f x ⊎ ((e : ℤ) × (x ≡ fin true 0 e))
num_or_zero f nan p = absurd p.is_finite
num_or_zero f (inf s) p = absurd p.is_finite
num_or_zero f (fin false m e) p = inl (record { fit = p.fit; is_finite = tt; plus = tt })
num_or_zero f (fin true zero e) p = inr (e, refl)
num_or_zero f (fin true (suc m) e) p = inl (record { fit = p.fit; is_finite = tt; plus = lt→ltb 0 (suc m) (native.Mathlib.Nat.zero-lt-suc m) })

pub minus_zero-key : (f : Format) (e : ℤ) → key f (fin true 0 e) ≡ mid f
unfolding key
minus_zero-key f e = omega (arith, Rattle.numbers.proofs.Keys.zero-mag f true 0 e refl)

div-zero-key : (f : Format) (e : ℤ) (y : Float) → FiniteIn f (fin true 0 e) → FiniteIn f y → mid f < key f y → key f (div f (fin true 0 e) y) ≡ key f (rounded f (key f (fin true 0 e)) (mid f) (key f y - mid f))
div-zero-key f e nan p q h = absurd q.is_finite
div-zero-key f e (inf t) p q h = absurd q.is_finite
div-zero-key f e (fin true n d) p q h = absurd (neg_den f n d h)
div-zero-key f e (fin false n d) p q h =
    let c = key f (fin false n d) - mid f in
    let x : mag f (fin true 0 e) ≡ 0 = Rattle.numbers.proofs.Keys.zero-mag f true 0 e refl in
    let k : key f (fin true 0 e) ≡ mid f = minus_zero-key f e in
    let z : key f (fin true 0 e) - mid f ≡ 0 = omega arith in
    let l : key f (div f (fin true 0 e) (fin false n d)) ≡ mid f - near f (mag f (fin true 0 e)) (mag f (fin false n d)) = ap (key f) (div-size f true 0 e n d p.fit q.fit h) ∙ round-key f true (mag f (fin true 0 e)) (mag f (fin false n d)) in
    let a : near f (mag f (fin true 0 e)) (mag f (fin false n d)) ≡ 0 = ap (λ (k : ℕ). near f k (mag f (fin false n d))) x ∙ near-zero f (mag f (fin false n d)) (pos_den f n d h).1 in
    let b : near f (key f (fin true 0 e) - mid f) c ≡ 0 = ap (λ (k : ℕ). near f k c) z ∙ near-zero f c (omega arith) in
    let r : key f (rounded f (key f (fin true 0 e)) (mid f) c) ≡ mid f + near f (key f (fin true 0 e) - mid f) c = key-pos f (key f (fin true 0 e)) (mid f) c (omega arith) in
    omega (arith, l, a, b, r)

pub div-key : (f : Format) (x y : Float) → FiniteIn f x → FiniteIn f y → mid f < key f y → key f (div f x y) ≡ key f (rounded f (key f x) (mid f) (key f y - mid f))
div-key f x y p q h = elim (num_or_zero f x p) [
  | inl n ↦ ap (key f) (div_is f x y n q h)
  | inr z ↦ subst (λ (k : Float). key f (div f k y) ≡ key f (rounded f (key f k) (mid f) (key f y - mid f))) (sym z.1) (div-zero-key f z.0 y (subst (λ (k : Float). FiniteIn f k) z.1 p) q h)
]

pub div-real : (f : Format) (x y : Float) → FiniteIn f x → FiniteIn f y → mid f < key f y → T (real (div f x y))
div-real f nan y p q h = absurd p.is_finite
div-real f (inf s) y p q h = absurd p.is_finite
div-real f (fin s m e) nan p q h = absurd q.is_finite
div-real f (fin s m e) (inf t) p q h = absurd q.is_finite
div-real f (fin s m e) (fin true n d) p q h = absurd (neg_den f n d h)
div-real f (fin s m e) (fin false n d) p q h = subst (λ (k : Float). T (real k)) (sym (div-size f s m e n d p.fit q.fit h)) (round-real f s (mag f (fin s m e)) (mag f (fin false n d)))

-- a sum of finite values is no NaN
cond-real : (b : Bool) (x y : Float) → T (real x) → T (real y) → T (real (cond b x y))
cond-real true x y h k = h
cond-real false x y h k = k

pub add-real : (f : Format) (x y : Float) → FiniteIn f x → FiniteIn f y → T (real (add f x y))
unfolding add sum
add-real f nan y p q = absurd p.is_finite
add-real f (inf s) y p q = absurd p.is_finite
add-real f (fin s m e) nan p q = absurd q.is_finite
add-real f (fin s m e) (inf t) p q = absurd q.is_finite
add-real f (fin s m e) (fin t n d) p q =
    let a = m * up e * down d in
    let b = n * up d * down e in
    let c = down e * down d in
    cond-real (beq s t) (round f s (a + b) c) (cond (ltb a b) (round f t (b - a) c) (round f (s && ltb b a) (a - b) c)) (round-real f s (a + b) c) (cond-real (ltb a b) (round f t (b - a) c) (round f (s && ltb b a) (a - b) c) (round-real f t (b - a) c) (round-real f (s && ltb b a) (a - b) c))

pub sub-real : (f : Format) (x y : Float) → FiniteIn f x → FiniteIn f y → T (real (sub f x y))
sub-real f x y p q = subst (λ (z : Float). T (real z)) (sym (sub_opens f x y)) (add-real f x (neg y) p (neg_fin f y q))

-- ---- the product. It can be -0, so this speaks of its key
pub mul-key : (f : Format) (x y : Float) → FiniteIn f x → FiniteIn f y → key f (mul f x y) ≡ shift (mid f) (unlike (negative x) (negative y)) (near f (mag f x * mag f y) (unit f * unit f))
unfolding mul
mul-key f nan y p q = absurd p.is_finite
mul-key f (inf s) y p q = absurd p.is_finite
mul-key f (fin s m e) nan p q = absurd q.is_finite
mul-key f (fin s m e) (inf t) p q = absurd q.is_finite
mul-key f (fin s m e) (fin t n d) p q =
    round-key f (unlike s t) (m * up e * (n * up d)) (down e * down d)
    ∙ ap (λ (k : ℕ). shift (mid f) (unlike s t) k)
    (near_same f (m * up e * (n * up d)) (down e * down d) (mag f (fin s m e) * mag f (fin t n d)) (unit f * unit f) (mul-pos (down_pos e) (down_pos d)) (mul-pos (unit-pos f) (unit-pos f))
    (mul-mul-mul_comm (m * up e) (n * up d) (unit f) (unit f) ∙ ap (λ (k : ℕ). k * (n * up d * unit f)) (sym (mag-exact f s m e p.fit)) ∙ ap (λ (k : ℕ). mag f (fin s m e) * down e * k) (sym (mag-exact f t n d q.fit)) ∙ mul-mul-mul_comm (mag f (fin s m e)) (down e) (mag f (fin t n d)) (down d)))

pub mul-real : (f : Format) (x y : Float) → FiniteIn f x → FiniteIn f y → T (real (mul f x y))
unfolding mul
mul-real f nan y p q = absurd p.is_finite
mul-real f (inf s) y p q = absurd p.is_finite
mul-real f (fin s m e) nan p q = absurd q.is_finite
mul-real f (fin s m e) (inf t) p q = absurd q.is_finite
mul-real f (fin s m e) (fin t n d) p q = round-real f (unlike s t) (m * up e * (n * up d)) (down e * down d)

-- a share of y: t from 0 to 1
mag-le-near : (f : Format) (y : Float) (a : ℕ) → FiniteIn f y → a ≤ unit f → near f (a * mag f y) (unit f * unit f) ≤ mag f y
mag-le-near f nan a q h = absurd q.is_finite
mag-le-near f (inf t) a q h = absurd q.is_finite
mag-le-near f (fin t n d) a q h =
    subst (λ (k : ℕ). near f (a * mag f (fin t n d)) (unit f * unit f) ≤ k) (near-mag f t n d q.fit)
    (near_mono f (a * mag f (fin t n d)) (unit f * unit f) (mag f (fin t n d)) (unit f) (mul-pos (unit-pos f) (unit-pos f)) (unit-pos f)
    (le_trans (le_of_eq (mul_right_comm a (mag f (fin t n d)) (unit f) ∙ mul_comm (a * unit f) (mag f (fin t n d)))) (mul-le-mul_left (mag f (fin t n d)) (mul-le-mul_right (unit f) h))))

pub share : (f : Format) (t y : Float) → NumberIn f t → FiniteIn f y → mid f ≤ key f t → key f t ≤ mid f + unit f
    → (key f y ≤ mid f → (key f y ≤ key f (mul f t y)) × (key f (mul f t y) ≤ mid f)) × (mid f ≤ key f y → (mid f ≤ key f (mul f t y)) × (key f (mul f t y) ≤ key f y))
unfolding key
share f nan y p q h k = absurd p.is_finite
share f (inf s) y p q h k = absurd p.is_finite
share f (fin true m e) y p q h k = absurd (omega (arith, mag-pos f true m e p.fit (ltb→lt 0 m p.plus), mid-pos f))
share f (fin false m e) y p q h k = go (negative y) (mul-key f (fin false m e) y (fin_of p) q) (mag-le-near f y (mag f (fin false m e)) q (z (mid f) (mag f (fin false m e)) (unit f) k)) (near_le f (mag f (fin false m e) * mag f y) (unit f * unit f))
  where
    z : (m a u : ℕ) → m + a ≤ m + u → a ≤ u
    z m a u h = omega arith

    z1 : (m a k r : ℕ) → r ≡ m - k → k ≤ a → k ≤ m → (m - a ≤ m → (m - a ≤ r) × (r ≤ m)) × (m ≤ m - a → (m ≤ r) × (r ≤ m - a))
    z1 m a k r e h l = omega arith

    z2 : (m a k r : ℕ) → r ≡ m + k → k ≤ a → k ≤ m → (m + a ≤ m → (m + a ≤ r) × (r ≤ m)) × (m ≤ m + a → (m ≤ r) × (r ≤ m + a))
    z2 m a k r e h l = omega arith

    go : (s : Bool) → key f (mul f (fin false m e) y) ≡ shift (mid f) (unlike false s) (near f (mag f (fin false m e) * mag f y) (unit f * unit f)) → near f (mag f (fin false m e) * mag f y) (unit f * unit f) ≤ mag f y → near f (mag f (fin false m e) * mag f y) (unit f * unit f) ≤ mid f
        → (shift (mid f) s (mag f y) ≤ mid f → (shift (mid f) s (mag f y) ≤ key f (mul f (fin false m e) y)) × (key f (mul f (fin false m e) y) ≤ mid f)) × (mid f ≤ shift (mid f) s (mag f y) → (mid f ≤ key f (mul f (fin false m e) y)) × (key f (mul f (fin false m e) y) ≤ shift (mid f) s (mag f y)))
    go true a b c = z1 (mid f) (mag f y) (near f (mag f (fin false m e) * mag f y) (unit f * unit f)) (key f (mul f (fin false m e) y)) a b c
    go false a b c = z2 (mid f) (mag f y) (near f (mag f (fin false m e) * mag f y) (unit f * unit f)) (key f (mul f (fin false m e) y)) a b c
