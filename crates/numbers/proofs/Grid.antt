-- Values that are whole multiples of 2 ^ j units: their sums, differences and whole multiples are exact, and a quotient of two whole numbers rounds down as the whole numbers do.
-- Assumes nothing.
use Rattle.std.proofs.Common.{◌≡◌, ℕ, ◌+◌, ◌-◌, ◌*◌, ◌/◌, ◌^◌, ◌<◌, ◌≤◌, Bool, false, ◌⊎◌, sym, ap, ◌∙◌, subst, inl, inr, le_trans, le_of_eq, lt_of_lt_of_le, lt_of_le_of_lt, le_of_lt, mul-le-mul_right, mul_assoc, mul_comm, add-mul, mul-le-mul_left, mul-lt-mul_of_pos_right, mul-pos, one-mul, mul-one, sub-add_cancel, mul_right_comm, div-mul-le_self, arith, pow_pos, pow-add}
use native.Mathlib.Nat.{lt-div-mul-add, div-eq_of_lt-le}
use lib.Ieee.{Float, Format, prec, low, add, sub, mul, div}
use Rattle.numbers.proofs.Keys.{mid, unit, mag, negative, shift, key, FiniteIn, NumberIn, fin_of, unit-pos}
use Rattle.numbers.proofs.Rounding.{rounded, near, near-exact, near_mono, key-pos}
use Rattle.numbers.proofs.Operations.{add-key, sub-key, mul-key, div_is, near_same}
use Rattle.numbers.proofs.Bounds.{near-whole}
use Rattle.numbers.proofs.Ranges.{rounded-grid-pos, rounded-grid_neg, nonneg_minus}
use Rattle.numbers.proofs.Truth.{below_or_not}

-- x is a - b multiples of 2 ^ j units
pub record Grid (f : Format) (j a b : ℕ) (x : Float) : Type 0 where
  pub at : key f x + b * 2 ^ j ≡ mid f + a * 2 ^ j

below-mid : (f : Format) (q j : ℕ) → 2 ^ prec f * 2 ^ j ≤ mid f → q < 2 ^ prec f → q * 2 ^ j < mid f
below-mid f q j h k = lt_of_lt_of_le (mul-lt-mul_of_pos_right k (pow_pos j)) h

rounded-grid : (f : Format) (j a b p n : ℕ) → 2 ^ prec f * 2 ^ j ≤ mid f → a < 2 ^ prec f → b < 2 ^ prec f → p + b * 2 ^ j ≡ n + a * 2 ^ j → key f (rounded f p n (unit f)) + b * 2 ^ j ≡ mid f + a * 2 ^ j
rounded-grid f j a b p n h A B e = go (below_or_not a b)
  where
    split : (a b : ℕ) → b ≤ a → (a - b) * 2 ^ j + b * 2 ^ j ≡ a * 2 ^ j
    split a b k = sym (add-mul (a - b) b (2 ^ j)) ∙ ap (λ (z : ℕ). z * 2 ^ j) (sub-add_cancel k)

    small : (a b c : ℕ) → a < c → a - b < c
    small a b c h = omega arith

    go : (a < b) ⊎ (b ≤ a) → key f (rounded f p n (unit f)) + b * 2 ^ j ≡ mid f + a * 2 ^ j
    go (inr k) = omega (arith, rounded-grid-pos f p n (a - b) j (small a b (2 ^ prec f) A) (below-mid f (a - b) j h (small a b (2 ^ prec f) A)) (omega (arith, split a b k)), split a b k)
    go (inl k) = omega (arith, rounded-grid_neg f p n (b - a) j (small b a (2 ^ prec f) B) (below-mid f (b - a) j h (small b a (2 ^ prec f) B)) (mul-pos (omega arith) (pow_pos j)) (omega (arith, split b a (le_of_lt k))), below-mid f (b - a) j h (small b a (2 ^ prec f) B), split b a (le_of_lt k))

pub add-grid : (f : Format) (j a b c d : ℕ) (x y : Float) → FiniteIn f x → FiniteIn f y → Grid f j a b x → Grid f j c d y → 2 ^ prec f * 2 ^ j ≤ mid f → a + c < 2 ^ prec f → b + d < 2 ^ prec f → Grid f j (a + c) (b + d) (add f x y)
add-grid f j a b c d x y p q X Y h A B = record { at = ap (λ (k : ℕ). k + (b + d) * 2 ^ j) (add-key f x y p q) ∙ rounded-grid f j (a + c) (b + d) (key f x + key f y) (mid f + mid f) h A B (ap (λ (k : ℕ). key f x + key f y + k) (add-mul b d (2 ^ j)) ∙ omega (arith, X.at, Y.at) ∙ ap (λ (k : ℕ). mid f + mid f + k) (sym (add-mul a c (2 ^ j)))) }

pub sub-grid : (f : Format) (j a b c d : ℕ) (x y : Float) → FiniteIn f x → FiniteIn f y → Grid f j a b x → Grid f j c d y → 2 ^ prec f * 2 ^ j ≤ mid f → a + d < 2 ^ prec f → b + c < 2 ^ prec f → Grid f j (a + d) (b + c) (sub f x y)
sub-grid f j a b c d x y p q X Y h A B = record { at = ap (λ (k : ℕ). k + (b + c) * 2 ^ j) (sub-key f x y p q) ∙ rounded-grid f j (a + d) (b + c) (key f x) (key f y) h A B (ap (λ (k : ℕ). key f x + k) (add-mul b c (2 ^ j)) ∙ omega (arith, X.at, Y.at) ∙ ap (λ (k : ℕ). key f y + k) (sym (add-mul a d (2 ^ j)))) }

-- two on the grid compare as their counts do
pub grid-le : (f : Format) (j a b c d : ℕ) (x y : Float) → Grid f j a b x → Grid f j c d y → a + d ≤ c + b → key f x ≤ key f y
grid-le f j a b c d x y X Y h = omega (arith, X.at, Y.at, subst (λ (k : ℕ). k ≤ c * 2 ^ j + b * 2 ^ j) (add-mul a d (2 ^ j)) (subst (λ (k : ℕ). (a + d) * 2 ^ j ≤ k) (add-mul c b (2 ^ j)) (mul-le-mul_right (2 ^ j) h)))

-- a whole number times a number on the grid
pub mul-grid : (f : Format) (j n c : ℕ) (x y : Float) → NumberIn f x → NumberIn f y → key f x ≡ mid f + n * unit f → key f y ≡ mid f + c * 2 ^ j → 2 ^ prec f * 2 ^ j ≤ mid f → n * c < 2 ^ prec f → key f (mul f x y) ≡ mid f + n * c * 2 ^ j
mul-grid f j n c x y p q e g h k =
    mul-key f x y (fin_of p) (fin_of q)
    ∙ ap (λ (s : Bool). shift (mid f) (lib.Ieee.unlike s (negative y)) (near f (mag f x * mag f y) (unit f * unit f))) P.0 ∙ ap (λ (s : Bool). shift (mid f) (lib.Ieee.unlike false s) (near f (mag f x * mag f y) (unit f * unit f))) Q.0
    ∙ ap (λ (r : ℕ). mid f + near f (r * mag f y) (unit f * unit f)) (z (mid f) (mag f x) (n * unit f) (key f x) P.1 e) ∙ ap (λ (r : ℕ). mid f + near f (n * unit f * r) (unit f * unit f)) (z (mid f) (mag f y) (c * 2 ^ j) (key f y) Q.1 g)
    ∙ ap (λ (r : ℕ). mid f + r) (near_same f (n * unit f * (c * 2 ^ j)) (unit f * unit f) (n * c * 2 ^ j) (unit f) (mul-pos (unit-pos f) (unit-pos f)) (unit-pos f) (ring n (unit f) c (2 ^ j)) ∙ near-exact f (n * c) j k (below-mid f (n * c) j h k))
  where
    ge : (m k a : ℕ) → k ≡ m + a → m ≤ k
    ge m k a h = omega arith

    P : (negative x ≡ false) × (key f x ≡ mid f + mag f x)
    P = nonneg_minus f x p (ge (mid f) (key f x) (n * unit f) e)

    Q : (negative y ≡ false) × (key f y ≡ mid f + mag f y)
    Q = nonneg_minus f y q (ge (mid f) (key f y) (c * 2 ^ j) g)

    z : (m a b k : ℕ) → k ≡ m + a → k ≡ m + b → a ≡ b
    z m a b k h g = omega arith

    ring : (n u c g : ℕ) → n * u * (c * g) * u ≡ n * c * g * (u * u)
    ring n u c g = simp (mul_assoc, mul_comm, native.Mathlib.Nat.mul_left_comm)

-- ---- the whole part of a rounded quotient of two whole numbers is that of the quotient, where there are digits enough
pub floor_exact : (f : Format) (n r t : ℕ) → 0 < r → r ≤ 2 ^ t → t ≤ low f → (n / r + 1) * 2 ^ t ≤ 2 ^ prec f → near f n r / unit f ≡ n / r
floor_exact f n r t R h l k = div-eq_of_lt-le (unit f) lower upper
  where
    q : ℕ
    q = n / r

    le1 : n / r ≤ 2 ^ prec f
    le1 = le_trans (z (n / r) (2 ^ t) (pow_pos t)) k
      where
        z : (q p : ℕ) → 0 < p → q ≤ (q + 1) * p
        z q p h = le_trans (w q) (native.Mathlib.Nat.le-mul_of_pos_right (q + 1) h)
          where
            w : (q : ℕ) → q ≤ q + 1
            w q = omega arith

    lower : n / r * unit f ≤ near f n r
    lower = subst (λ (z : ℕ). z ≤ near f n r) (near-whole f (n / r) le1) (near_mono f (n / r) 1 n r (native.Mathlib.Nat.zero-lt-suc 0) R (le_trans (div-mul-le_self n r) (le_of_eq (sym (mul-one n)))))

    -- w / 2 ^ t is the largest value below q + 1 on its own grid
    w : ℕ
    w = (n / r + 1) * 2 ^ t - 1

    w_lt : (n / r + 1) * 2 ^ t - 1 < 2 ^ prec f
    w_lt = z ((n / r + 1) * 2 ^ t) (2 ^ prec f) k (pow_pos (prec f))
      where
        z : (a b : ℕ) → a ≤ b → 0 < b → a - 1 < b
        z a b h g = omega arith

    G : unit f ≡ 2 ^ (low f - t) * 2 ^ t
    G = unfold unit in (ap (λ (z : ℕ). 2 ^ z) (sym (sub-add_cancel l)) ∙ pow-add 2 (low f - t) t)

    at : near f ((n / r + 1) * 2 ^ t - 1) (2 ^ t) ≡ ((n / r + 1) * 2 ^ t - 1) * 2 ^ (low f - t)
    at =
        near_same f ((n / r + 1) * 2 ^ t - 1) (2 ^ t) (((n / r + 1) * 2 ^ t - 1) * 2 ^ (low f - t)) (unit f) (pow_pos t) (unit-pos f) (ap (λ (z : ℕ). ((n / r + 1) * 2 ^ t - 1) * z) G ∙ sym (mul_assoc ((n / r + 1) * 2 ^ t - 1) (2 ^ (low f - t)) (2 ^ t)))
        ∙ near-exact f ((n / r + 1) * 2 ^ t - 1) (low f - t) w_lt (lt_of_le_of_lt (mul-le-mul_right (2 ^ (low f - t)) (le_of_lt w_lt)) top)
      where
        top : 2 ^ prec f * 2 ^ (low f - t) < mid f
        top = lt_of_le_of_lt (mul-le-mul_left (2 ^ prec f) (le_trans (native.Mathlib.Nat.le-mul_of_pos_right (2 ^ (low f - t)) (pow_pos t)) (le_of_eq (sym G)))) (Rattle.numbers.proofs.Bounds.prec_mid f)

    -- n / r is at most w / 2 ^ t
    under : n * 2 ^ t ≤ ((n / r + 1) * 2 ^ t - 1) * r
    under = z n r (2 ^ t) ((n / r + 1) * 2 ^ t) (n / r * r) h (lt-div-mul-add R) (mul_right_comm (n / r + 1) (2 ^ t) r ∙ ap (λ (k : ℕ). k * 2 ^ t) (add-mul (n / r) 1 r ∙ ap (λ (k : ℕ). n / r * r + k) (one-mul r))) (mul-pos (y (n / r)) (pow_pos t))
      where
        y : (q : ℕ) → 0 < q + 1
        y q = omega arith

        -- n < m + r, and a r = (m + r) p; so n p + p ≤ a r, and r ≤ p
        z : (n r p a m : ℕ) → r ≤ p → n < m + r → a * r ≡ (m + r) * p → 0 < a → n * p ≤ (a - 1) * r
        z n r p a m h g e A =
            let b : (a - 1) * r + 1 * r ≡ a * r = sym (add-mul (a - 1) 1 r) ∙ ap (λ (k : ℕ). k * r) (sub-add_cancel A) in
            let c : (n + 1) * p ≤ (m + r) * p = mul-le-mul_right p (omega arith) in
            let d : (n + 1) * p ≡ n * p + 1 * p = add-mul n 1 p in
            omega arith

    upper : near f n r < (n / r + 1) * unit f
    upper =
        lt_of_le_of_lt (near_mono f n r ((n / r + 1) * 2 ^ t - 1) (2 ^ t) R (pow_pos t) under)
        (subst (λ (z : ℕ). z < (n / r + 1) * unit f) (sym at) (subst (λ (z : ℕ). ((n / r + 1) * 2 ^ t - 1) * 2 ^ (low f - t) < z) (mul_assoc (n / r + 1) (2 ^ t) (2 ^ (low f - t)) ∙ ap (λ (z : ℕ). (n / r + 1) * z) (mul_comm (2 ^ t) (2 ^ (low f - t)) ∙ sym G)) (mul-lt-mul_of_pos_right (y ((n / r + 1) * 2 ^ t) (mul-pos (omega arith) (pow_pos t))) (pow_pos (low f - t)))))
      where
        y : (a : ℕ) → 0 < a → a - 1 < a
        y a h = omega arith

pub div_floor_grid : (f : Format) (j n r t : ℕ) (x y : Float) → NumberIn f x → NumberIn f y → key f x ≡ mid f + n * 2 ^ j → key f y ≡ mid f + r * 2 ^ j → 0 < r → r ≤ 2 ^ t → t ≤ low f → (n / r + 1) * 2 ^ t ≤ 2 ^ prec f → (key f (div f x y) - mid f) / unit f ≡ n / r
div_floor_grid f j n r t x y p q e g R h l k =
    ap (λ (a : ℕ). (a - mid f) / unit f) (ap (key f) (div_is f x y p (fin_of q) (omega (arith, mul-pos R (pow_pos j)))) ∙ key-pos f (key f x) (mid f) (key f y - mid f) (ge (mid f) (key f x) (n * 2 ^ j) e))
    ∙ ap (λ (a : ℕ). a / unit f) (back (mid f) (near f (key f x - mid f) (key f y - mid f)) ∙ ap (λ (a : ℕ). near f a (key f y - mid f)) (off (mid f) (key f x) (n * 2 ^ j) e) ∙ ap (λ (a : ℕ). near f (n * 2 ^ j) a) (off (mid f) (key f y) (r * 2 ^ j) g)
    ∙ near_same f (n * 2 ^ j) (r * 2 ^ j) n r (mul-pos R (pow_pos j)) R (mul_right_comm n (2 ^ j) r ∙ mul_assoc n r (2 ^ j)))
    ∙ floor_exact f n r t R h l k
  where
    ge : (m k a : ℕ) → k ≡ m + a → m ≤ k
    ge m k a h = omega arith

    off : (m k a : ℕ) → k ≡ m + a → k - m ≡ a
    off m k a h = omega arith

    back : (m a : ℕ) → m + a - m ≡ a
    back m a = omega arith
