-- The laws at binary64, with the values implicit: what the crates above cite. Assumes nothing.
use Rattle.std.proofs.Common.{◌≡◌, ℕ, ◌+◌, ◌^◌, ◌<◌, ◌≤◌, not, T, ◌⊎◌, ap, ◌∙◌, inl, inr, arith}
use Rattle.numbers.proofs.Truth.{holds, fails, either}
use lib.Ieee.{Float, binary64, fits, lt, le, add, sub, mul, div}
use lib.Ieee.Fits.{cond-fits}
use Rattle.numbers.specs.Numbers.{smaller, larger}
use Rattle.numbers.proofs.Keys as Keys
use Rattle.numbers.proofs.Keys.{FiniteIn, NumberIn, finite_real}
use Rattle.numbers.proofs.Operations.{num_or_zero, minus_zero-key}
use Rattle.numbers.proofs.Bounds as Bounds

-- the key of a double, that of zero, and that of one less that of zero
abbrev pub k : Float → ℕ
k x = Keys.key binary64 x

abbrev pub o : ℕ
o = Keys.mid binary64

abbrev pub u : ℕ
u = Keys.unit binary64

abbrev pub Finite : Float → Type 0
Finite x = FiniteIn binary64 x

abbrev pub Number : Float → Type 0
Number x = NumberIn binary64 x

abbrev pub Upto : ℕ → Float → Type 0
Upto n x = Bounds.Within binary64 n x

-- a number, never minus zero, of at most n either way
pub record Small (n : ℕ) (x : Float) : Type 0 where
  pub num : Number x
  pub bound : Upto n x

pub finite : {x : Float} → Number x → Finite x
finite n = Keys.fin_of n

-- ---- tests
pub lt_yes : {x y : Float} → Finite x → Finite y → T (lt x y) → k x < k y
lt_yes {x} {y} X Y h = Keys.lt→key binary64 x y X.fit Y.fit h

pub lt_no : {x y : Float} → Finite x → Finite y → T (not (lt x y)) → k y ≤ k x
lt_no {x} {y} X Y h = Keys.nlt→key binary64 x y X.fit Y.fit (finite_real x X.is_finite) (finite_real y Y.is_finite) h

pub le_yes : {x y : Float} → Finite x → Finite y → T (le x y) → k x ≤ k y
le_yes {x} {y} X Y h = Keys.le→key binary64 x y X.fit Y.fit h

pub le_no : {x y : Float} → Finite x → Finite y → T (not (le x y)) → k y < k x
le_no {x} {y} X Y h = Keys.nle→key binary64 x y X.fit Y.fit (finite_real x X.is_finite) (finite_real y Y.is_finite) h

pub same : {x y : Float} → Number x → Number y → k x ≡ k y → x ≡ y
same {x} {y} X Y h = Keys.key_inj binary64 x y X Y h

-- above zero there is no minus zero
pub above_zero : {x : Float} → Finite x → o < k x → Number x
above_zero {x} X h = elim (num_or_zero binary64 x X) [
  | inl n ↦ n
  | inr z ↦ absurd (no (k x) (ap k z.1 ∙ minus_zero-key binary64 z.0) h)
]
  where
    no : (a : ℕ) → a ≡ o → o < a → ⊥
    no a e l = omega arith

-- ---- the smaller and the larger of two are doubles
pub smaller-fits : (x y : Float) → T (fits binary64 x) → T (fits binary64 y) → T (fits binary64 (smaller x y))
unfolding smaller
smaller-fits x y p q = cond-fits binary64 (lt y x) y x q p

pub larger-fits : (x y : Float) → T (fits binary64 x) → T (fits binary64 y) → T (fits binary64 (larger x y))
unfolding larger
larger-fits x y p q = cond-fits binary64 (lt x y) y x q p

-- ---- the total order of numbers
pub lt_irrefl : {x : Float} → Number x → T (lt x x) → ⊥
lt_irrefl X h = absurd (omega (arith, lt_yes (finite X) (finite X) h))

pub lt_trans : {x y z : Float} → Number x → Number y → Number z → T (lt x y) → T (lt y z) → T (lt x z)
lt_trans {x} {y} {z} X Y Z h l = Keys.key→lt binary64 x z X.fit Z.fit (finite_real x X.is_finite) (finite_real z Z.is_finite) (omega (arith, lt_yes (finite X) (finite Y) h, lt_yes (finite Y) (finite Z) l))

pub lt_total : {x y : Float} → Number x → Number y → T (lt x y) ⊎ ((x ≡ y) ⊎ T (lt y x))
lt_total {x} {y} X Y = elim (either (lt x y)) [
  | inl e ↦ inl (holds e)
  | inr e ↦ elim (either (lt y x)) [
    | inl f ↦ inr (inr (holds f))
    | inr f ↦ inr (inl (same X Y (omega (arith, lt_no (finite X) (finite Y) (fails e), lt_no (finite Y) (finite X) (fails f)))))
  ]
]

-- `le` is `lt` or the same number
pub le_splits : {x y : Float} → Number x → Number y → T (le x y) → T (lt x y) ⊎ (x ≡ y)
le_splits {x} {y} X Y h = elim (either (lt x y)) [
  | inl e ↦ inl (holds e)
  | inr e ↦ inr (same X Y (omega (arith, lt_no (finite X) (finite Y) (fails e), le_yes (finite X) (finite Y) h)))
]

-- ---- sums
pub add_upto : {a b : ℕ} {x y : Float} → Finite x → Finite y → Upto a x → Upto b y → a + b ≤ 2 ^ 53 → Finite (add binary64 x y) × Upto (a + b) (add binary64 x y)
add_upto {a} {b} {x} {y} X Y v w h = Bounds.add-within binary64 a b x y X Y v w h

pub sub_upto : {a b : ℕ} {x y : Float} → Finite x → Finite y → Upto a x → Upto b y → a + b ≤ 2 ^ 53 → Finite (sub binary64 x y) × Upto (a + b) (sub binary64 x y)
sub_upto {a} {b} {x} {y} X Y v w h = Bounds.sub_within binary64 a b x y X Y v w h

pub add-number : {x y : Float} → Number x → Finite y → Finite (add binary64 x y) → Number (add binary64 x y)
add-number {x} {y} X Y h = Bounds.add_num binary64 x y X Y h

pub sub_number : {x y : Float} → Number x → Finite y → Finite (sub binary64 x y) → Number (sub binary64 x y)
sub_number {x} {y} X Y h = Bounds.sub_num binary64 x y X Y h

pub add_mono : {x y x' y' : Float} → Finite x → Finite y → Finite x' → Finite y' → k x + k y ≤ k x' + k y' → k (add binary64 x y) ≤ k (add binary64 x' y')
add_mono {x} {y} {x'} {y'} X Y X' Y' h = Bounds.add_mono binary64 x y x' y' X Y X' Y' h

pub sub_mono : {x y x' y' : Float} → Finite x → Finite y → Finite x' → Finite y' → k x + k y' ≤ k x' + k y → k (sub binary64 x y) ≤ k (sub binary64 x' y')
sub_mono {x} {y} {x'} {y'} X Y X' Y' h = Bounds.sub_mono binary64 x y x' y' X Y X' Y' h

pub sub-pos : {x y : Float} → Finite x → Finite y → k y < k x → o < k (sub binary64 x y)
sub-pos {x} {y} X Y h = Bounds.sub-pos binary64 x y X Y h

pub sub_nonneg : {x y : Float} → Finite x → Finite y → k y ≤ k x → o ≤ k (sub binary64 x y)
sub_nonneg {x} {y} X Y h = Bounds.sub_nonneg binary64 x y X Y h

-- ---- quotients and shares
pub div_mono : {x x' y : Float} → Finite x → Finite x' → Finite y → o < k y → k x ≤ k x' → k (div binary64 x y) ≤ k (div binary64 x' y)
div_mono {x} {x'} {y} X X' Y p h = Bounds.div_mono binary64 x x' y X X' Y p h

pub record Share (t : Float) : Type 0 where
  pub num : Number t
  pub from : o ≤ k t
  pub upto : k t ≤ o + u

pub div_share : {x y : Float} → Number x → Finite y → o < k y → o ≤ k x → k x ≤ k y → Share (div binary64 x y)
div_share {x} {y} X Y p h l = let r = Bounds.div_share binary64 x y X Y p h l in record { num = r.0; from = r.1; upto = r.2 }

pub share_upto : {n : ℕ} {t y : Float} → Share t → Finite y → Upto n y → n ≤ 2 ^ 53 → Finite (mul binary64 t y) × Upto n (mul binary64 t y)
share_upto {n} {t} {y} S Y w h = Bounds.share_within binary64 n t y S.num Y S.from S.upto h w
