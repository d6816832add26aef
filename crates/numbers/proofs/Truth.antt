-- A Boolean as an equation and as a proposition, both ways; two numbers by their order or equality. Assumes nothing.
use Rattle.std.proofs.Common.{◌≡◌, ℕ, ◌<◌, ◌≤◌, Bool, true, false, not, ◌&&◌, T, eqb, ltb, ◌⊎◌, sym, refl, ◌∙◌, subst, inl, inr, true≢false, arith, ltb-false, ltb-true, eqb-true}
use borrow.Author.Tests.{eqb-false}

pub holds : {b : Bool} → b ≡ true → T b
holds e = subst T (sym e) tt

pub fails : {b : Bool} → b ≡ false → T (not b)
fails e = subst (λ (b : Bool). T (not b)) (sym e) tt

pub is_true : (b : Bool) → T b → b ≡ true
is_true true t = refl
is_true false t = absurd t

pub is_false : (b : Bool) → T (not b) → b ≡ false
is_false true t = absurd t
is_false false t = refl

pub either : (b : Bool) → (b ≡ true) ⊎ (b ≡ false)
either true = inl refl
either false = inr refl

-- no test says both
pub clash : {b : Bool} → b ≡ true → b ≡ false → ⊥
clash p q = true≢false (sym p ∙ q)

pub both_first : (a b : Bool) → a && b ≡ true → a ≡ true
both_first true b e = refl
both_first false b e = e

pub both_second : (a b : Bool) → a && b ≡ true → b ≡ true
both_second true b e = e
both_second false b e = absurd (true≢false (sym e))

-- ---- two numbers

pub below_or_not : (m n : ℕ) → (m < n) ⊎ (n ≤ m)
below_or_not m n = elim (either (ltb m n)) [ inl e ↦ inl (ltb-true m n e) | inr e ↦ inr (ltb-false m n e) ]

pub same_or_not : (m n : ℕ) → (m ≡ n) ⊎ (m ≡ n → ⊥)
same_or_not m n = elim (either (eqb m n)) [ inl e ↦ inl (eqb-true m n e) | inr e ↦ inr (eqb-false m n e) ]

pub not-below-zero : (n : ℕ) → n < 0 → ⊥
not-below-zero n h = omega arith

pub zero-not-one : ◌≡◌ {A = ℕ} 0 1 → ⊥
zero-not-one e = omega arith
