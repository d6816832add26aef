-- What a finite bit pattern gives, and what `plus_zero` keeps of it. Assumes nothing.
use Rattle.std.proofs.Common.{◌≡◌, ℕ, Bool, true, false, cond, T, sym, refl, ap, ◌∙◌, subst, inl, inr}
use Rattle.std.specs.Float.{float_is_finite}
use lib.Ieee.{Float, nan, inf, fin, binary64, of_bits, eq, fits}
use lib.Ieee.Bits.{of_bits-fits}
use lib.Ieee.Scale.{finite}
use Rattle.numbers.specs.Numbers.{pos_zero, plus_zero}
use Rattle.numbers.proofs.Keys.{FiniteIn, NumberIn, key, finite_real, eq→key, key→eq}
use Rattle.numbers.proofs.Operations.{num_or_zero, minus_zero-key}
use Rattle.numbers.proofs.Ranges.{zero_num, zero-key}

-- std's test, in the terms of the paper's definitions
pub finite_tested : (x : Float) → float_is_finite x ≡ finite x
unfolding float_is_finite
finite_tested nan = refl
finite_tested (inf s) = refl
finite_tested (fin s m e) = refl

pub nan-fits : T (fits binary64 nan)
unfolding fits
nan-fits = tt

pub bits_fin : (n : ℕ) → T (finite (of_bits binary64 n)) → FiniteIn binary64 (of_bits binary64 n)
bits_fin n t = record { fit = of_bits-fits binary64 n; is_finite = t }

-- plus_zero keeps the value, and what it gives is not minus zero
pub plus-number : (x : Float) → FiniteIn binary64 x → NumberIn binary64 (plus_zero x) × (key binary64 (plus_zero x) ≡ key binary64 x)
unfolding plus_zero
plus-number x p = go (eq x pos_zero) refl
  where
    go : (b : Bool) → eq x pos_zero ≡ b → NumberIn binary64 (cond b pos_zero x) × (key binary64 (cond b pos_zero x) ≡ key binary64 x)
    go true e = (zero_num binary64, sym (eq→key binary64 x pos_zero p.fit (zero_num binary64).fit (subst T (sym e) tt)))
    go false e = (
      elim (num_or_zero binary64 x p) [
        | inl n ↦ n
        | inr z ↦ absurd (subst T e (key→eq binary64 x pos_zero p.fit (zero_num binary64).fit (finite_real x p.is_finite) tt (ap (key binary64) z.1 ∙ minus_zero-key binary64 z.0 ∙ sym (zero-key binary64))))
      ],
      refl,
    )
