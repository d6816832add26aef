-- Laws of a double that was judged: its own bits are judged to be it. Assumes nothing.
use Rattle.std.specs.Prelude.{Option, Some, None, Result, Ok, Err}
use mathlib.Core.Path.{◌≡◌, refl, sym, ap, subst, ◌∙◌}
use Prim.Native.Nat.{ℕ, ◌<◌}
use mathlib.Core.Bool.{Bool, true, false, ◌&&◌, cond}
use lib.Dec.{T}
use lib.Ieee.{Float, binary64, eq, le, of_bits, to_bits, fits}
use lib.Ieee.Scale.{finite}
use lib.Ieee.Bits.{of_bits-to_bits, to_bits-lt, of_bits-fits}
use Rattle.numbers.proofs.Truth.{zero-not-one}
use Rattle.numbers.specs.Numbers.{double_of, plus_zero, pos_zero}
use Rattle.bits.specs.declared.Refusal.{Refusal}
use Rattle.bits.specs.declared.Refusal.TheVariants.{OutOfRange}
use Rattle.bits.specs.Fields.{judge_double, judge_number}
use Rattle.frames.proofs.Zeros.{plus-zero_twice}

plus-fits : (x : Float) → T (fits binary64 x) → T (fits binary64 (plus_zero x))
unfolding plus_zero fits
plus-fits x h = go (eq x pos_zero)
  where
    go : (b : Bool) → T (fits binary64 (cond b pos_zero x))
    go true = tt
    go false = h

plus_finite : (x : Float) → finite x ≡ true → finite (plus_zero x) ≡ true
unfolding plus_zero
plus_finite x h = go (eq x pos_zero)
  where
    go : (b : Bool) → finite (cond b pos_zero x) ≡ true
    go true = refl
    go false = h

-- what a pattern stands for, by its own bits
pub double_again : (n : ℕ) (v : Float) → double_of n ≡ Some v → (double_of (to_bits binary64 v) ≡ Some v) × (to_bits binary64 v < 18446744073709551616)
unfolding double_of
double_again n v e = go (finite (of_bits binary64 n)) refl e
  where
    value : {a b : Float} → Some a ≡ Some b → a ≡ b
    value e = cc

    go : (b : Bool) → finite (of_bits binary64 n) ≡ b → cond b (Some (plus_zero (of_bits binary64 n))) None ≡ Some v →
        (cond (finite (of_bits binary64 (to_bits binary64 v))) (Some (plus_zero (of_bits binary64 (to_bits binary64 v)))) None ≡ Some v) ×
        (to_bits binary64 v < 18446744073709551616)
    go false f e = absurd (zero-not-one (cc))
    go true f e =
        let y : Float = plus_zero (of_bits binary64 n) in
        let s : y ≡ v = value e in
        let fit : T (fits binary64 y) = plus-fits (of_bits binary64 n) (of_bits-fits binary64 n) in
        let back : of_bits binary64 (to_bits binary64 y) ≡ y = of_bits-to_bits binary64 y fit in
        subst (λ (z : Float). (cond (finite (of_bits binary64 (to_bits binary64 z))) (Some (plus_zero (of_bits binary64 (to_bits binary64 z)))) None ≡ Some
        z) × (to_bits binary64 z < 18446744073709551616)) s (
          ap (λ (z : Float). cond (finite z) (Some (plus_zero z)) None) back
              ∙ ap (λ (b : Bool). cond b (Some (plus_zero y)) None) (plus_finite (of_bits binary64 n) f)
              ∙ ap Some (plus-zero_twice (of_bits binary64 n)),
          to_bits-lt binary64 y fit,
        )

-- a value that is known
pub ok-value : {A : Type 0} {a b : A} → ◌≡◌ {A = Result A Refusal} (Ok a) (Ok b) → a ≡ b
ok-value e = cc

pub err-value : {A : Type 0} {i j : Refusal} → ◌≡◌ {A = Result A Refusal} (Err i) (Err j) → i ≡ j
err-value e = cc

-- a judged double
pub judged_finite : (least most : Float) (t : Option Float) (v : Float) → judge_double least most t ≡ Ok v → t ≡ Some v
unfolding judge_double
judged_finite least most None v e = absurd (zero-not-one (cc))
judged_finite least most (Some x) v e = ap Some (go (le least x && le x most) e)
  where
    go : (b : Bool) → cond b (Ok x) (Err OutOfRange) ≡ Ok v → x ≡ v
    go true e = ok-value e
    go false e = absurd (zero-not-one (cc))

pub judged_again : (least most : Float) (n : ℕ) (v : Float) → judge_number least most n ≡ Ok v → (judge_number least most (to_bits binary64 v) ≡ Ok v) ×
    (to_bits binary64 v < 18446744073709551616)
unfolding judge_number
judged_again least most n v e =
    let f = judged_finite least most (double_of n) v e in
    let d = double_again n v f in
    (ap (judge_double least most) (d.0 ∙ sym f) ∙ e, d.1)
