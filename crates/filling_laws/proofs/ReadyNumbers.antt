-- What refusal 31's tests say of bounds and of the resolution. Assumes nothing.
use Prim.Native.Nat.{ℕ, ◌+◌, ◌-◌, ◌*◌, ◌≤◌, ◌<◌}
use native.Mathlib.Omega.{arith}
use mathlib.Core.Path.{◌≡◌, ap, subst, ◌∙◌}
use mathlib.Core.Logic.{◌⊎◌, inl, inr}
use mathlib.Core.Bool.{true, false}
use lib.Dec.{T, lit≤, lit<}
use lib.Ieee.{Float, binary64, fits, le, neg}
use lib.Ieee.Scale.{finite}
use Rattle.numbers.specs.Numbers.{from_int}
use Rattle.numbers.proofs.Truth.{holds, both_first, both_second}
use Rattle.numbers.proofs.Keys.{mid, unit, key, mag, le→key}
use Rattle.numbers.proofs.Operations.{num_or_zero, minus_zero-key}
use Rattle.numbers.proofs.Bounds.{value_key, within_finite}
use Rattle.numbers.proofs.RoundDown.{le-real}
use Rattle.numbers.proofs.Literals.{milli, milli_num, milli_thousandth}
use Rattle.numbers.proofs.Doubles as Doubles
use Rattle.numbers.proofs.Doubles.{k, o, u, Finite, Number}
use Rattle.bits.specs.Fields.{resolution_range}
use Rattle.bits.proofs.Accepted.{UpFrom, resolution_in, resolution-least, resolution-most}
use Rattle.strips.specs.declared.Rect.{Rect}
use Rattle.index.specs.inner.Listing.{Bounded}
use Rattle.filling.specs.Consistent.{bounded, bounds_fit, resolution_fits}
use Rattle.filling.proofs.WithinBoundsNumbers.{tested_bounded}
use Rattle.search.proofs.columns.Sizes.{BoundedRect, Resolving}

-- ---- "not finite or beyond ±1,000,000"

pub bounded_is : {x : Float} → T (fits binary64 x) → bounded x ≡ true → Bounded 1000000 x
unfolding bounded
bounded_is {x} f e = let a = both_second (finite x) _ e in tested_bounded x f (both_first (le (neg (from_int 1_000_000)) x) _ a) (both_second (le (neg (from_int 1_000_000)) x) _ a)

-- the four doubles of a rectangle
pub record RectFits (b : Rect) : Type 0 where
  pub left : T (fits binary64 b.left)
  pub bottom : T (fits binary64 b.bottom)
  pub right : T (fits binary64 b.right)
  pub top : T (fits binary64 b.top)

pub bounds_are : {b : Rect} → RectFits b → bounds_fit b ≡ true → BoundedRect b
unfolding bounds_fit
bounds_are {b} f e =
    let a = both_second (bounded b.left) _ e in
    let c = both_second (bounded b.bottom) _ a in
    record {
      left = bounded_is f.left (both_first (bounded b.left) _ e);
      bottom = bounded_is f.bottom (both_first (bounded b.bottom) _ a);
      right = bounded_is f.right (both_first (bounded b.right) _ c);
      top = bounded_is f.top (both_second (bounded b.right) _ c);
    }

-- ---- "a .. resolution .. beyond its range"

milli-above : o < k milli
unfolding key mag mid unit
milli-above = lit< tt

pub resolution_is : {r : Float} → T (fits binary64 r) → resolution_fits r ≡ true → UpFrom milli 10000 r
unfolding resolution_fits
resolution_is {r} f e = resolution_in (record { num = num (num_or_zero binary64 r F); low = low; high = high })
  where
    low : T (le resolution_range.least r)
    low = holds (both_first (le resolution_range.least r) _ e)

    high : T (le r resolution_range.most)
    high = holds (both_second (le resolution_range.least r) _ e)

    from : k milli ≤ k r
    from = le→key binary64 milli r milli_num.fit f (subst (λ (x : Float). T (le x r)) resolution-least low)

    upto : k r ≤ o + 10000 * u
    upto = subst (λ (n : ℕ). k r ≤ n) (value_key binary64 (from_int 10_000) false 10000 resolution-most.0 resolution-most.1) (le→key binary64 r (from_int 10_000) f resolution-most.0 high)

    F : Finite r
    F = record { fit = f; is_finite = within_finite binary64 r 10000 f (le-real resolution_range.least r low) (lit≤ tt) (record { at_least = z (k milli) (k r) (10000 * u) milli-above from; at_most = upto }) }
      where
        z : (m r n : ℕ) → o < m → m ≤ r → o ≤ r + n
        z m r n a b = omega arith

    num : Number r ⊎ ((e : lib.IntN.ℤ) × (r ≡ lib.Ieee.fin true 0 e)) → Number r
    num (inl n) = n
    num (inr z) = absurd (no (k milli) (k r) milli-above from (ap k z.1 ∙ minus_zero-key binary64 z.0))
      where
        no : (m r : ℕ) → o < m → m ≤ r → r ≡ o → ⊥
        no m r a b e = omega arith

pub resolving : {r : Float} → UpFrom milli 10000 r → Resolving r
resolving {r} R = record { fine = Doubles.finite R.num; some = y (k milli) (k r) milli-above R.low; least = z u (k milli) (k r) milli_thousandth R.low }
  where
    y : (m r : ℕ) → o < m → m ≤ r → o < r
    y m r a b = omega arith

    z : (u m r : ℕ) → u ≤ 1000 * (m - o) → m ≤ r → u ≤ 1000 * (r - o)
    z u m r a b = omega arith
