-- The tests of a number and of the resolution by cases, and what a success says of their sizes. Assumes nothing.
use Prim.Native.Nat.{ℕ, ◌+◌, ◌-◌, ◌*◌, ◌≤◌, ◌<◌}
use native.Mathlib.Omega.{arith}
use mathlib.Core.Path.{◌≡◌, refl, sym, ap, subst, ◌∙◌}
use mathlib.Core.Logic.{◌⊎◌, inl, inr}
use mathlib.Core.Bool.{Bool, true, false, not, ◌&&◌, true≢false}
use mathlib.Core.List.{List}
use lib.ListN.{length}
use lib.Dec.{T, lit≤}
use lib.Ieee.{Float, binary64, fits, le, neg}
use lib.Ieee.Scale.{finite}
use borrow.Author.Tests.{not-true, not-false}
use Rattle.numbers.specs.Numbers.{from_int}
use Rattle.numbers.proofs.Truth.{holds, is_true, either}
use Rattle.numbers.proofs.Keys.{unit-pos, le→key}
use Rattle.numbers.proofs.Bounds.{value_key, within_finite}
use Rattle.numbers.proofs.RoundDown.{le-real}
use Rattle.numbers.proofs.Literals.{milli, milli_num, milli_thousandth}
use Rattle.numbers.proofs.Doubles.{k, o, u, Upto}
use Rattle.trapezoid.specs.Strip.{capacity}
use Rattle.index.specs.inner.Listing.{Bounded}
use Rattle.search.proofs.columns.Sizes.{Resolving}
use Rattle.bits.specs.Fields.{resolution_range}
use Rattle.bits.proofs.Accepted.{resolution-least, resolution-most}
use Rattle.filling.specs.Consistent.{bounded, resolution_fits}
use Rattle.filling.proofs.WithinBoundsNumbers.{tested_bounded}

pub never : {A : Type 0} → false ≡ true → A
never e = absurd (true≢false (sym e))

-- a test that the code negates
pub passed : {r b : Bool} → r ≡ b → not r ≡ false → b ≡ true
passed e n = sym e ∙ not-false _ n

pub failed : {r b : Bool} → r ≡ b → not r ≡ true → b ≡ false
failed e n = sym e ∙ not-true _ n

-- ---- a number

pub bounded-low : (x : Float) → le (neg (from_int 1_000_000)) x ≡ false → bounded x ≡ false
unfolding bounded
bounded-low x l = go (finite x)
  where
    go : (b : Bool) → b && (le (neg (from_int 1_000_000)) x && le x (from_int 1_000_000)) ≡ false
    go true = rw l
    go false = refl

bounded_all : (x : Float) → T (finite x) → le (neg (from_int 1_000_000)) x ≡ true → le x (from_int 1_000_000) ≡ true → bounded x ≡ true
unfolding bounded
bounded_all x f l h = rw (is_true (finite x) f, l, h)

bounded-high : (x : Float) → le (neg (from_int 1_000_000)) x ≡ true → le x (from_int 1_000_000) ≡ false → bounded x ≡ false
unfolding bounded
bounded-high x l h = go (finite x)
  where
    go : (b : Bool) → b && (le (neg (from_int 1_000_000)) x && le x (from_int 1_000_000)) ≡ false
    go true = rw (l, h)
    go false = refl

pub bounded-rest : (x : Float) → T (fits binary64 x) → le (neg (from_int 1_000_000)) x ≡ true → (le x (from_int 1_000_000) ≡ bounded x) × (le x (from_int 1_000_000) ≡ true → Bounded 1000000 x)
bounded-rest x f l = (go (either (le x (from_int 1_000_000))), λ h. tested_bounded x f l h)
  where
    go : (le x (from_int 1_000_000) ≡ true) ⊎ (le x (from_int 1_000_000) ≡ false) → le x (from_int 1_000_000) ≡ bounded x
    go (inl h) = h ∙ sym (bounded_all x (tested_bounded x f l h).fine.is_finite l h)
    go (inr h) = h ∙ sym (bounded-high x l h)

-- ---- the resolution

resolving : (x : Float) → T (fits binary64 x) → le resolution_range.least x ≡ true → le x resolution_range.most ≡ true → Resolving x
resolving x f l h =
    let a : T (le milli x) = subst (λ (y : Float). T (le y x)) resolution-least (holds l) in
    let low = le→key binary64 milli x milli_num.fit f a in
    let high = le→key binary64 x (from_int 10_000) f resolution-most.0 (holds h) in
    let top = value_key binary64 (from_int 10_000) false 10000 resolution-most.0 resolution-most.1 in
    let s = some u o (k milli) (k x) (unit-pos binary64) milli_thousandth low in
    let w : Upto 10000 x = record { at_least = at_least o (k x) (10000 * u) s; at_most = subst (λ (y : ℕ). k x ≤ y) top high } in
    record { fine = record { fit = f; is_finite = within_finite binary64 x 10000 f (le-real milli x a) (lit≤ tt) w }; some = s; least = most u o (k milli) (k x) milli_thousandth low }
  where
    some : (u m l x : ℕ) → 0 < u → u ≤ 1000 * (l - m) → l ≤ x → m < x
    some u m l x p h g = omega arith

    at_least : (m x a : ℕ) → m < x → m ≤ x + a
    at_least m x a h = omega arith

    most : (u m l x : ℕ) → u ≤ 1000 * (l - m) → l ≤ x → u ≤ 1000 * (x - m)
    most u m l x h g = omega arith

pub resolution-low : (x : Float) → le resolution_range.least x ≡ false → resolution_fits x ≡ false
unfolding resolution_fits
resolution-low x l = ap (λ b. b && le x resolution_range.most) l

pub resolution-rest : (x : Float) → T (fits binary64 x) → le resolution_range.least x ≡ true → (le x resolution_range.most ≡ resolution_fits x) × (le x resolution_range.most ≡ true → Resolving x)
unfolding resolution_fits
resolution-rest x f l = (sym (ap (λ b. b && le x resolution_range.most) l), λ h. resolving x f l h)

-- ---- the strips of a part

pub room_for : (part : List Float) (i : ℕ) → i < capacity part → 6 * i + 6 ≤ length part
unfolding capacity
room_for part i h = omega arith
