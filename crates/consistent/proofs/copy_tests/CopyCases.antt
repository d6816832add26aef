-- The tests of the standing copies by cases, in the code's order. Assumes nothing.
use Rattle.std.specs.Prelude.{Option, Some, None, cond}
use Prim.Native.Nat.{ℕ, zero, suc, ◌+◌, ◌-◌, ◌*◌, ◌≤◌, ◌<◌, ◌^◌}
use native.Mathlib.Numerals.{add-one}
use native.Mathlib.Omega.{arith}
use mathlib.Core.Path.{◌≡◌, refl, sym, ap}
use mathlib.Core.Bool.{Bool, true, false, ◌&&◌}
use mathlib.Core.List.{List}
use lib.ListN.{length, get_or}
use lib.Dec.{leb, ltb, eqb}
use lib.Ieee.{Float, nan}
use borrow.Author.Tests.{leb-true, ltb-true}
use Rattle.numbers.proofs.Truth.{both_first, both_second}
use Rattle.trapezoid.specs.Strip.{strip_at, capacity, moved_by}
use Rattle.index.specs.Buckets.{up_from}
use Rattle.filling.specs.Consistent.{every, bounded}
use Rattle.consistent.specs.copy_tests.inner.Copies.{Held, same_strip, lies_test, turn_test, apart_of, copy_test, past_copy, onward, copies_test}

-- ---- the strips of a part

module _ (part : List Float) (x y : Float) (placed : List Float) (at : ℕ) where
  abbrev pub strip_test : ℕ → Bool
  strip_test i = same_strip (strip_at placed (at + i)) (moved_by (strip_at part i) x y)

  pub lies_within : lies_test part x y placed at ≡ true → at + capacity part ≤ capacity placed
  unfolding lies_test
  lies_within e =
      leb-true (at + capacity part) (capacity placed)
      (both_first (leb (at + capacity part) (capacity placed)) (every strip_test (up_from (capacity part) 0)) e)

pub strips-few : (n : ℕ) (room : List Float) → n ≤ capacity room → length room < 2 ^ 64 → n < 2 ^ 64
unfolding capacity
strips-few n room h l = omega arith

-- ---- an orientation

module _ (rows : List ℕ) (kinds kind o : ℕ) where
  pub turn_told : turn_test rows kinds kind o ≡ true → (kind < kinds) × (o < get_or rows (4 * kind + 3) 0)
  unfolding turn_test
  turn_told e =
      let a = ltb kind kinds in
      let b = ltb o (get_or rows (4 * kind + 3) 0) in
      (ltb-true kind kinds (both_first a b e), ltb-true o (get_or rows (4 * kind + 3) 0) (both_second a b e))

-- ---- a copy

module _ (w : Held) (kind : ℕ) (x y : Float) (at : ℕ) where
  pub past-none : (n : ℕ) → n ≡ 0 → Some at ≡ past_copy w kind x y n at
  unfolding past_copy
  past-none zero e = refl
  past-none (suc n) e = absurd (omega arith)

  module _ (n o : ℕ) (e : n ≡ suc o) where
    abbrev stands : Bool
    stands = turn_test w.rows w.kinds kind o && (bounded x && bounded y)

    abbrev lies : Bool
    lies = lies_test (apart_of w kind o) x y w.placed at

    grouped : (a b c d : Bool) → a && (b && (c && d)) ≡ (a && (b && c)) && d
    grouped false b c d = refl
    grouped true false c d = refl
    grouped true true c d = refl

    past_is : past_copy w kind x y n at ≡ cond (stands && lies) (Some (at + capacity (apart_of w kind o))) None
    unfolding past_copy copy_test
    past_is = rw (e, grouped (turn_test w.rows w.kinds kind o) (bounded x) (bounded y) lies)

    pub past_not : stands ≡ false → None ≡ past_copy w kind x y n at
    past_not f = rw (past_is, f)

    pub past-strips : stands ≡ true → lies ≡ false → None ≡ past_copy w kind x y n at
    past-strips s f = rw (past_is, s, f)

    pub past_all : stands ≡ true → lies ≡ true → Some (at + capacity (apart_of w kind o)) ≡ past_copy w kind x y n at
    past_all s f = rw (past_is, s, f)

-- ---- one copy after another

module _ (w : Held) (order orientation : List ℕ) (x y : List Float) where
  abbrev pub passing : ℕ → ℕ → Option ℕ
  passing i at = past_copy w (get_or order i 0) (get_or x i nan) (get_or y i nan) (get_or orientation i 0) at

  abbrev pub left : ℕ → ℕ → ℕ → Bool
  left n i at = copies_test w order orientation x y (n - i) i at

  module _ (n i at : ℕ) (l : i < n) where
    pub copies_on : {end : ℕ} → passing i at ≡ Some end → left n i at ≡ left n (i + 1) end
    unfolding copies_test onward
    copies_on {end} e =
        let q : n - i ≡ suc (n - (i + 1)) = omega arith in
        rw (q, e) (ap (λ (k : ℕ). copies_test w order orientation x y (n - (i + 1)) k end) (sym (add-one i)))

    pub copies-not : passing i at ≡ None → left n i at ≡ false
    unfolding copies_test onward
    copies-not e = let q : n - i ≡ suc (n - (i + 1)) = omega arith in rw (q, e)

  pub copies-end : (n i at : ℕ) → n ≤ i → eqb at (capacity w.placed) ≡ left n i at
  unfolding copies_test
  copies-end n i at l = let q : n - i ≡ 0 = omega arith in rw q
