-- The gaps of the copies that stand: the tests are the definition's. Assumes nothing.
use Prim.Native.Nat.{ℕ, zero, suc, ◌+◌}
use native.Mathlib.Omega.{arith}
use mathlib.Core.Path.{◌≡◌, refl, sym, ap, ap₂, ◌∙◌}
use mathlib.Core.Bool.{Bool, true, false, ◌&&◌, ◌||◌}
use mathlib.Core.List.{List, [], ◌∷◌, ◌++◌}
use lib.ListN.{get_or}
use lib.Ieee.{nan}
use borrow.Author.Tests.{ne_eqb}
use Rattle.std.proofs.Common.{zero-add}
use Rattle.index.specs.Buckets.{up_from}
use Rattle.filling.specs.declared.State.{State}
use Rattle.filling.specs.Shapes.{Standing}
use Rattle.filling.specs.State.{stands_at, standing_to, standing_of}
use Rattle.filling.specs.Consistent.{every, gap_fits, gaps_fit}
use Rattle.consistent.specs.strip_tests.inner.Gaps.{place_test, gaps_test}

pub and-true : (a : Bool) → a && true ≡ a
and-true true = refl
and-true false = refl

pub and_both : (a b c : Bool) → a && (b && c) ≡ (a && b) && c
and_both true b c = refl
and_both false b c = refl

pub every-both : {A : Type 0} (test : A → Bool) (l m : List A) → every test (l ++ m) ≡ every test l && every test m
unfolding every
every-both test [] m = refl
every-both test (a ∷ l) m = ap (λ b. test a && b) (every-both test l m) ∙ and_both (test a) (every test l) (every test m)

every_last : (test : ℕ → Bool) (n i : ℕ) → every test (up_from (suc n) i) ≡ every test (up_from n i) && test (i + n)
unfolding every up_from
every_last test zero i = let e : i ≡ i + 0 = omega arith in and-true (test i) ∙ ap test e
every_last test (suc n) i =
    let e : suc i + n ≡ i + suc n = omega arith in
    ap (λ b. test i && b) (every_last test n (suc i) ∙ ap (λ k. every test (up_from n (suc i)) && test k) e)
    ∙ and_both (test i) (every test (up_from n (suc i))) (test (i + suc n))

module _ (s : State) where
  abbrev fits : Standing → Bool
  fits c = gap_fits c.gap

  abbrev test : ℕ → Bool
  test i = place_test (get_or s.layout.orientation i 0) (get_or s.layout.gap i nan)

  place_is : (n o : ℕ) → place_test o (get_or s.layout.gap n nan) ≡ every fits (stands_at s n o)
  unfolding place_test every stands_at
  place_is n zero = refl
  place_is n (suc o) =
      let g = get_or s.layout.gap n nan in
      ap (λ b. b || gap_fits g) (ne_eqb (suc o) 0 (λ e. omega arith)) ∙ sym (and-true (gap_fits g))

  gaps_to : (n : ℕ) → every test (up_from n 0) ≡ every fits (standing_to s n)
  unfolding every up_from standing_to
  gaps_to zero = refl
  gaps_to (suc n) =
      let o = get_or s.layout.orientation n 0 in
      every_last test n 0 ∙ (ap (λ k. every test (up_from n 0) && test k) (zero-add n) ∙ ap₂ ◌&&◌ (gaps_to n) (place_is n o) ∙ sym (every-both fits (standing_to s n) (stands_at s n o)))

  pub gaps_are : gaps_test s.layout.orientation s.layout.gap s.taken ≡ gaps_fit s
  unfolding gaps_test gaps_fit standing_of
  gaps_are = gaps_to s.taken
