-- A test of every number of a run, as `all` over a range asks it. Assumes nothing.
use Prim.Native.Nat.{ℕ, zero, suc}
use native.Mathlib.Numerals.{add-one}
use native.Mathlib.Nat.{sub-zero}
use denote.Param.Members.{Mut}
use mathlib.Core.Path.{◌≡◌, refl, ap, ◌∙◌}
use mathlib.Core.Bool.{Bool, true, false, ◌&&◌}
use mathlib.Core.List.{List}
use Rattle.std.specs.Prelude.{Option}
use Rattle.std.specs.declared.ops.Range.{Range}
use Rattle.std.specs.Fn.{Called}
use Rattle.std.specs.Iterator.{YieldsThen}
use Rattle.std.specs.List.{FoldsTo, list_all, range_with_len}
use Rattle.std.specs.Option.{MatchOption}
use Rattle.std.proofs.iter.Yields.{nat_range_steps}
use Rattle.std.proofs.lemmas.Iterator.{YieldsList-from_range}
use Rattle.std.proofs.lemmas.Iterator.Search.{all_from_yields_List}
use Rattle.index.specs.Buckets.{up_from}
use Rattle.filling.specs.Consistent.{every}

module _ (test : ℕ → Bool) where
  range_every : (n i : ℕ) → list_all test (range_with_len i n) ≡ every test (up_from n i)
  unfolding every up_from
  range_every zero i = refl
  range_every (suc n) i = ap (λ b. test i && b) (ap (λ k. list_all test (range_with_len k n)) (add-one i) ∙ range_every n (suc i))

  -- what `all` answers, of a closure that computes the test
  pub all_every : {F : Type 0} {g : Mut F (ℕ × Unit {0}) Bool} {s : Range ℕ} (n : ℕ) (u : Range ℕ) (f : F) (r : Bool)
      → (xs : List ℕ) × (o : Option ℕ) × (j : F) × YieldsThen nat_range_steps s xs o u × FoldsTo (λ p x q. Called g p (x, tt) true q) f xs j
      × MatchOption o (r ≡ true) (λ x. (r ≡ false) × ((h : F) × Called g j (x, tt) false h))
      → s ≡ record { start = 0; end = n } → ((x : ℕ) (b : Bool) (q : F) → Called g f (x, tt) b q → (q ≡ f) × (b ≡ test x))
      → r ≡ every test (up_from n 0)
  all_every n u f r ran e tests =
      all_from_yields_List test u f r ran (YieldsList-from_range 0 n n e (sub-zero n)) tests ∙ range_every n 0
