-- 31's test of first buckets, strip by strip. Assumes nothing.
use Prim.{⊥}
use Prim.Native.Nat.{ℕ, ◌≤◌, ◌<◌}
use native.Mathlib.Omega.{arith}
use mathlib.Core.Path.{◌≡◌, sym, ◌∙◌}
use mathlib.Core.Logic.{inl, inr}
use mathlib.Core.Bool.{Bool, true, false}
use mathlib.Core.List.{List}
use lib.ListN.{length, get_or}
use lib.Dec.{eqb}
use lib.Ieee.{Float}
use borrow.Author.Tests.{eq-eqb, eqb-true}
use Rattle.numbers.proofs.Truth.{either, clash}
use Rattle.trapezoid.specs.Strip.{strip_at}
use Rattle.index.specs.declared.Index.{Index}
use Rattle.index.specs.Buckets.{up_from, bucket_in, firsts_of}
use Rattle.index.specs.inner.Listing.{FirstBuckets}
use Rattle.filling.specs.Consistent.{every, numbers_lie}
use Rattle.filling.proofs.FirstBuckets.{numbers_are, numbers_lie_lem}
use Rattle.filling.proofs.Numbers31.{every-up_from, up_from-every}

module _ (ix : Index) (part : List Float) (n : ℕ) (room : List ℕ) where
  abbrev lie : Bool
  lie = numbers_lie (firsts_of ix part n) room

  abbrev pub first_test : ℕ → Bool
  first_test i = eqb (bucket_in ix (strip_at part i).x0) (get_or room i 0)

  fails : (FirstBuckets ix part n room → ⊥) → lie ≡ false
  fails other = elim (either lie) [ inl t ↦ absurd (other (numbers_are ix part n room t)) | inr f ↦ f ]

  pub firsts_short : length room < n → lie ≡ false
  firsts_short h = fails (λ F. omega (arith, h, F.long))

  module _ (h : n ≤ length room) where
    pub firsts_known : every first_test (up_from n 0) ≡ true → FirstBuckets ix part n room
    firsts_known t = record {
      long = h;
      right = λ i b. sym (eqb-true _ _ (up_from-every first_test n 0 t i (omega arith) (omega arith)));
    }

    pub firsts_every : every first_test (up_from n 0) ≡ lie
    firsts_every = elim (either (every first_test (up_from n 0))) [
      | inl t ↦ t ∙ sym (numbers_lie_lem ix part n room (firsts_known t))
      | inr f ↦ f ∙ sym (fails (λ F. clash (every-up_from first_test n 0 (λ i a b. eq-eqb _ _ (sym (F.right i (omega arith))))) f))
    ]
