-- First buckets are written strip by strip. Assumes nothing.
use Prim.Native.Nat.{ℕ, ◌+◌, ◌<◌, ◌≤◌}
use native.Mathlib.Omega.{arith}
use mathlib.Core.Path.{◌≡◌, refl, ◌∙◌, subst}
use mathlib.Core.Logic.{◌⊎◌, inl, inr}
use mathlib.Core.List.{List}
use lib.ListN.{length, get_or, set}
use lib.Seq.{get_or-set_same, get_or-set_other}
use lib.Ieee.{Float}
use Rattle.numbers.proofs.Truth.{below_or_not}
use Rattle.trapezoid.specs.Strip.{strip_at}
use Rattle.index.specs.declared.Index.{Index}
use Rattle.index.specs.Buckets.{bucket_in}
use Rattle.enter.specs.inner.EntryRoom.{FirstsWritten}

module _ (ix : Index) (standing : List Float) (from : ℕ) where
  pub written_none : (firsts : List ℕ) → FirstsWritten ix standing from from firsts firsts
  written_none firsts = record { below = λ i h. refl; new = λ i a b. absurd (omega arith); above = λ i h. refl }

  module _ (i f : ℕ) (before after : List ℕ) (W : FirstsWritten ix standing from i before after) (h : from ≤ i) (l : i < length after)
      (e : f ≡ bucket_in ix (strip_at standing i).x0) where
    new_at : (j : ℕ) → from ≤ j → j < i + 1 → get_or (set after i f) j 0 ≡ bucket_in ix (strip_at standing j).x0
    new_at j a b = go (below_or_not j i)
      where
        go : (j < i) ⊎ (i ≤ j) → get_or (set after i f) j 0 ≡ bucket_in ix (strip_at standing j).x0
        go (inl k) = get_or-set_other after i j f 0 (λ q. omega (arith, q)) ∙ W.new j a k
        go (inr k) =
            let q : i ≡ j = omega arith in
            subst (λ (m : ℕ). get_or (set after i f) m 0 ≡ bucket_in ix (strip_at standing m).x0) q (get_or-set_same after i f 0 l ∙ e)

    pub written_next : FirstsWritten ix standing from (i + 1) before (set after i f)
    written_next =
        record {
          below = λ j a. get_or-set_other after i j f 0 (λ q. omega (arith, q)) ∙ W.below j a;
          new = new_at;
          above = λ j a. get_or-set_other after i j f 0 (λ q. omega (arith, q)) ∙ W.above j (omega arith);
        }
