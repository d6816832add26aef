-- The first buckets of the strips that stand: written over a room, over themselves, and after a copy is stored. Assumes nothing.
use Prim.Native.Nat.{ℕ, ◌+◌, ◌<◌, ◌≤◌}
use native.Mathlib.Omega.{arith}
use mathlib.Core.Path.{◌≡◌, refl, sym, ap, ◌∙◌}
use mathlib.Core.Logic.{◌⊎◌, inl, inr}
use mathlib.Core.List.{List}
use lib.ListN.{length, get_or}
use lib.Ieee.{Float}
use Rattle.numbers.proofs.Truth.{below_or_not}
use Rattle.trapezoid.specs.Strip.{strip_at}
use Rattle.index.specs.declared.Index.{Index}
use Rattle.index.specs.Buckets.{bucket_in}
use Rattle.index.specs.inner.Listing.{FirstBuckets}
use Rattle.index.proofs.FirstBuckets.{firsts_moved}
use Rattle.enter.specs.inner.EntryRoom.{FirstsWritten}
use Rattle.filling.proofs.FirstBuckets.{numbers-written}
use Rattle.store.specs.inner.Storing.{moved_to, FirstsLaid}
use Rattle.store.proofs.Strips.{after-before}

abbrev first_of : Index → List Float → ℕ → ℕ
first_of ix standing i = bucket_in ix (strip_at standing i).x0

-- ---- n numbers in front, the rest as it was
module _ (ix : Index) (standing : List Float) (n : ℕ) (before after : List ℕ) (e : length after ≡ length before) (h : n ≤ length before)
    (new : (i : ℕ) → i < n → get_or after i 0 ≡ first_of ix standing i) (old : (i : ℕ) → n ≤ i → get_or after i 0 ≡ get_or before i 0) where
  true_now : FirstBuckets ix standing n after
  true_now = record { long = omega arith; right = new }

  pub firsts_laid : FirstsLaid ix standing n before after
  firsts_laid = record { written = numbers-written ix standing n before after e true_now old; kept = true_now }

-- true numbers are laid over themselves
pub firsts_same : (ix : Index) (standing : List Float) (n : ℕ) (firsts : List ℕ) → FirstBuckets ix standing n firsts → FirstsLaid ix standing n firsts firsts
firsts_same ix standing n firsts B = firsts_laid ix standing n firsts firsts refl B.long B.right (λ i l. refl)

-- ---- a copy's strips
module _ (ix : Index) (apart : List Float) (x y : Float) (n k : ℕ) (p : List Float) (before after : List ℕ) (B : FirstBuckets ix p n before) (q : List Float)
    (E : q ≡ moved_to apart x y n p k) (W : FirstsWritten ix q n (n + k) before after) where
  still : FirstBuckets ix q n before
  still = firsts_moved ix p q n before (λ i l. sym (ap (λ (z : List Float). strip_at z i) E ∙ after-before apart x y n p k i l)) B

  first_of_lem : (i : ℕ) → i < n + k → get_or after i 0 ≡ first_of ix q i
  first_of_lem i l = go (below_or_not i n)
    where
      go : (i < n) ⊎ (n ≤ i) → get_or after i 0 ≡ first_of ix q i
      go (inl b) = W.below i b ∙ still.right i b
      go (inr b) = W.new i b l

  pub firsts_stored : length after ≡ length before → n + k ≤ length before → FirstsLaid ix q (n + k) before after
  firsts_stored e h = firsts_laid ix q (n + k) before after e h first_of_lem (λ i l. W.above i l)
