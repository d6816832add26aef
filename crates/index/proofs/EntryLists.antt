-- The entries, worked out strip by strip, are those of each bucket in turn. Assumes nothing.
use Prim.Native.Nat.{ℕ, zero, suc}
use mathlib.Core.Path.{◌≡◌, refl, ap, ap₂}
use mathlib.Core.Bool.{Bool, true, false, ◌&&◌}
use mathlib.Core.List.{List, [], ◌∷◌, ◌++◌, map, flat_map}
use lib.Dec.{leb}
use lib.Ieee.{Float}
use Rattle.trapezoid.specs.Strip.{strip_at}
use Rattle.index.specs.declared.Index.{Index}
use Rattle.index.specs.Buckets.{up_from, keep, buckets, bucket_in, span_of, numbers_in, by_bucket, entries_of}
use Rattle.index.specs.inner.Listing.{covers, entered_from}

module _ (ix : Index) (standing : List Float) (b : ℕ) where
  numbers_keep : (n c : ℕ) → numbers_in b c (map (λ i. span_of ix (strip_at standing i)) (up_from n c)) ≡ keep (λ i. covers ix (strip_at standing i) b) (up_from n c)
  unfolding up_from numbers_in keep covers span_of
  numbers_keep zero c = refl
  numbers_keep (suc n) c = go (leb (bucket_in ix (strip_at standing c).x0) b && leb b (bucket_in ix (strip_at standing c).x1)) (numbers_keep n (suc c))
    where
      go : (t : Bool) {l m : List ℕ} → l ≡ m → ◌≡◌ {A = List ℕ} (elim t [ true ↦ c ∷ l | false ↦ l ]) (elim t [ true ↦ c ∷ m | false ↦ m ])
      go true e = ap (λ k. c ∷ k) e
      go false e = e

flat_pointwise : (f g : ℕ → List ℕ) → ((i : ℕ) → f i ≡ g i) → (l : List ℕ) → flat_map f l ≡ flat_map g l
unfolding flat_map
flat_pointwise f g h [] = refl
flat_pointwise f g h (a ∷ l) = ap₂ ◌++◌ (h a) (flat_pointwise f g h l)

pub entries_by_bucket : (ix : Index) (standing : List Float) (n : ℕ) → entries_of ix standing n ≡ flat_map (entered_from ix standing n) (up_from buckets 0)
unfolding entries_of by_bucket entered_from
entries_by_bucket ix standing n =
    flat_pointwise (λ b. numbers_in b 0 (map (λ i. span_of ix (strip_at standing i)) (up_from n 0))) (λ b. keep (λ i. covers ix (strip_at standing i) b) (up_from n 0)) (λ b. numbers_keep ix standing b n 0) (up_from buckets 0)
