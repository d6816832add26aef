-- What stands and what the job fixes make every slot ready to be searched. Assumes nothing.
use Prim.Native.Nat.{ℕ, ◌*◌, ◌/◌, ◌<◌}
use native.Mathlib.Omega.{arith}
use mathlib.Core.Path.{◌≡◌, sym, subst, subst⁻¹}
use mathlib.Core.List.{List}
use lib.ListN.{length, take}
use lib.Seq.{length-take-le}
use lib.Ieee.{Float}
use Rattle.trapezoid.specs.Strip.{capacity}
use Rattle.index.specs.declared.Index.{Index}
use Rattle.index.specs.inner.Listing.{Laid, FirstBuckets}
use Rattle.index.proofs.NewIndex.{laid-after}
use Rattle.index.proofs.FirstBuckets.{firsts_moved}
use Rattle.look.specs.inner.Ready.{BoundedStrip, BoundedStrips}
use Rattle.choose.specs.inner.Choosing.{Surroundings, Ready}
use Rattle.store.proofs.Strips.{prefix_strip}
use Rattle.place.specs.inner.Standing.{Standing, Fixed}

module _ (ix : Index) (placed : List Float) (n : ℕ) (e s : List ℕ) (S : Standing ix placed n e s) where
  long : length (take (6 * n) placed) ≡ 6 * n
  long = length-take-le (6 * n) placed S.laid.room

  count : capacity (take (6 * n) placed) ≡ n
  unfolding capacity
  count = let l = long in let q : length (take (6 * n) placed) / 6 ≡ n = omega arith in q

  prefix_laid : Laid ix (take (6 * n) placed) (capacity (take (6 * n) placed)) e s
  prefix_laid =
      subst⁻¹ (λ (z : ℕ). Laid ix (take (6 * n) placed) z e s) count
      (laid-after ix placed (take (6 * n) placed) n e s S.laid (λ i h. sym (prefix_strip placed n i h)) (let l = long in omega arith))

  pub prefix_firsts : (f : List ℕ) → FirstBuckets ix placed n f → FirstBuckets ix (take (6 * n) placed) (capacity (take (6 * n) placed)) f
  prefix_firsts f B =
      subst⁻¹ (λ (z : ℕ). FirstBuckets ix (take (6 * n) placed) z f) count
      (firsts_moved ix placed (take (6 * n) placed) n f (λ i h. sym (prefix_strip placed n i h)) B)

  prefix_strips : BoundedStrips (take (6 * n) placed)
  prefix_strips i h = let b : i < n = subst (λ (z : ℕ). i < z) count h in subst⁻¹ BoundedStrip (prefix_strip placed n i b) (S.strips i b)

  pub ready_of : (w : Surroundings) (se ss : List ℕ) (i : ℕ) → w.placed ≡ take (6 * n) placed → Fixed ix w se ss i → Ready ix w se ss e s i
  ready_of w se ss i p F =
      record {
        bounded = F.bounded;
        parted = F.parted;
        few = F.few;
        lookable = λ c h. record {
          index = F.index;
          sheet_laid = F.sheet_laid;
          placed_laid = subst⁻¹ (λ (z : List Float). Laid ix z (capacity z) e s) p prefix_laid;
          column = F.column c h;
          low = F.low;
          high = F.high;
          insets = F.insets;
          aparts = F.aparts;
          sheets = F.sheets;
          places = subst⁻¹ BoundedStrips p prefix_strips;
        };
      }
