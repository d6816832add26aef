-- Clear of many lists of intervals, one list after another. Assumes nothing.
use Rattle.std.specs.Prelude.{Option, Some, None}
use Prim.Native.Nat.{ℕ, suc, ◌+◌, ◌-◌, ◌<◌, ◌≤◌}
use native.Mathlib.Omega.{arith}
use native.Mathlib.Numerals.{add-one}
use mathlib.Core.Path.{◌≡◌, refl, sym, ap, ◌∙◌}
use mathlib.Core.Bool.{Bool, true, false, not, ◌&&◌, and-true}
use mathlib.Core.List.{List, flat_map}
use lib.Ieee.{Float}
use Rattle.trapezoid.specs.declared.Trapezoid.{Trapezoid}
use Rattle.trapezoid.specs.Strip.{strip_at, capacity}
use Rattle.index.specs.declared.Interval.{Interval}
use Rattle.index.specs.declared.Moving.{Moving}
use Rattle.index.specs.Buckets.{up_from}
use Rattle.index.specs.Intervals.{interval_in, meeting_of, forbidden_of}
use Rattle.index.specs.inner.Listing.{moving_of, heights_of, meeting_at}
use Rattle.look.specs.height.Smallest.{inside, outside}
use Rattle.layouts.proofs.Legal.{outside_append}
use Rattle.placement.specs.inner.Pairs.{lies_in, pair_at, intervals_of}

-- one pair
pair_outside : (y : Float) (w : Option Interval) → outside (interval_in w) y ≡ not (lies_in y w)
unfolding outside interval_in lies_in
pair_outside y None = refl
pair_outside y (Some i) = and-true (not (inside y i))

pub pair_clear : (standing : List Float) (m : Moving) (y : Float) (i : ℕ) (p : Trapezoid) (r : Bool) → r ≡ lies_in y (meeting_at m p) → p ≡ strip_at standing i
    → outside (pair_at standing m i) y ≡ not r
unfolding pair_at
pair_clear standing m y i p r e d =
    pair_outside y (meeting_at m (strip_at standing i)) ∙ sym (ap not (e ∙ ap (λ (z : Trapezoid). lies_in y (meeting_at m z)) d))

-- ---- a loop over the lists f 0 to below f t, that stops at the first that holds y: what is left is clear exactly if all are
module _ (f : ℕ → List Interval) (y : Float) (t : ℕ) where
  abbrev pub Left : ℕ → Type 0
  Left e = outside (flat_map f (up_from (t - e) e)) y ≡ outside (flat_map f (up_from t 0)) y

  pub left-start : Left 0
  left-start = let z : t - 0 ≡ t = omega arith in rw z

  left_on : (e : ℕ) → e < t → outside (flat_map f (up_from (t - e) e)) y ≡ outside (f e) y && outside (flat_map f (up_from (t - (e + 1)) (e + 1))) y
  unfolding up_from flat_map
  left_on e l =
      let z : t - e ≡ suc (t - (e + 1)) = omega arith in
      rw (z, add-one e) (outside_append (f e) (flat_map f (up_from (t - suc e) (suc e))) y)

  pub left-next : (e : ℕ) → e < t → outside (f e) y ≡ true → Left e → Left (e + 1)
  left-next e l h g = sym (left_on e l ∙ rw h) ∙ g

  pub left-held : (e : ℕ) → e < t → outside (f e) y ≡ false → Left e → false ≡ outside (flat_map f (up_from t 0)) y
  left-held e l h g = sym (left_on e l ∙ rw h) ∙ g

  pub left_end : (e : ℕ) → t ≤ e → Left e → true ≡ outside (flat_map f (up_from t 0)) y
  unfolding up_from flat_map outside
  left_end e l g = let z : t - e ≡ 0 = omega arith in rw z at g

-- ---- the intervals of the moving strip number j at x; the allowed heights decide nothing
module _ (standing moving : List Float) (x y : Float) where
  abbrev pub strip_intervals : ℕ → List Interval
  strip_intervals j = intervals_of standing (moving_of (strip_at moving j) x y y)

  pub strip-clear : (j : ℕ) (q : Trapezoid) (m : Moving) (r : Bool) → r ≡ outside (intervals_of standing m) y → m ≡ moving_of q x y y → q ≡ strip_at moving j
      → outside (strip_intervals j) y ≡ r
  strip-clear j q m r e d f =
      sym (e ∙ ap (λ (z : Moving). outside (intervals_of standing z) y) (d ∙ ap (λ (z : Trapezoid). moving_of z x y y) f))

  pub forbidden_is : flat_map strip_intervals (up_from (capacity moving) 0) ≡ forbidden_of standing moving x
  unfolding forbidden_of intervals_of pair_at meeting_at meeting_of moving_of heights_of
  forbidden_is = refl
