-- The buckets of a copy's strips: which are reached, and those that are kept. Assumes nothing.
use Prim.Native.Nat.{ℕ, zero, suc, ◌+◌, ◌-◌, ◌<◌, ◌≤◌, min, max}
use native.Mathlib.Omega.{arith}
use native.Mathlib.Numerals.{add-one}
use mathlib.Core.Path.{◌≡◌, refl, sym, ap, ◌∙◌, subst}
use mathlib.Core.Logic.{◌⊎◌, inl, inr}
use mathlib.Core.List.{List}
use lib.ListN.{length, get_or}
use lib.Ieee.{Float}
use Rattle.numbers.proofs.Truth.{below_or_not}
use Rattle.trapezoid.specs.Strip.{strip_at}
use Rattle.index.specs.declared.Index.{Index}
use Rattle.index.specs.Buckets.{bucket_in}
use Rattle.enter.specs.span_marks.inner.NewEntries.{new_in, Within, Kept}
use Rattle.enter.proofs.span_marks.NewIn.{one_outside, new_none, count-step}

-- ---- the buckets that a copy's strips are entered in
pub within_none : (ix : Index) (standing : List Float) (from first end : ℕ) → Within ix standing from from first end
within_none ix standing from first end = record { low = λ i a b. absurd (no i a b); high = λ i a b. absurd (no i a b) }
  where
    no : (i : ℕ) → from ≤ i → i < from → ⊥
    no i a b = omega arith

pub within_turn : (ix : Index) (standing : List Float) (from i lo hi first end first' end' : ℕ) → lo ≡ bucket_in ix (strip_at standing i).x0 → hi ≡ bucket_in ix (strip_at standing i).x1 → first' ≡ min first lo → end' ≡ max end (hi + 1)
    → Within ix standing from i first end → Within ix standing from (i + 1) first' end'
within_turn ix standing from i lo hi first end first' end' x y f e W = record { low = λ j a b. low j a (below_or_not j i) b; high = λ j a b. high j a (below_or_not j i) b }
  where
    low : (j : ℕ) → from ≤ j → (j < i) ⊎ (i ≤ j) → j < i + 1 → first' ≤ bucket_in ix (strip_at standing j).x0
    low j a (inl l) b = let w = W.low j a l in omega arith
    low j a (inr l) b = let q : i ≡ j = omega arith in subst (λ (k : ℕ). first' ≤ bucket_in ix (strip_at standing k).x0) q (omega arith)

    high : (j : ℕ) → from ≤ j → (j < i) ⊎ (i ≤ j) → j < i + 1 → bucket_in ix (strip_at standing j).x1 < end'
    high j a (inl l) b = let w = W.high j a l in omega arith
    high j a (inr l) b = let q : i ≡ j = omega arith in subst (λ (k : ℕ). bucket_in ix (strip_at standing k).x1 < end') q (omega arith)

-- a bucket that none of them reaches has no new entries
unreached : (ix : Index) (standing : List Float) (from b c : ℕ) → ((i : ℕ) → from ≤ i → i < from + c → bucket_in ix (strip_at standing i).x0 ≤ b → b ≤ bucket_in ix (strip_at standing i).x1 → ⊥) → length (new_in ix standing c from b) ≡ 0
unreached ix standing from b zero n = new_none ix standing from b
unreached ix standing from b (suc c) n =
    let u = unreached ix standing from b c (λ i a l p q. n i a (omega arith) p q) in
    let s = count-step ix standing c from b (length (new_in ix standing c from b)) refl in
    let z = one_outside (bucket_in ix (strip_at standing (from + c)).x0) (bucket_in ix (strip_at standing (from + c)).x1) b (λ p q. n (from + c) (omega arith) (omega arith) p q) in
    subst (λ (k : ℕ). length (new_in ix standing k from b) ≡ 0) (add-one c) (omega arith)

pub within-early : (ix : Index) (standing : List Float) (from to first end b : ℕ) → from ≤ to → Within ix standing from to first end → b < first → length (new_in ix standing (to - from) from b) ≡ 0
within-early ix standing from to first end b h W l = unreached ix standing from b (to - from) (λ i a d p q. no i (W.low i a (omega arith)) p)
  where
    no : (i : ℕ) → first ≤ bucket_in ix (strip_at standing i).x0 → bucket_in ix (strip_at standing i).x0 ≤ b → ⊥
    no i w p = omega arith

pub within-late : (ix : Index) (standing : List Float) (from to first end b : ℕ) → from ≤ to → Within ix standing from to first end → end ≤ b → length (new_in ix standing (to - from) from b) ≡ 0
within-late ix standing from to first end b h W l = unreached ix standing from b (to - from) (λ i a d p q. no i (W.high i a (omega arith)) q)
  where
    no : (i : ℕ) → bucket_in ix (strip_at standing i).x1 < end → b ≤ bucket_in ix (strip_at standing i).x1 → ⊥
    no i w q = omega arith

-- ---- the buckets that are kept
pub kept-none : (ix : Index) (standing : List Float) (from : ℕ) (f l : List ℕ) → Kept ix standing from (from - from) f l
kept-none ix standing from f l = record { low = λ j a b. absurd (no j a); high = λ j a b. absurd (no j a) }
  where
    no : (j : ℕ) → j < from - from → ⊥
    no j a = omega arith

pub kept_turn : (ix : Index) (standing : List Float) (from i lo hi : ℕ) (f l f' l' : List ℕ) → from ≤ i → lo ≡ bucket_in ix (strip_at standing i).x0 → hi ≡ bucket_in ix (strip_at standing i).x1
    → ((d : ℕ) → d < i - from → (get_or f' d 0 ≡ get_or f d 0) × (get_or l' d 0 ≡ get_or l d 0)) → (i - from < 64 → (get_or f' (i - from) 0 ≡ lo) × (get_or l' (i - from) 0 ≡ hi)) → Kept ix standing from (i - from) f l → Kept ix standing from (i + 1 - from) f' l'
kept_turn ix standing from i lo hi f l f' l' h x y s n K = record { low = λ j a b. low j (below_or_not j (i - from)) a b; high = λ j a b. high j (below_or_not j (i - from)) a b }
  where
    e : from + (i - from) ≡ i
    e = omega arith

    low : (j : ℕ) → (j < i - from) ⊎ (i - from ≤ j) → j < i + 1 - from → j < 64 → get_or f' j 0 ≡ bucket_in ix (strip_at standing (from + j)).x0
    low j (inl a) d b = (s j a).0 ∙ K.low j a b
    low j (inr a) d b = let q : i - from ≡ j = omega arith in subst (λ (k : ℕ). get_or f' k 0 ≡ bucket_in ix (strip_at standing (from + k)).x0) q ((n (omega arith)).0 ∙ (x ∙ ap (λ (k : ℕ). bucket_in ix (strip_at standing k).x0) (sym e)))

    high : (j : ℕ) → (j < i - from) ⊎ (i - from ≤ j) → j < i + 1 - from → j < 64 → get_or l' j 0 ≡ bucket_in ix (strip_at standing (from + j)).x1
    high j (inl a) d b = (s j a).1 ∙ K.high j a b
    high j (inr a) d b = let q : i - from ≡ j = omega arith in subst (λ (k : ℕ). get_or l' k 0 ≡ bucket_in ix (strip_at standing (from + k)).x1) q ((n (omega arith)).1 ∙ (y ∙ ap (λ (k : ℕ). bucket_in ix (strip_at standing k).x1) (sym e)))
