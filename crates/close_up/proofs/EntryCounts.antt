-- How many entries strips have: those of two parts together are those of each. Assumes nothing.
use mathlib.Core.Path.{◌≡◌, refl, sym, ap, ap₂, ◌∙◌}
use mathlib.Core.Bool.{Bool, true, false, ◌&&◌}
use mathlib.Core.List.{List, [], ◌∷◌, ◌++◌, map, flat_map, map-append}
use Prim.Native.Nat.{ℕ, zero, suc, ◌+◌}
use native.Mathlib.Omega.{arith}
use lib.ListN.{length, length-append}
use lib.Dec.{leb}
use lib.Ieee.{Float}
use Rattle.trapezoid.specs.Strip.{strip_at, capacity}
use Rattle.index.specs.declared.Index.{Index}
use Rattle.index.specs.Buckets.{buckets, up_from, Span, span_of, numbers_in, by_bucket, entries_of}
use Rattle.enter.proofs.span_marks.NewIn.{up_from_append}
use Rattle.filling.proofs.Reading.{Sixfold, capacity_append, up_from-same}
use Rattle.filling.proofs.FirstFree.{grows_append}
use Rattle.filling.proofs.Numbers31.{strip-right}

-- the numbers of one bucket
numbers_append : (b i : ℕ) (ss ts : List Span) → length (numbers_in b i (ss ++ ts)) ≡ length (numbers_in b i ss) + length (numbers_in b (i + length ss) ts)
unfolding numbers_in
numbers_append b i [] ts =
    let z : i + 0 ≡ i = omega arith in
    let e : length (numbers_in b (i + 0) ts) ≡ length (numbers_in b i ts) = ap (λ (n : ℕ). length (numbers_in b n ts)) z in
    omega (arith, e)
numbers_append b i (s ∷ ss) ts =
    let z : suc i + length ss ≡ i + suc (length ss) = omega arith in
    go (leb s.first b && leb b s.last) (numbers_append b (suc i) ss ts ∙ ap (λ (n : ℕ). length (numbers_in b (suc i) ss) + length (numbers_in b n ts)) z)
  where
    go : (t : Bool) → length (numbers_in b (suc i) (ss ++ ts)) ≡ length (numbers_in b (suc i) ss) + length (numbers_in b (i + suc (length ss)) ts)
        → length {A = ℕ} (elim t [ true ↦ i ∷ numbers_in b (suc i) (ss ++ ts) | false ↦ numbers_in b (suc i) (ss ++ ts) ])
        ≡ length {A = ℕ} (elim t [ true ↦ i ∷ numbers_in b (suc i) ss | false ↦ numbers_in b (suc i) ss ]) + length (numbers_in b (i + suc (length ss)) ts)
    go true e = omega arith
    go false e = e

-- how many there are does not depend on their numbers
numbers-from : (b i n : ℕ) (ss : List Span) → length (numbers_in b i ss) ≡ length (numbers_in b n ss)
unfolding numbers_in
numbers-from b i n [] = refl
numbers-from b i n (s ∷ ss) = go (leb s.first b && leb b s.last) (numbers-from b (suc i) (suc n) ss)
  where
    go : (t : Bool) → length (numbers_in b (suc i) ss) ≡ length (numbers_in b (suc n) ss)
        → length {A = ℕ} (elim t [ true ↦ i ∷ numbers_in b (suc i) ss | false ↦ numbers_in b (suc i) ss ])
        ≡ length {A = ℕ} (elim t [ true ↦ n ∷ numbers_in b (suc n) ss | false ↦ numbers_in b (suc n) ss ])
    go true e = ap suc e
    go false e = e

buckets_append : (ss ts : List Span) (bs : List ℕ)
    → length (flat_map (λ b. numbers_in b 0 (ss ++ ts)) bs) ≡ length (flat_map (λ b. numbers_in b 0 ss) bs) + length (flat_map (λ b. numbers_in b 0 ts) bs)
unfolding flat_map
buckets_append ss ts [] = refl
buckets_append ss ts (b ∷ bs) =
    let a = length-append (numbers_in b 0 (ss ++ ts)) (flat_map (λ b. numbers_in b 0 (ss ++ ts)) bs) in
    let c = length-append (numbers_in b 0 ss) (flat_map (λ b. numbers_in b 0 ss) bs) in
    let d = length-append (numbers_in b 0 ts) (flat_map (λ b. numbers_in b 0 ts) bs) in
    let e = numbers_append b 0 ss ts in
    let f = numbers-from b (0 + length ss) 0 ts in
    let g = buckets_append ss ts bs in
    omega arith

-- what one function has from a on another has from c on
up_from-shift : {A : Type 0} (f h : ℕ → A) (n a c : ℕ) → ((i : ℕ) → f (a + i) ≡ h (c + i)) → map f (up_from n a) ≡ map h (up_from n c)
unfolding up_from
up_from-shift f h zero a c e = refl
up_from-shift f h (suc n) a c e =
    let z : (x : ℕ) → x + 0 ≡ x = λ x. omega arith in
    ap₂ ◌∷◌ (ap f (sym (z a)) ∙ e 0 ∙ ap h (z c)) (up_from-shift f h n (suc a) (suc c) (λ i. next a i f ∙ e (suc i) ∙ sym (next c i h)))
  where
    next : {A : Type 0} (x i : ℕ) (q : ℕ → A) → q (suc x + i) ≡ q (x + suc i)
    next x i q = let y : suc x + i ≡ x + suc i = omega arith in ap q y

module _ (ix : Index) (st new : List Float) (s : Sixfold st) (t : Sixfold new) where
  abbrev Of : List Float → ℕ → Span
  Of l i = span_of ix (strip_at l i)

  spans_append : map (Of (st ++ new)) (up_from (capacity (st ++ new)) 0) ≡ map (Of st) (up_from (capacity st) 0) ++ map (Of new) (up_from (capacity new) 0)
  spans_append =
      ap (λ (n : ℕ). map (Of (st ++ new)) (up_from n 0)) (capacity_append st new s t)
      ∙ ap (map (Of (st ++ new))) (up_from_append (capacity st) (capacity new) 0)
      ∙ map-append (Of (st ++ new)) (up_from (capacity st) 0) (up_from (capacity new) (0 + capacity st))
      ∙ ap₂ ◌++◌ (up_from-same (Of (st ++ new)) (Of st) (capacity st) 0 (λ i a b. ap (span_of ix) (sym ((grows_append st new s).same i (omega arith)))))
      (up_from-shift (Of (st ++ new)) (Of new) (capacity new) (0 + capacity st) 0 later)
    where
      later : (i : ℕ) → Of (st ++ new) (0 + capacity st + i) ≡ Of new (0 + i)
      later i =
          let z : 0 + capacity st + i ≡ capacity st + i = omega arith in
          let y : 0 + i ≡ i = omega arith in
          ap (Of (st ++ new)) z ∙ ap (span_of ix) (strip-right st new i s) ∙ ap (Of new) (sym y)

  pub entries_append : length (entries_of ix (st ++ new) (capacity (st ++ new)))
      ≡ length (entries_of ix st (capacity st)) + length (entries_of ix new (capacity new))
  unfolding entries_of by_bucket
  entries_append =
      ap (λ (l : List Span). length (flat_map (λ b. numbers_in b 0 l) (up_from buckets 0))) spans_append
      ∙ buckets_append (map (Of st) (up_from (capacity st) 0)) (map (Of new) (up_from (capacity new) 0)) (up_from buckets 0)
