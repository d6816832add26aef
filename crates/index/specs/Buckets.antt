-- Document 01, "Index", first part: buckets and entries. Definitions only. Assumes nothing.
use Rattle.std.specs.Prelude.{ℕ, zero, suc, ◌-◌, min, Bool, true, false, ◌&&◌, length, leb, Float}
use mathlib.Core.List.{List, [], ◌∷◌, map, flat_map}
use Rattle.std.specs.Float.{binary64}
use Rattle.std.specs.Float.Ieee.{of_bits, to_unsigned}
use Rattle.numbers.specs.Numbers.{◌⊖◌, ◌⊘◌, larger, from_int}
use Rattle.trapezoid.specs.declared.Trapezoid.{Trapezoid}
use Rattle.trapezoid.specs.Strip.{strip_at, capacity}
use Rattle.index.specs.declared.Index.{Index}

-- the n numbers from c on
unfoldable pub up_from : ℕ → ℕ → List ℕ
up_from zero c = []
up_from (suc n) c = c ∷ up_from n (suc c)

-- those of a list that pass a test
unfoldable pub keep {ℓ} : {A : Type ℓ} → (A → Bool) → List A → List A
keep test [] = []
keep test (a ∷ as') = elim (test a) [ true ↦ a ∷ keep test as' | false ↦ keep test as' ]

-- "The index has 512 buckets, numbered 0 to 511"
abbrev pub buckets : ℕ
buckets = 512

-- "a bucket's width is at least 2^−1022"
abbrev pub least_width : Float
least_width = of_bits binary64 0x0010_0000_0000_0000

-- "over the sheet's width": the index from x0 to x1
unfoldable pub index_of : Float → Float → Index
index_of x0 x1 = record { x0 = x0; width = larger ((x1 ⊖ x0) ⊘ from_int buckets) least_width }

-- "The bucket of x is (x − x0) / width rounded down, held to 0..511; a quotient too large for a double is bucket 511, one too far below zero bucket 0."
unfoldable pub bucket_in : Index → Float → ℕ
bucket_in ix x = min (to_unsigned 64 ((x ⊖ ix.x0) ⊘ ix.width)) (buckets - 1)

-- "A standing strip is entered in every bucket from its x0 to its x1": the first and the last bucket of a strip
pub record Span : Type 0 where
  pub first : ℕ
  pub last : ℕ

-- the buckets of a strip
unfoldable pub span_of : Index → Trapezoid → Span
span_of ix p = record { first = bucket_in ix p.x0; last = bucket_in ix p.x1 }

-- of strips numbered from i on, those entered in bucket b
unfoldable pub numbers_in : ℕ → ℕ → List Span → List ℕ
numbers_in b i [] = []
numbers_in b i (s ∷ ss) = elim (leb s.first b && leb b s.last) [ true ↦ i ∷ numbers_in b (suc i) ss | false ↦ numbers_in b (suc i) ss ]

-- by bucket, then strip number
unfoldable pub by_bucket : List Span → List ℕ
by_bucket ss = flat_map (λ b. numbers_in b 0 ss) (up_from buckets 0)

-- "Entries lie by bucket, then strip number." Each strip's buckets are worked out once, so that it computes
unfoldable pub entries_of : Index → List Float → ℕ → List ℕ
entries_of ix standing n = by_bucket (map (λ i. span_of ix (strip_at standing i)) (up_from n 0))

-- document 02, W3: "The strip record gets that bucket number": the bucket of x0 of each of the first n standing strips
unfoldable pub firsts_of : Index → List Float → ℕ → List ℕ
firsts_of ix standing n = map (λ i. bucket_in ix (strip_at standing i).x0) (up_from n 0)

-- document 02, W8: "Strip numbers run from 0 to 65,535. A room for standing strips is used up to 65,536 strips"
abbrev pub strip_numbers : ℕ
strip_numbers = 65_536

-- how many standing strips their rooms are used for: W3, "For 20 the shorter room counts"
unfoldable pub standing_capacity : List Float → List ℕ → ℕ
standing_capacity strips firsts = min (min (capacity strips) (length firsts)) strip_numbers
