-- The entries of each bucket, counted strip by strip. Assumes nothing.
use Prim.Native.Nat.{ℕ, suc, ◌+◌, ◌-◌, ◌<◌, ◌≤◌}
use native.Mathlib.Omega.{arith}
use native.Mathlib.Nat.{le_refl, sub-zero}
use mathlib.Core.Path.{◌≡◌, ap, ◌∙◌}
use mathlib.Core.Logic.{◌⊎◌, inl, inr}
use mathlib.Core.List.{List, [], ◌∷◌, ◌++◌}
use lib.ListN.{length, get_or}
use lib.Ieee.{Float}
use Rattle.numbers.proofs.Truth.{below_or_not}
use Rattle.trapezoid.specs.Strip.{strip_at}
use Rattle.index.specs.declared.Index.{Index}
use Rattle.index.specs.Buckets.{buckets, up_from, keep, bucket_in}
use Rattle.index.specs.inner.Listing.{covers, entered_from}
use Rattle.index.specs.entries.inner.Cursors.{raised, Counts}
use Rattle.index.proofs.Listed.{covers_yes, covers_no}
use Rattle.index.proofs.Steps.{bucket_top}
use Rattle.index.proofs.entries.Following.{keep_on, keep-end, one_in, one_out}
use Rattle.index.proofs.entries.Raising.{length-raised, raised-out, raised_in}

module _ (ix : Index) (standing : List Float) (n : ℕ) where
  -- ---- the entries of bucket b that are left after i strips
  abbrev pub rest : ℕ → ℕ → List ℕ
  rest i b = keep (λ j. covers ix (strip_at standing j) b) (up_from (n - i) i)

  pub rest_all : (b : ℕ) → rest 0 b ≡ entered_from ix standing n b
  unfolding entered_from
  rest_all b = ap (λ (k : ℕ). keep (λ j. covers ix (strip_at standing j) b) (up_from k 0)) (sub-zero n)

  pub rest-none : (b : ℕ) → rest n b ≡ []
  rest-none b = keep-end (λ j. covers ix (strip_at standing j) b) n n (le_refl n)

  -- ---- the counts after i strips
  pub record Counting (i : ℕ) (s : List ℕ) : Type 0 where
    pub table : length s ≡ buckets + 1
    pub first : get_or s 0 0 ≡ 0
    pub few : (b : ℕ) → b < buckets → get_or s (b + 1) 0 ≤ i
    pub left : (b : ℕ) → b < buckets → get_or s (b + 1) 0 + length (rest i b) ≡ length (entered_from ix standing n b)

  pub counting_start : (s : List ℕ) → length s ≡ buckets + 1 → ((b : ℕ) → b < buckets + 1 → get_or s b 0 ≡ 0) → Counting 0 s
  counting_start s t z = record {
    table = t;
    first = z 0 (omega arith);
    few = λ b h. (let a = z (b + 1) (omega arith) in omega arith);
    left = λ b h. (let a = z (b + 1) (omega arith) in let e = ap length (rest_all b) in omega arith);
  }

  pub counting_end : (s : List ℕ) → Counting n s → Counts ix standing n s
  counting_end s C = record {
    first = C.first;
    each = λ b h. (let a = C.left b h in let e : length (rest n b) ≡ 0 = ap length (rest-none b) in omega arith);
  }

  -- ---- one strip
  module _ (i lo hi : ℕ) (l : i < n) (A : lo ≡ bucket_in ix (strip_at standing i).x0) (B : hi ≡ bucket_in ix (strip_at standing i).x1) where
    pub strip-top : hi < buckets
    strip-top = let t = bucket_top ix (strip_at standing i).x1 in omega arith

    pub rest_in : (b : ℕ) → lo ≤ b → b ≤ hi → rest i b ≡ i ∷ rest (i + 1) b
    rest_in b h k =
        keep_on (λ j. covers ix (strip_at standing j) b) n i l
        ∙ ap (λ (m : List ℕ). m ++ rest (i + 1) b)
        (one_in (λ j. covers ix (strip_at standing j) b) i (covers_yes ix (strip_at standing i) b (omega arith) (omega arith)))

    rest_out : (b : ℕ) → (lo ≤ b → b ≤ hi → ⊥) → rest i b ≡ rest (i + 1) b
    rest_out b h =
        keep_on (λ j. covers ix (strip_at standing j) b) n i l
        ∙ ap (λ (m : List ℕ). m ++ rest (i + 1) b)
        (one_out (λ j. covers ix (strip_at standing j) b) i (covers_no ix (strip_at standing i) b (λ u v. h (omega arith) (omega arith))))

    module _ (s : List ℕ) where
      abbrev pub next : ℕ → ℕ
      next p = get_or (raised (hi + 1 - lo) lo s) p 0

      -- bucket b has the strip and its number goes up, or neither
      pub record Has (b : ℕ) : Type 0 where
        pub low : lo ≤ b
        pub high : b ≤ hi
        pub strip : rest i b ≡ i ∷ rest (i + 1) b
        pub up : next (b + 1) ≡ get_or s (b + 1) 0 + 1

      pub record Lacks (b : ℕ) : Type 0 where
        pub strip : rest i b ≡ rest (i + 1) b
        pub stays : next (b + 1) ≡ get_or s (b + 1) 0

      lacks : (b : ℕ) → (lo ≤ b → b ≤ hi → ⊥) → Lacks b
      lacks b f = record { strip = rest_out b f; stays = raised-out (hi + 1 - lo) lo s (b + 1) (λ u v. f (omega arith) (omega arith)) }

      pub turn : length s ≡ buckets + 1 → (b : ℕ) → b < buckets → Has b ⊎ Lacks b
      turn t b h = go (below_or_not b lo) (below_or_not hi b)
        where
          go : (b < lo) ⊎ (lo ≤ b) → (hi < b) ⊎ (b ≤ hi) → Has b ⊎ Lacks b
          go (inl u) v = inr (lacks b (λ p q. omega (arith, u, p)))
          go (inr u) (inl v) = inr (lacks b (λ p q. omega (arith, v, q)))
          go (inr u) (inr v) =
              inl (record { low = u; high = v; strip = rest_in b u v; up = raised_in (hi + 1 - lo) lo s (b + 1) (omega arith) (omega arith) (omega arith) })

      -- what is left falls as the number rises
      pub turn_left : length s ≡ buckets + 1 → (b : ℕ) → b < buckets → next (b + 1) + length (rest (i + 1) b) ≡ get_or s (b + 1) 0 + length (rest i b)
      turn_left t b h =
          elim (turn t b h) [
            | inl k ↦ let e : length (rest i b) ≡ suc (length (rest (i + 1) b)) = ap length k.strip in omega (arith, k.up)
            | inr k ↦ let e = ap length k.strip in omega (arith, k.stays)
          ]

      pub first-kept : next 0 ≡ get_or s 0 0
      first-kept = raised-out (hi + 1 - lo) lo s 0 (λ u v. omega (arith, u))

      pub table_kept : length (raised (hi + 1 - lo) lo s) ≡ length s
      table_kept = length-raised (hi + 1 - lo) lo s

      pub counting_on : Counting i s → Counting (i + 1) (raised (hi + 1 - lo) lo s)
      counting_on C = record {
        table = table_kept ∙ C.table;
        first = first-kept ∙ C.first;
        few = λ b h. (let a = C.few b h in elim (turn C.table b h) [ inl k ↦ omega (arith, a, k.up) | inr k ↦ omega (arith, a, k.stays) ]);
        left = λ b h. turn_left C.table b h ∙ C.left b h;
      }
