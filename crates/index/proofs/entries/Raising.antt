-- Numbers of buckets, that of bucket b at b + 1: each of a range one more; their sums. Assumes nothing.
use Prim.Native.Nat.{ℕ, zero, suc, ◌+◌, ◌-◌, ◌<◌, ◌≤◌}
use native.Mathlib.Omega.{arith}
use native.Mathlib.Nat.{le_refl}
use native.Mathlib.Numerals.{add-one}
use mathlib.Core.Path.{◌≡◌, refl, sym, ap, ◌∙◌, subst}
use mathlib.Core.Logic.{◌⊎◌, inl, inr}
use mathlib.Core.List.{List}
use lib.ListN.{length, get_or, set, length-set}
use lib.Seq.{get_or-set_same, get_or-set_other}
use Rattle.numbers.proofs.Truth.{below_or_not}
use Rattle.index.specs.entries.inner.Cursors.{raised, sum_of}

-- ---- a range raised
pub length-raised : (c b : ℕ) (s : List ℕ) → length (raised c b s) ≡ length s
unfolding raised
length-raised zero b s = refl
length-raised (suc c) b s = length-raised c (suc b) (set s (b + 1) (get_or s (b + 1) 0 + 1)) ∙ length-set s (b + 1) (get_or s (b + 1) 0 + 1)

pub raised-out : (c b : ℕ) (s : List ℕ) (p : ℕ) → (b < p → p ≤ b + c → ⊥) → get_or (raised c b s) p 0 ≡ get_or s p 0
unfolding raised
raised-out zero b s p h = refl
raised-out (suc c) b s p h =
    raised-out c (suc b) (set s (b + 1) (get_or s (b + 1) 0 + 1)) p (λ u v. h (omega arith) (omega arith))
    ∙ get_or-set_other s (b + 1) p (get_or s (b + 1) 0 + 1) 0 (λ q. h (omega (arith, q)) (omega (arith, q)))

pub raised_in : (c b : ℕ) (s : List ℕ) (p : ℕ) → b < p → p ≤ b + c → p < length s → get_or (raised c b s) p 0 ≡ get_or s p 0 + 1
unfolding raised
raised_in zero b s p h l w = absurd (omega arith)
raised_in (suc c) b s p h l w =
    elim (below_or_not (b + 1) p) [
      | inl a ↦
          raised_in c (suc b) (set s (b + 1) (get_or s (b + 1) 0 + 1)) p (omega arith) (omega arith) (simp length-set w)
          ∙ ap (λ (k : ℕ). k + 1) (get_or-set_other s (b + 1) p (get_or s (b + 1) 0 + 1) 0 (λ q. omega (arith, q)))
      | inr a ↦
          let q : b + 1 ≡ p = omega arith in
          raised-out c (suc b) (set s (b + 1) (get_or s (b + 1) 0 + 1)) p (λ u v. omega (arith, u))
          ∙ subst (λ (k : ℕ). get_or (set s (b + 1) (get_or s (b + 1) 0 + 1)) k 0 ≡ get_or s k 0 + 1) q
          (get_or-set_same s (b + 1) (get_or s (b + 1) 0 + 1) 0 (omega arith))
    ]

-- the loop over the range
pub raised_on : (hi b : ℕ) (s : List ℕ) → b ≤ hi → raised (hi + 1 - b) b s ≡ raised (hi + 1 - (b + 1)) (b + 1) (set s (b + 1) (get_or s (b + 1) 0 + 1))
unfolding raised
raised_on hi b s h =
    let q : hi + 1 - b ≡ suc (hi + 1 - (b + 1)) = omega arith in
    ap (λ (k : ℕ). raised k b s) q ∙ ap (λ (k : ℕ). raised (hi + 1 - (b + 1)) k (set s (b + 1) (get_or s (b + 1) 0 + 1))) (sym (add-one b))

pub raised-end : (hi b : ℕ) (s : List ℕ) → hi < b → raised (hi + 1 - b) b s ≡ s
unfolding raised
raised-end hi b s h = let q : hi + 1 - b ≡ 0 = omega arith in ap (λ (k : ℕ). raised k b s) q

-- ---- sums
pub sum-none : (counts : List ℕ) → sum_of counts 0 ≡ 0
unfolding sum_of
sum-none counts = refl

pub sum-next : (counts : List ℕ) (b : ℕ) → sum_of counts (b + 1) ≡ sum_of counts b + get_or counts (b + 1) 0
unfolding sum_of
sum-next counts b = ap (sum_of counts) (add-one b)

pub sum-rise : (counts : List ℕ) (b c : ℕ) → b ≤ c → sum_of counts b ≤ sum_of counts c
sum-rise counts b zero h = let e : b ≡ 0 = omega arith in rw e (le_refl (sum_of counts 0))
sum-rise counts b (suc c) h =
    elim (below_or_not c b) [
      | inl l ↦ let e : b ≡ suc c = omega arith in rw e (le_refl (sum_of counts (suc c)))
      | inr l ↦
          let i = sum-rise counts b c l in
          let s = sum-next counts c in
          subst (λ (k : ℕ). sum_of counts b ≤ sum_of counts k) (add-one c) (omega arith)
    ]

-- the first b numbers are the sums of what stood before them
pub record Summed (before : List ℕ) (b : ℕ) (after : List ℕ) : Type 0 where
  pub table : length after ≡ length before
  pub first : get_or after 0 0 ≡ get_or before 0 0
  pub done : (c : ℕ) → c < b → get_or after (c + 1) 0 ≡ sum_of before c
  pub left : (c : ℕ) → b ≤ c → get_or after (c + 1) 0 ≡ get_or before (c + 1) 0

pub summed-none : (before : List ℕ) → Summed before 0 before
summed-none before = record { table = refl; first = refl; done = λ c l. absurd (omega arith); left = λ c l. refl }

pub summed_on : (before : List ℕ) (b v : ℕ) (after : List ℕ) → b + 1 < length before → v ≡ sum_of before b → Summed before b after
    → Summed before (b + 1) (set after (b + 1) v)
summed_on before b v after w e S =
    record {
      table = length-set after (b + 1) v ∙ S.table;
      first = get_or-set_other after (b + 1) 0 v 0 (λ q. omega (arith, q)) ∙ S.first;
      done = λ c l. done c l (below_or_not c b);
      left = λ c l. get_or-set_other after (b + 1) (c + 1) v 0 (λ q. omega (arith, q)) ∙ S.left c (omega arith);
    }
  where
    done : (c : ℕ) → c < b + 1 → (c < b) ⊎ (b ≤ c) → get_or (set after (b + 1) v) (c + 1) 0 ≡ sum_of before c
    done c l (inl a) = get_or-set_other after (b + 1) (c + 1) v 0 (λ q. omega (arith, q)) ∙ S.done c a
    done c l (inr a) =
        let q : b ≡ c = omega arith in
        subst (λ (k : ℕ). get_or (set after (b + 1) v) (k + 1) 0 ≡ sum_of before k) q
        (get_or-set_same after (b + 1) v 0 (let t = S.table in omega arith) ∙ e)

-- ---- a table set to one value from `first` on
pub cleared_to : (m : List ℕ) (first b v : ℕ) → b < length m → ((d : ℕ) → first ≤ d → d < b → get_or m d 0 ≡ v) → (d : ℕ) → first ≤ d → d < b + 1 → get_or
    (set m b v) d 0 ≡ v
cleared_to m first b v w z d h l = go (below_or_not d b)
  where
    early : d < b → d ≡ b → ⊥
    early a q = omega arith

    go : (d < b) ⊎ (b ≤ d) → get_or (set m b v) d 0 ≡ v
    go (inl a) = get_or-set_other m b d v 0 (λ q. early a q) ∙ z d h a
    go (inr a) = let q : b ≡ d = omega arith in subst (λ (k : ℕ). get_or (set m b v) k 0 ≡ v) q (get_or-set_same m b v 0 w)
