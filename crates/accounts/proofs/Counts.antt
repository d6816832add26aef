-- Counts by kind: one turn of each loop that works them out, and their bounds. Assumes nothing.
use Rattle.std.proofs.Common.{◌≡◌, ℕ, zero, suc, ◌+◌, ◌-◌, ◌<◌, ◌≤◌, true, false, ltb, ◌⊎◌, List, length, get_or, set, replicate, sym, refl, ap, ◌∙◌, inl, inr, add-one, arith, length-set, get_or-set_other, get_or-set_same, le-ltb, lt-ltb, eq-eqb, ne_eqb}
use mir.Val.{bool_byte}
use mathlib.Core.Bool.{not}
use lib.Dec.{eqb}
use lib.ListN.{length-replicate, get_or-replicate}
use Rattle.numbers.proofs.Truth.{either, below_or_not, same_or_not}
use Rattle.index.proofs.Flat.{get_d_up_from}
use Rattle.filling.proofs.Reading.{up_from_list}
use Rattle.accounts.specs.inner.Counting.{stands, misses, sum_to, count_if, kind_to, by_kind, starts_by}

-- ---- one copy

pub stands-none : (n : ℕ) → n ≡ 0 → 0 ≡ stands n
unfolding stands
stands-none n e = rw e

pub stands-some : (n : ℕ) → (n ≡ 0 → ⊥) → 1 ≡ stands n
unfolding stands
stands-some zero h = absurd (h refl)
stands-some (suc n) h = refl

pub stands_is : (n : ℕ) → bool_byte (not (eqb n 0)) ≡ stands n
unfolding stands
stands_is zero = refl
stands_is (suc n) = rw (ne_eqb (suc n) 0 (λ q. absurd (omega arith)))

pub stands-most : (n : ℕ) → stands n ≤ 1
unfolding stands
stands-most zero = omega arith
stands-most (suc n) = omega arith

pub misses-rest : (n : ℕ) → 1 - stands n ≡ misses n
unfolding stands misses
misses-rest zero = refl
misses-rest (suc n) = refl

pub misses-most : (n : ℕ) → misses n ≤ 1
unfolding misses
misses-most zero = omega arith
misses-most (suc n) = omega arith

-- ---- sums

pub sum-none : (f : ℕ → ℕ) → 0 ≡ sum_to f 0
unfolding sum_to
sum-none f = refl

pub sum-next : (f : ℕ → ℕ) (n : ℕ) → sum_to f (n + 1) ≡ sum_to f n + f n
unfolding sum_to
sum-next f n = rw (add-one n)

pub sum-rise : (f : ℕ → ℕ) (m n : ℕ) → m ≤ n → sum_to f m ≤ sum_to f n
unfolding sum_to
sum-rise f m zero h = let e : m ≡ 0 = omega arith in rw e (omega arith)
sum-rise f m (suc n) h = elim (below_or_not m (suc n)) [
  | inl l ↦ let r = sum-rise f m n (omega arith) in omega arith
  | inr l ↦ let q : m ≡ suc n = omega arith in rw q (omega arith)
]

pub sum-few : (f : ℕ → ℕ) (n : ℕ) → ((i : ℕ) → f i ≤ 1) → sum_to f n ≤ n
unfolding sum_to
sum-few f zero h = omega arith
sum-few f (suc n) h = let a = sum-few f n h in let b = h n in omega arith

pub sum_same : (f g : ℕ → ℕ) (n : ℕ) → ((i : ℕ) → i < n → f i ≡ g i) → sum_to f n ≡ sum_to g n
unfolding sum_to
sum_same f g zero h = refl
sum_same f g (suc n) h = let a = sum_same f g n (λ i l. h i (omega arith)) in let b = h n (omega arith) in omega arith

-- ---- by kind

module _ (f : ℕ → ℕ) (order : List ℕ) where
  pub kind-here : (n : ℕ) → kind_to f order (get_or order n 0) (n + 1) ≡ kind_to f order (get_or order n 0) n + f n
  unfolding kind_to count_if
  kind-here n = rw (add-one n, eq-eqb (get_or order n 0) (get_or order n 0) refl)

  pub kind-other : (k n : ℕ) → (k ≡ get_or order n 0 → ⊥) → kind_to f order k (n + 1) ≡ kind_to f order k n
  unfolding kind_to count_if
  kind-other k n h = rw (add-one n, ne_eqb (get_or order n 0) k (λ e. h (sym e))) (omega arith)

  pub kind-rise : (k m n : ℕ) → m ≤ n → kind_to f order k m ≤ kind_to f order k n
  unfolding kind_to
  kind-rise k m zero h = let e : m ≡ 0 = omega arith in rw e (omega arith)
  kind-rise k m (suc n) h = elim (below_or_not m (suc n)) [
    | inl l ↦ let r = kind-rise k m n (omega arith) in omega arith
    | inr l ↦ let q : m ≡ suc n = omega arith in rw q (omega arith)
  ]

  pub kind-most : (k n : ℕ) → ((i : ℕ) → f i ≤ 1) → kind_to f order k n ≤ n
  unfolding kind_to count_if
  kind-most k zero h = omega arith
  kind-most k (suc n) h = elim (same_or_not (get_or order n 0) k) [
    | inl e ↦ rw (eq-eqb (get_or order n 0) k e) (let a = kind-most k n h in let b = h n in omega arith)
    | inr e ↦ rw (ne_eqb (get_or order n 0) k e) (let a = kind-most k n h in omega arith)
  ]

  -- of all kinds together no more than of all copies
  kinds-step : (m n : ℕ) → sum_to (λ k. kind_to f order k (suc n)) m ≡ sum_to (λ k. kind_to f order k n) m + count_if (ltb (get_or order n 0) m) (f n)
  unfolding sum_to kind_to count_if
  kinds-step zero n = rw (le-ltb (get_or order n 0) 0 (omega arith))
  kinds-step (suc m) n = elim (below_or_not (get_or order n 0) m) [
    | inl l ↦ rw (kinds-step m n, lt-ltb (get_or order n 0) m l, ne_eqb (get_or order n 0) m (λ e. omega arith), lt-ltb (get_or order n 0) (suc m) (omega arith)) (omega arith)
    | inr l ↦ elim (below_or_not m (get_or order n 0)) [
      | inl o ↦ rw (kinds-step m n, le-ltb (get_or order n 0) m l, ne_eqb (get_or order n 0) m (λ e. omega arith), le-ltb (get_or order n 0) (suc m) o) (omega arith)
      | inr o ↦ rw (kinds-step m n, le-ltb (get_or order n 0) m l, eq-eqb (get_or order n 0) m (omega arith), lt-ltb (get_or order n 0) (suc m) (omega arith)) (omega arith)
    ]
  ]

  pub kinds_few : (m n : ℕ) → sum_to (λ k. kind_to f order k n) m ≤ sum_to f n
  unfolding sum_to kind_to count_if
  kinds_few m zero = none m
    where
      none : (m : ℕ) → sum_to (λ k. 0) m ≤ 0
      none zero = omega arith
      none (suc m) = let a = none m in omega arith
  kinds_few m (suc n) = go (either (ltb (get_or order n 0) m)) (kinds_few m n) (kinds-step m n)
    where
      go : (ltb (get_or order n 0) m ≡ true) ⊎ (ltb (get_or order n 0) m ≡ false) → sum_to (λ k. kind_to f order k n) m ≤ sum_to f n → sum_to (λ k. kind_to f order k (suc n)) m ≡ sum_to (λ k. kind_to f order k n) m + count_if (ltb (get_or order n 0) m) (f n) → sum_to (λ k. kind_to f order k (suc n)) m ≤ sum_to f n + f n
      go (inl e) a b = let b' = rw e at b in omega arith
      go (inr e) a b = let b' = rw e at b in omega arith

  -- ---- a table of counts

  pub record Counted (t : List ℕ) (n : ℕ) : Type 0 where
    pub long : length t ≡ 64
    pub count : (k : ℕ) → k < 64 → get_or t k 0 ≡ kind_to f order k n

  pub counted_none : (t : List ℕ) → t ≡ replicate 64 0 → Counted t 0
  unfolding kind_to
  counted_none t e = rw e (record { long = length-replicate {A = ℕ} 64 0; count = λ k h. get_or-replicate {A = ℕ} 64 k 0 0 h })

  pub counted_next : (t : List ℕ) (n s : ℕ) → Counted t n → get_or order n 0 < 64 → s ≡ f n → Counted (set t (get_or order n 0) (get_or t (get_or order n 0) 0 + s)) (n + 1)
  counted_next t n s c h e =
      record {
        long = length-set t (get_or order n 0) (get_or t (get_or order n 0) 0 + s) ∙ c.long;
        count = λ k l. elim (same_or_not k (get_or order n 0)) [
          | inl q ↦ rw q (get_or-set_same t (get_or order n 0) (get_or t (get_or order n 0) 0 + s) 0 (let z = c.long in omega arith) ∙ (let a = c.count (get_or order n 0) h in let b = kind-here n in omega arith))
          | inr q ↦ get_or-set_other t (get_or order n 0) k (get_or t (get_or order n 0) 0 + s) 0 q ∙ (c.count k l ∙ sym (kind-other k n q))
        ];
      }

  pub counted-most : (t : List ℕ) (n : ℕ) → Counted t n → ((i : ℕ) → f i ≤ 1) → (k : ℕ) → k < 64 → get_or t k 0 ≤ n
  counted-most t n c h k l = let a = c.count k l in let b = kind-most k n h in omega arith

  pub counted-table : (t : List ℕ) (n : ℕ) → Counted t n → t ≡ by_kind (λ k. kind_to f order k n)
  counted-table t n c = sym (up_from_list (λ k. kind_to f order k n) t 64 0 c.long (λ k h. sym (c.count k h)))

-- ---- where each kind starts

pub starts-next : (t : List ℕ) (k sum : ℕ) (f : ℕ → ℕ) → k < length t → sum ≡ sum_to f k → ((q : ℕ) → q < k → get_or t q 0 ≡ sum_to f q) → (q : ℕ) → q < k + 1 → get_or (set t k sum) q 0 ≡ sum_to f q
starts-next t k sum f h e u q l = elim (same_or_not q k) [
  | inl z ↦ rw z (get_or-set_same t k sum 0 h ∙ e)
  | inr z ↦ get_or-set_other t k q sum 0 z ∙ u q (elim (below_or_not q k) [ inl m ↦ m | inr m ↦ absurd (z (omega arith)) ])
]

pub starts-table : (t : List ℕ) (f : ℕ → ℕ) → length t ≡ 64 → ((q : ℕ) → q < 64 → get_or t q 0 ≡ sum_to f q) → t ≡ starts_by f
starts-table t f e u = sym (up_from_list (sum_to f) t 64 0 e (λ q h. sym (u q h)))

pub at_kind : (f : ℕ → ℕ) (k : ℕ) → k < 64 → get_or (by_kind f) k 0 ≡ f k
at_kind f k h = get_d_up_from f 64 0 k 0 h ∙ ap f (omega arith)
