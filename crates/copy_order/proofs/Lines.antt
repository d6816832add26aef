-- Laws of the line of kinds whose first stands last. Assumes nothing.
use Prim.Native.Nat.{ℕ, zero, suc, ◌+◌, ◌-◌, ◌≤◌, ◌<◌}
use native.Mathlib.Omega.{arith}
use mathlib.Core.Path.{◌≡◌, refl, ap, sym, ◌∙◌, subst}
use mathlib.Core.Logic.{◌⊎◌}
use mathlib.Core.List.{List}
use mathlib.Core.Bool.{Bool, true, false}
use lib.ListN.{length, get_or, set}
use lib.Seq.{get_or-set_same, get_or-set_other}
use borrow.Author.Tests.{eqb-true, eqb-false}
use lib.Dec.{eqb}
use Rattle.slabs.specs.Slab.{up, insert, sort}
use Rattle.slabs.specs.inner.Tables.{down}
use Rattle.slabs.proofs.Sorting.{over, insert-step, insert-last, up_cons}

-- the number at place i of a line
abbrev pub at : List ℕ → ℕ → ℕ
at l i = get_or l i 0

module _ (l : List ℕ) (i x : ℕ) where
  below : (j : ℕ) → j < i → at (set l i x) j ≡ at l j
  below j h = get_or-set_other l i j x 0 (λ e. omega arith)

  above : (j : ℕ) → i < j → at (set l i x) j ≡ at l j
  above j h = get_or-set_other l i j x 0 (λ e. omega arith)

-- what f says of a line, where the order is on what f says
module _ {A : Type 0} (first : A → A → Bool) (f : ℕ → A) where
  pub insert-number : (l : List ℕ) (n k : ℕ) (c : A) → 0 < k → k ≤ n → n < length l → first (f (at l (k - 1))) c ≡ true
      → over (λ (i : ℕ). f (at (set l k (at l (k - 1))) i)) (k - 1) (n - (k - 1)) (insert first c (down (λ (i : ℕ). f (at (set l k (at l (k - 1))) i)) (k - 1))) ≡ over (λ (i : ℕ). f (at l i)) k (n - k) (insert first c (down (λ (i : ℕ). f (at l i)) k))
  insert-number l n k c p h len t =
      insert-step first (λ (i : ℕ). f (at l i)) (λ (i : ℕ). f (at (set l k (at l (k - 1))) i)) c k n p h
      (λ i q. ap f (below l k (at l (k - 1)) i q)) (λ i q. ap f (above l k (at l (k - 1)) i q))
      (ap f (get_or-set_same l k (at l (k - 1)) 0 (omega arith))) t

  pub insert-number-last : (l : List ℕ) (n k x : ℕ) → k ≤ n → n < length l → (k ≡ 0) ⊎ (first (f (at l (k - 1))) (f x) ≡ false)
      → down (λ (i : ℕ). f (at (set l k x) i)) (n + 1) ≡ over (λ (i : ℕ). f (at l i)) k (n - k) (insert first (f x) (down (λ (i : ℕ). f (at l i)) k))
  insert-number-last l n k x h len t =
      insert-last first (λ (i : ℕ). f (at l i)) (λ (i : ℕ). f (at (set l k x) i)) (f x) k n h
      (λ i q. ap f (below l k x i q)) (λ i q. ap f (above l k x i q)) (ap f (get_or-set_same l k x 0 (omega arith))) t

-- every number of the line stays under m where one under m is put
pub put_under : (l : List ℕ) (m n k x : ℕ) → x < m → ((i : ℕ) → i < n → (i ≡ k → ⊥) → at l i < m) → k < length l → (i : ℕ) → i < n → at (set l k x) i < m
put_under l m n k x h g len i q = go (eqb i k) refl
  where
    go : (t : Bool) → eqb i k ≡ t → at (set l k x) i < m
    go true e = let s : i ≡ k = eqb-true i k e in subst (λ (v : ℕ). at (set l k x) v < m) (sym s) (subst (λ (v : ℕ). v < m) (sym (get_or-set_same l k x 0 len)) h)
    go false e = subst (λ (v : ℕ). v < m) (sym (get_or-set_other l k i x 0 (eqb-false i k e))) (g i q (eqb-false i k e))

-- ---- the kinds from k on are sorted
module _ {A : Type 0} (first : A → A → Bool) (g : ℕ → A) where
  pub sorted_none : (f : ℕ → A) (n : ℕ) → down f (n - n) ≡ sort first (up g n (n - n))
  unfolding down up sort
  sorted_none f n = let z : n - n ≡ 0 = omega arith in rw z

  pub sorted_more : (f f' : ℕ → A) (k n : ℕ) → 0 < k → k ≤ n → down f' (n - (k - 1) - 1 + 1) ≡ insert first (g (k - 1)) (down f (n - (k - 1) - 1)) → down f (n - k) ≡ sort first (up g k (n - k)) → down f' (n - (k - 1)) ≡ sort first (up g (k - 1) (n - (k - 1)))
  unfolding sort
  sorted_more f f' k n p h e inv =
      let m : n - (k - 1) - 1 + 1 ≡ n - (k - 1) = omega arith in
      let o : n - (k - 1) - 1 ≡ n - k = omega arith in
      ap (down f') (sym m)
      ∙ (e
      ∙ (ap (λ (i : ℕ). insert first (g (k - 1)) (down f i)) o
      ∙ (ap (insert first (g (k - 1))) inv
      ∙ ap (sort first) (sym (up_cons g k n p h)))))

  pub sorted_all : (f : ℕ → A) (k n : ℕ) → k ≤ 0 → down f (n - k) ≡ sort first (up g k (n - k)) → down f n ≡ sort first (up g 0 n)
  sorted_all f zero n h e = let z : n - 0 ≡ n = omega arith in subst (λ (i : ℕ). down f i ≡ sort first (up g 0 i)) z e
  sorted_all f (suc k) n h e = absurd (omega arith)
