-- Two sorted lists merged are the sorted list of both, and a merge from the ends of two tables whose first stands last. Assumes nothing.
use Prim.Native.Nat.{ℕ, zero, suc, ◌+◌, ◌-◌, ◌≤◌, ◌<◌}
use native.Mathlib.Omega.{arith}
use mathlib.Core.Path.{◌≡◌, refl, sym, ap, ◌∙◌}
use mathlib.Core.Logic.{◌⊎◌, inl, inr}
use mathlib.Core.List.{List, [], ◌∷◌, ◌++◌}
use mathlib.Core.Bool.{Bool, true, false}
use Rattle.numbers.proofs.Truth.{either}
use Rattle.slabs.specs.Slab.{up, insert, sort}
use Rattle.slabs.specs.inner.Tables.{down, merge}
use Rattle.slabs.proofs.Sorting.{insert_on, insert-here, down_ext, down-suc, down-zero}

-- what holds of each of a list
abbrev pub All : {A : Type 0} → (A → Type 0) → List A → Type 0
All P [] = Unit {0}
All P (a ∷ l) = P a × All P l

-- a strict weak order on what P holds of
pub record Order {A : Type 0} (first : A → A → Bool) (P : A → Type 0) : Type 0 where
  pub through : (a b c : A) → P a → P b → P c → first a b ≡ true → first b c ≡ true → first a c ≡ true
  pub past : (a b c : A) → P a → P b → P c → first a c ≡ true → first b c ≡ false → first a b ≡ true

module _ {A : Type 0} (first : A → A → Bool) where
  pub merge-right : (a b : A) (l r : List A) → first b a ≡ true → merge first (a ∷ l) (b ∷ r) ≡ b ∷ merge first (a ∷ l) r
  unfolding merge
  merge-right a b l r e = rw (e, merge)

  pub merge-left : (a b : A) (l r : List A) → first b a ≡ false → merge first (a ∷ l) (b ∷ r) ≡ a ∷ merge first l (b ∷ r)
  unfolding merge
  merge-left a b l r e = rw (e, merge)

  pub merge_none : (l : List A) → merge first l [] ≡ l
  unfolding merge
  merge_none [] = refl
  merge_none (a ∷ l) = refl

  pub none-merge : (l : List A) → merge first [] l ≡ l
  unfolding merge
  none-merge l = refl

module _ {A : Type 0} (first : A → A → Bool) (P : A → Type 0) (O : Order first P) where
  insert-both : (x a b : A) (l r : List A) → P x → P a → P b → merge first (insert first x l) (b ∷ r) ≡ insert first x (merge first l (b ∷ r)) → merge first (insert first x (a ∷ l)) r ≡ insert first x (merge first (a ∷ l) r)
      → merge first (insert first x (a ∷ l)) (b ∷ r) ≡ insert first x (merge first (a ∷ l) (b ∷ r))
  insert-both x a b l r px pa pb il ir = elim (either (first a x)) [
    | inl p ↦ elim (either (first b a)) [
      | inl q ↦
          let e = insert_on first x a l p in
          ap (λ (t : List A). merge first t (b ∷ r)) e ∙ merge-right first a b (insert first x l) r q
          ∙ ap (λ (t : List A). b ∷ t) (ap (λ (t : List A). merge first t r) (sym e) ∙ ir)
          ∙ sym (ap (insert first x) (merge-right first a b l r q) ∙ insert_on first x b (merge first (a ∷ l) r) (O.through b a x pb pa px q p))
      | inr q ↦
          ap (λ (t : List A). merge first t (b ∷ r)) (insert_on first x a l p) ∙ merge-left first a b (insert first x l) r q ∙ ap (λ (t : List A). a ∷ t) il
          ∙ sym (ap (insert first x) (merge-left first a b l r q) ∙ insert_on first x a (merge first l (b ∷ r)) p)
    ]
    | inr p ↦ elim (either (first b x)) [
      | inl q ↦
          let e = insert-here first x a l p in
          let t = O.past b a x pb pa px q p in
          ap (λ (t : List A). merge first t (b ∷ r)) e ∙ merge-right first x b (a ∷ l) r q
          ∙ ap (λ (t : List A). b ∷ t) (ap (λ (t : List A). merge first t r) (sym e) ∙ ir)
          ∙ sym (ap (insert first x) (merge-right first a b l r t) ∙ insert_on first x b (merge first (a ∷ l) r) q)
      | inr q ↦ ap (λ (t : List A). merge first t (b ∷ r)) (insert-here first x a l p) ∙ merge-left first x b (a ∷ l) r q ∙ sym (before-both x a b l r p q)
    ]
  ]
    where
      before-both : (x a b : A) (l r : List A) → first a x ≡ false → first b x ≡ false → insert first x (merge first (a ∷ l) (b ∷ r)) ≡ x ∷ merge first (a ∷ l) (b ∷ r)
      before-both x a b l r p q = elim (either (first b a)) [
        | inl t ↦ ap (insert first x) (merge-right first a b l r t) ∙ insert-here first x b (merge first (a ∷ l) r) q ∙ ap (λ (t : List A). x ∷ t) (sym (merge-right first a b l r t))
        | inr t ↦ ap (insert first x) (merge-left first a b l r t) ∙ insert-here first x a (merge first l (b ∷ r)) p ∙ ap (λ (t : List A). x ∷ t) (sym (merge-left first a b l r t))
      ]

  insert-one : (x b : A) (r : List A) → merge first (x ∷ []) r ≡ insert first x r → merge first (x ∷ []) (b ∷ r) ≡ insert first x (b ∷ r)
  insert-one x b r i = elim (either (first b x)) [
    | inl q ↦ merge-right first x b [] r q ∙ ap (λ (t : List A). b ∷ t) i ∙ sym (insert_on first x b r q)
    | inr q ↦ merge-left first x b [] r q ∙ ap (λ (t : List A). x ∷ t) (none-merge first (b ∷ r)) ∙ sym (insert-here first x b r q)
  ]

  insert_nil : (x : A) → insert first x [] ≡ x ∷ []
  unfolding insert
  insert_nil x = refl

  pub merge-insert : (x : A) (l r : List A) → P x → All P l → All P r → merge first (insert first x l) r ≡ insert first x (merge first l r)
  merge-insert x [] [] px pl pr = merge_none first (insert first x []) ∙ ap (insert first x) (sym (merge_none first []))
  merge-insert x [] (b ∷ r) px pl pr =
      ap (λ (t : List A). merge first t (b ∷ r)) (insert_nil x)
      ∙ insert-one x b r (ap (λ (t : List A). merge first t r) (sym (insert_nil x)) ∙ merge-insert x [] r px pl pr.1 ∙ ap (insert first x) (none-merge first r))
      ∙ ap (insert first x) (sym (none-merge first (b ∷ r)))
  merge-insert x (a ∷ l) [] px pl pr = merge_none first (insert first x (a ∷ l)) ∙ ap (insert first x) (sym (merge_none first (a ∷ l)))
  merge-insert x (a ∷ l) (b ∷ r) px pl pr = insert-both x a b l r px pl.0 pr.0 (merge-insert x l (b ∷ r) px pl.1 pr) (merge-insert x (a ∷ l) r px pl pr.1)

  insert_all : (x : A) (l : List A) → P x → All P l → All P (insert first x l)
  unfolding insert
  insert_all x [] px pl = (px, tt)
  insert_all x (b ∷ l) px pl = go (first b x) (insert_all x l px pl.1)
    where
      go : (t : Bool) → All P (insert first x l) → All P (elim t [ true ↦ b ∷ insert first x l | false ↦ x ∷ b ∷ l ])
      go true i = (pl.0, i)
      go false i = (px, pl)

  pub sort_all : (l : List A) → All P l → All P (sort first l)
  unfolding sort
  sort_all [] pl = tt
  sort_all (a ∷ l) pl = insert_all a (sort first l) pl.0 (sort_all l pl.1)

  pub merge-sort : (l r : List A) → All P l → All P r → merge first (sort first l) (sort first r) ≡ sort first (l ++ r)
  unfolding sort
  merge-sort [] r pl pr = none-merge first (sort first r)
  merge-sort (a ∷ l) r pl pr = merge-insert a (sort first l) (sort first r) pl.0 (sort_all l pl.1) (sort_all r pr) ∙ ap (insert first a) (merge-sort l r pl.1 pr)

module _ {A : Type 0} where
  -- f (k + n - 1), .., f k, then rest
  unfoldable pub above : (ℕ → A) → ℕ → ℕ → List A → List A
  above f k zero rest = rest
  above f k (suc n) rest = f (k + n) ∷ above f k n rest

  pub above_ext : (f g : ℕ → A) (k n : ℕ) (rest : List A) → ((i : ℕ) → k ≤ i → g i ≡ f i) → above g k n rest ≡ above f k n rest
  unfolding above
  above_ext f g k zero rest h = refl
  above_ext f g k (suc n) rest h = rw (h (k + n) (omega arith), above_ext f g k n rest h)

  pub above_snoc : (f : ℕ → A) (k n : ℕ) (rest : List A) → above f k (suc n) rest ≡ above f (suc k) n (f k ∷ rest)
  unfolding above
  above_snoc f k zero rest = let e : k + 0 ≡ k = omega arith in rw e
  above_snoc f k (suc n) rest = let e : k + suc n ≡ suc k + n = omega arith in ap (λ (l : List A). f (k + suc n) ∷ l) (above_snoc f k n rest) ∙ ap (λ (i : ℕ). f i ∷ above f (suc k) n (f k ∷ rest)) e

  -- v stands at k
  above-put : (f g : ℕ → A) (k n : ℕ) (v : A) (rest : List A) → ((i : ℕ) → k < i → g i ≡ f i) → g k ≡ v → above g k (suc n) rest ≡ above f (suc k) n (v ∷ rest)
  above-put f g k n v rest h e = above_snoc g k n rest ∙ rw (e, above_ext f g (suc k) n (v ∷ rest) (λ i l. h i (omega arith)))

  pub down-above : (f : ℕ → A) (k n : ℕ) → above f k n (down f k) ≡ down f (k + n)
  unfolding above
  down-above f k zero = let e : k + 0 ≡ k = omega arith in rw e
  down-above f k (suc n) = let e : k + suc n ≡ suc (k + n) = omega arith in ap (λ (l : List A). f (k + n) ∷ l) (down-above f k n) ∙ (sym (down-suc f (k + n)) ∙ ap (down f) (sym e))

  module _ (first : A → A → Bool) (f g h : ℕ → A) (i j t : ℕ) (p : 0 < j) (room : i + j ≤ t) (low : (k : ℕ) → k < i + j - 1 → g k ≡ f k) (high : (k : ℕ) → i + j - 1 < k → g k ≡ f k) where
    -- the next is the table's own, and goes up by j
    pub merge_up : 0 < i → first (f (i - 1)) (h (j - 1)) ≡ true → g (i + j - 1) ≡ f (i - 1)
        → above g (i - 1 + j) (t - (i - 1 + j)) (merge first (down h j) (down g (i - 1))) ≡ above f (i + j) (t - (i + j)) (merge first (down h j) (down f i))
    merge_up q e v = go (i - 1) (j - 1) (omega arith) (omega arith) e v
      where
        go : (a b : ℕ) → i ≡ suc a → j ≡ suc b → first (f a) (h b) ≡ true → g (i + j - 1) ≡ f a → above g (a + j) (t - (a + j)) (merge first (down h j) (down g a)) ≡ above f (i + j) (t - (i + j)) (merge first (down h j) (down f i))
        go a b ei ej e' v' =
            let s : t - (a + j) ≡ suc (t - (i + j)) = omega arith in
            let k : i + j ≡ suc (a + j) = omega arith in
            let z : i + j - 1 ≡ a + j = omega arith in
            rw s (above-put f g (a + j) (t - (i + j)) (f a) (merge first (down h j) (down g a)) (λ x l. high x (omega arith)) (rw z at v')
            ∙ (rw (down_ext f g a (λ x l. low x (omega arith))) (ap (λ (x : ℕ). above f x (t - (i + j)) (f a ∷ merge first (down h j) (down f a))) (sym k)
            ∙ ap (above f (i + j) (t - (i + j))) (sym (rw (ei, ej, down-suc f a, down-suc h b) (merge-right first (h b) (f a) (down h b) (down f a) e'))))))

    -- the next is the other table's last
    pub merge-down : (i ≡ 0) ⊎ (first (f (i - 1)) (h (j - 1)) ≡ false) → g (i + j - 1) ≡ h (j - 1)
        → above g (i + (j - 1)) (t - (i + (j - 1))) (merge first (down h (j - 1)) (down g i)) ≡ above f (i + j) (t - (i + j)) (merge first (down h j) (down f i))
    merge-down e v = go (j - 1) (omega arith) (taken e) v
      where
        taken : (i ≡ 0) ⊎ (first (f (i - 1)) (h (j - 1)) ≡ false) → (b : ℕ) → j ≡ suc b → merge first (down h j) (down f i) ≡ h b ∷ merge first (down h b) (down f i)
        taken (inl z) b ej = rw (ej, z, down-suc h b, down-zero f) (merge_none first (h b ∷ down h b) ∙ ap (λ (l : List A). h b ∷ l) (sym (merge_none first (down h b))))
        taken (inr w) b ej = at i b ej w
          where
            at : (x b : ℕ) → j ≡ suc b → first (f (x - 1)) (h (j - 1)) ≡ false → merge first (down h j) (down f x) ≡ h b ∷ merge first (down h b) (down f x)
            at zero b ej w = rw (ej, down-suc h b, down-zero f) (merge_none first (h b ∷ down h b) ∙ ap (λ (l : List A). h b ∷ l) (sym (merge_none first (down h b))))
            at (suc a) b ej w =
                let d : suc a - 1 ≡ a = omega arith in
                let c : j - 1 ≡ b = omega arith in
                rw (ej, down-suc f a, down-suc h b) (merge-left first (h b) (f a) (down h b) (down f a) (rw (d, c) at w))

        go : (b : ℕ) → j ≡ suc b → ((b : ℕ) → j ≡ suc b → merge first (down h j) (down f i) ≡ h b ∷ merge first (down h b) (down f i)) → g (i + j - 1) ≡ h b → above g (i + b) (t - (i + b)) (merge first (down h b) (down g i)) ≡ above f (i + j) (t - (i + j)) (merge first (down h j) (down f i))
        go b ej m v' =
            let s : t - (i + b) ≡ suc (t - (i + j)) = omega arith in
            let k : i + j ≡ suc (i + b) = omega arith in
            let z : i + j - 1 ≡ i + b = omega arith in
            rw s (above-put f g (i + b) (t - (i + j)) (h b) (merge first (down h b) (down g i)) (λ x l. high x (omega arith)) (rw z at v')
            ∙ (rw (down_ext f g i (λ x l. low x (omega arith))) (ap (λ (x : ℕ). above f x (t - (i + j)) (h b ∷ merge first (down h b) (down f i))) (sym k)
            ∙ ap (above f (i + j) (t - (i + j))) (sym (m b ej)))))

-- ---- lists that go up
pub up_split : {A : Type 0} (f : ℕ → A) (i m n : ℕ) → up f i (m + n) ≡ up f i m ++ up f (i + m) n
unfolding up
up_split f i zero n = let e : 0 + n ≡ n = omega arith in let z : i + 0 ≡ i = omega arith in rw (e, z)
up_split {A = A} f i (suc m) n = let e : suc m + n ≡ suc (m + n) = omega arith in let z : i + 1 + m ≡ i + suc m = omega arith in rw e (ap (λ (l : List A). f i ∷ l) (up_split f (i + 1) m n ∙ ap (λ (k : ℕ). up f (i + 1) m ++ up f k n) z))

pub all_up : {A : Type 0} (P : A → Type 0) (f : ℕ → A) (i n : ℕ) → ((k : ℕ) → k < i + n → P (f k)) → All P (up f i n)
unfolding up
all_up P f i zero h = tt
all_up P f i (suc n) h = (h i (omega arith), all_up P f (i + 1) n (λ k l. h k (omega arith)))

pub all_append : {A : Type 0} (P : A → Type 0) (l r : List A) → All P l → All P r → All P (l ++ r)
all_append P [] r pl pr = pr
all_append P (a ∷ l) r pl pr = (pl.0, all_append P l r pl.1 pr)
