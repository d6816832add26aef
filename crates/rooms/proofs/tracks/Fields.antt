-- Laws of `field`: its length, its numbers, and what a store into the table does to it. Assumes nothing.
use Prim.Native.Nat.{ℕ, ◌+◌, ◌*◌, ◌%◌, ◌<◌}
use native.Mathlib.Omega.{arith}
use native.Mathlib.Nat.{add_right_cancel, eq_of_mul-eq-mul_left, mod-eq_of_lt, mul-add-mod_self_left}
use mathlib.Core.Path.{◌≡◌, sym, ap, subst, ◌∙◌}
use mathlib.Core.Logic.{inl, inr}
use mathlib.Core.List.{List}
use lib.ListN.{length, get_or, set, take, length-map, length-set}
use lib.Seq.{ext_get_or, get_or-set_same, get_or-set_other, get_or-take}
use Rattle.numbers.proofs.Truth.{same_or_not}
use Rattle.index.specs.Buckets.{up_from}
use Rattle.index.proofs.Flat.{length-up_from, get_d_up_from}
use Rattle.rooms.specs.tracks.inner.Tracks.{field}

-- ---- numbers

-- two rows at one place are one row
one_row : (k r i j : ℕ) → 0 < k → k * j + r ≡ k * i + r → j ≡ i
one_row k r i j h e = eq_of_mul-eq-mul_left k h j i (add_right_cancel r e)

-- two numbers of rows at one place are one number
one_number : (k r s i j : ℕ) → r < k → s < k → k * j + s ≡ k * i + r → r ≡ s
one_number k r s i j a b e =
    sym (mod-eq_of_lt a)
    ∙ (sym (mul-add-mod_self_left k i r) ∙ (ap (λ (n : ℕ). n % k) (sym e) ∙ (mul-add-mod_self_left k j s ∙ mod-eq_of_lt b)))

module _ {A : Type 0} where
  -- ---- a field's length and numbers

  pub length-field : (d : A) (k r n : ℕ) (t : List A) → length (field d k r n t) ≡ n
  unfolding field
  length-field d k r n t = length-map (up_from n 0) (λ i. get_or t (k * i + r) d) ∙ length-up_from n 0

  pub field_at : (d : A) (k r n : ℕ) (t : List A) (i : ℕ) (e : A) → i < n → get_or (field d k r n t) i e ≡ get_or t (k * i + r) d
  unfolding field
  field_at d k r n t i e h =
      let z : 0 + i ≡ i = omega arith in
      get_d_up_from (λ i. get_or t (k * i + r) d) n 0 i e h ∙ ap (λ (m : ℕ). get_or t (k * m + r) d) z

  pub field_is : (d : A) (k r n : ℕ) (t l : List A) → length l ≡ n → ((i : ℕ) → i < n → get_or l i d ≡ get_or t (k * i + r) d) → field d k r n t ≡ l
  field_is d k r n t l e h = ext_get_or d (field d k r n t) l (length-field d k r n t ∙ sym e) at
    where
      at : (i : ℕ) → i < length (field d k r n t) → get_or (field d k r n t) i d ≡ get_or l i d
      at i m = let b : i < n = subst (λ (q : ℕ). i < q) (length-field d k r n t) m in field_at d k r n t i d b ∙ sym (h i b)

  pub field-same : (d : A) (k r n : ℕ) (t u : List A) → ((i : ℕ) → i < n → get_or t (k * i + r) d ≡ get_or u (k * i + r) d)
      → field d k r n t ≡ field d k r n u
  field-same d k r n t u h = field_is d k r n t (field d k r n u) (length-field d k r n u) (λ i b. field_at d k r n u i d b ∙ sym (h i b))

  -- ---- a field of a table after a store

  pub field-other : (d : A) (k r n : ℕ) (t : List A) (p : ℕ) (v : A) → ((i : ℕ) → i < n → k * i + r ≡ p → ⊥)
      → field d k r n (set t p v) ≡ field d k r n t
  field-other d k r n t p v h = field-same d k r n (set t p v) t (λ i b. get_or-set_other t p (k * i + r) v d (h i b))

  pub field-set : (d : A) (k r n : ℕ) (t : List A) (i : ℕ) (v : A) → i < n → 0 < k → k * i + r < length t
      → field d k r n (set t (k * i + r) v) ≡ set (field d k r n t) i v
  field-set d k r n t i v h p q =
      field_is d k r n (set t (k * i + r) v) (set (field d k r n t) i v) (length-set (field d k r n t) i v ∙ length-field d k r n t) at
    where
      long : i < length (field d k r n t)
      long = subst (λ (m : ℕ). i < m) (sym (length-field d k r n t)) h

      at : (j : ℕ) → j < n → get_or (set (field d k r n t) i v) j d ≡ get_or (set t (k * i + r) v) (k * j + r) d
      at j b = elim (same_or_not j i) [
        | inl e ↦ subst (λ (m : ℕ). get_or (set (field d k r n t) i v) m d ≡ get_or (set t (k * i + r) v) (k * m + r) d) (sym e)
            (get_or-set_same (field d k r n t) i v d long ∙ sym (get_or-set_same t (k * i + r) v d q))
        | inr e ↦ get_or-set_other (field d k r n t) i j v d e
            ∙ (field_at d k r n t j d b ∙ sym (get_or-set_other t (k * i + r) (k * j + r) v d (λ z. e (one_row k r i j p z))))
      ]

  -- every number of the field lies before the store
  pub field-before : (d : A) (k r n : ℕ) (t : List A) (p : ℕ) (v : A) → ((i : ℕ) → i < n → k * i + r < p) → field d k r n (set t p v) ≡ field d k r n t
  field-before d k r n t p v h = field-other d k r n t p v (λ i b e. let z : k * i + r < p = h i b in absurd (omega arith))

  -- every number of the field lies after the store
  pub field-after : (d : A) (k r n : ℕ) (t : List A) (p : ℕ) (v : A) → p < r → field d k r n (set t p v) ≡ field d k r n t
  field-after d k r n t p v h = field-other d k r n t p v (λ i b e. absurd (omega arith))

  -- number r of a row is stored, number s of every row stays
  pub field-kept : (d : A) (k r s n : ℕ) (t : List A) (i : ℕ) (v : A) → r < k → s < k → (r ≡ s → ⊥) → field d k s n (set t (k * i + r) v) ≡ field d k s n t
  field-kept d k r s n t i v a b h = field-other d k s n t (k * i + r) v (λ j m e. h (one_number k r s i j a b e))

  -- ---- the first number of a row

  pub row_first : (d : A) (k : ℕ) (t : List A) (n i : ℕ) (v : A) → 0 < k → i < n → k * i < length t → field d k 0 n (set t (k * i) v) ≡ set (field d k 0 n t) i v
  row_first d k t n i v p h q =
      let z : k * i ≡ k * i + 0 = omega arith in
      ap (λ (p : ℕ). field d k 0 n (set t p v)) z ∙ field-set d k 0 n t i v h p (omega arith)

  pub first-stored : (d : A) (k s n : ℕ) (t : List A) (i : ℕ) (v : A) → s < k → (0 ≡ s → ⊥) → field d k s n (set t (k * i) v) ≡ field d k s n t
  first-stored d k s n t i v b h =
      let z : k * i ≡ k * i + 0 = omega arith in
      ap (λ (p : ℕ). field d k s n (set t p v)) z ∙ field-kept d k 0 s n t i v (omega arith) b h

  -- ---- two numbers to a row

  pub slot_first : (d : A) (t : List A) (n i : ℕ) (v : A) → i < n → 2 * i < length t → field d 2 0 n (set t (2 * i) v) ≡ set (field d 2 0 n t) i v
  slot_first d t n i v h q = row_first d 2 t n i v (omega arith) h q

  pub slot_number : (d : A) (t : List A) (n i : ℕ) (v : A) → i < n → 2 * i + 1 < length t
      → field d 2 1 n (set t (2 * i + 1) v) ≡ set (field d 2 1 n t) i v
  slot_number d t n i v h q = field-set d 2 1 n t i v h (omega arith) q

  pub first-kept : (d : A) (t : List A) (n i : ℕ) (v : A) → field d 2 0 n (set t (2 * i + 1) v) ≡ field d 2 0 n t
  first-kept d t n i v = field-kept d 2 1 0 n t i v (omega arith) (omega arith) (λ e. absurd (omega arith))

  pub number-kept : (d : A) (t : List A) (n i : ℕ) (v : A) → field d 2 1 n (set t (2 * i) v) ≡ field d 2 1 n t
  number-kept d t n i v = first-stored d 2 1 n t i v (omega arith) (λ e. absurd (omega arith))

  -- ---- one number to a row, from r on

  pub place-number : (d : A) (t : List A) (r n i : ℕ) (v : A) → i < n → r + i < length t → field d 1 r n (set t (r + i) v) ≡ set (field d 1 r n t) i v
  place-number d t r n i v h q =
      let z : r + i ≡ 1 * i + r = omega arith in
      ap (λ (p : ℕ). field d 1 r n (set t p v)) z ∙ field-set d 1 r n t i v h (omega arith) (omega arith)

  -- ---- a table's front

  pub field-take : (d : A) (k r n m : ℕ) (t : List A) → ((i : ℕ) → i < n → k * i + r < m) → field d k r n (take m t) ≡ field d k r n t
  field-take d k r n m t h = field-same d k r n (take m t) t (λ i b. get_or-take m t (k * i + r) d (h i b))
