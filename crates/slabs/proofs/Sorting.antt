-- Laws of tables whose first stands last, and of insertion from a table's end. Assumes nothing.
use Prim.Native.Nat.{ℕ, zero, suc, ◌+◌, ◌-◌, ◌≤◌, ◌<◌}
use native.Mathlib.Omega.{arith}
use native.Mathlib.Numerals.{add-one}
use mathlib.Core.Path.{◌≡◌, refl, ap, ◌∙◌}
use mathlib.Core.Logic.{◌⊎◌, inl, inr}
use mathlib.Core.List.{List, [], ◌∷◌, ◌++◌}
use mathlib.Core.Bool.{Bool, true, false}
use Rattle.slabs.specs.Slab.{up, insert}
use Rattle.slabs.specs.inner.Tables.{down}

module _ {A : Type 0} where
  -- ---- insertion from the end of a table whose last is the list's first
  module _ (first : A → A → Bool) where
    pub insert_on : (a b : A) (bs : List A) → first b a ≡ true → insert first a (b ∷ bs) ≡ b ∷ insert first a bs
    unfolding insert
    insert_on a b bs e = rw (e, insert)

    pub insert-here : (a b : A) (bs : List A) → first b a ≡ false → insert first a (b ∷ bs) ≡ a ∷ b ∷ bs
    unfolding insert
    insert-here a b bs e = rw (e, insert)

  -- f (k + m), .., f (k + 1), then rest
  unfoldable pub over : (ℕ → A) → ℕ → ℕ → List A → List A
  over f k zero rest = rest
  over f k (suc m) rest = f (k + suc m) ∷ over f k m rest

  pub over_ext : (f g : ℕ → A) (k m : ℕ) (rest : List A) → ((i : ℕ) → k < i → g i ≡ f i) → over g k m rest ≡ over f k m rest
  unfolding over
  over_ext f g k zero rest h = refl
  over_ext f g k (suc m) rest h = rw (h (k + suc m) (omega arith), over_ext f g k m rest h)

  pub over_snoc : (f : ℕ → A) (j m : ℕ) (rest : List A) → over f j (suc m) rest ≡ over f (suc j) m (f (suc j) ∷ rest)
  unfolding over
  over_snoc f j zero rest = let e : j + 1 ≡ suc j = omega arith in rw e
  over_snoc f j (suc m) rest = let e : j + suc (suc m) ≡ suc j + suc m = omega arith in ap (λ (l : List A). f (j + suc (suc m)) ∷ l) (over_snoc f j m rest) ∙ ap (λ (i : ℕ). f i ∷ over f (suc j) m (f (suc j) ∷ rest)) e

  pub down_ext : (f g : ℕ → A) (n : ℕ) → ((i : ℕ) → i < n → g i ≡ f i) → down g n ≡ down f n
  unfolding down
  down_ext f g zero h = refl
  down_ext f g (suc n) h = rw (h n (omega arith), down_ext f g n (λ i l. h i (omega arith)))

  pub down-suc : (f : ℕ → A) (n : ℕ) → down f (suc n) ≡ f n ∷ down f n
  unfolding down
  down-suc f n = refl

  pub down-zero : (f : ℕ → A) → down f 0 ≡ []
  unfolding down
  down-zero f = refl

  pub down_over : (f : ℕ → A) (k m : ℕ) → down f (suc (k + m)) ≡ over f k m (down f (suc k))
  unfolding over
  down_over f k zero = let e : k + 0 ≡ k = omega arith in rw e
  down_over f k (suc m) =
      let e : k + suc m ≡ suc (k + m) = omega arith in
      down-suc f (k + suc m) ∙ ap (λ (l : List A). f (k + suc m) ∷ l) (ap (λ (i : ℕ). down f i) e ∙ down_over f k m)

  module _ (first : A → A → Bool) (f g : ℕ → A) (c : A) where
    insert-step-suc : (j m : ℕ) → ((i : ℕ) → i < suc j → g i ≡ f i) → ((i : ℕ) → suc j < i → g i ≡ f i) → g (suc j) ≡ f j → first (f j) c ≡ true → over g j (suc m) (insert first c (down g j)) ≡ over f (suc j) m (insert first c (down f (suc j)))
    insert-step-suc j m below above e t =
        rw (over_snoc g j m (insert first c (down g j)), e, down_ext f g j (λ i l. below i (omega arith)), over_ext f g (suc j) m (f j ∷ insert first c (down f j)) above, down-suc f j, insert_on first c (f j) (down f j) t)

    -- the row before k went up to k
    pub insert-step : (k n : ℕ) → 0 < k → k ≤ n → ((i : ℕ) → i < k → g i ≡ f i) → ((i : ℕ) → k < i → g i ≡ f i) → g k ≡ f (k - 1) → first (f (k - 1)) c ≡ true → over g (k - 1) (n - (k - 1)) (insert first c (down g (k - 1))) ≡ over f k (n - k) (insert first c (down f k))
    insert-step zero n p l below above e t = absurd (omega arith)
    insert-step (suc j) n p l below above e t =
        let d : suc j - 1 ≡ j = omega arith in
        let s : n - j ≡ suc (n - suc j) = omega arith in
        rw (d, s) (insert-step-suc j (n - suc j) below above (rw d at e) (rw d at t))

    insert_at : (k : ℕ) → (k ≡ 0) ⊎ (first (f (k - 1)) c ≡ false) → insert first c (down f k) ≡ c ∷ down f k
    unfolding insert down
    insert_at zero h = refl
    insert_at (suc j) (inl e) = absurd (omega arith)
    insert_at (suc j) (inr e) = let d : suc j - 1 ≡ j = omega arith in insert-here first c (f j) (down f j) (rw d at e)

    -- c stands at k
    pub insert-last : (k n : ℕ) → k ≤ n → ((i : ℕ) → i < k → g i ≡ f i) → ((i : ℕ) → k < i → g i ≡ f i) → g k ≡ c → (k ≡ 0) ⊎ (first (f (k - 1)) c ≡ false) → down g (n + 1) ≡ over f k (n - k) (insert first c (down f k))
    insert-last k n l below above e t =
        let s : n + 1 ≡ suc (k + (n - k)) = omega arith in
        rw (s, down_over g k (n - k), down-suc g k, e, down_ext f g k below, over_ext f g k (n - k) (c ∷ down f k) above, insert_at k t)

  -- ---- lists that go up
  pub up_cons : (f : ℕ → A) (i n : ℕ) → 0 < i → i ≤ n → up f (i - 1) (n - (i - 1)) ≡ f (i - 1) ∷ up f i (n - i)
  unfolding up
  up_cons f zero n p l = absurd (omega arith)
  up_cons f (suc j) n p l =
      let d : suc j - 1 ≡ j = omega arith in
      let s : n - j ≡ suc (n - suc j) = omega arith in
      rw (d, s, add-one j)

  pub up_none : (f : ℕ → A) (n : ℕ) → up f n (n - n) ≡ []
  unfolding up
  up_none f n = let s : n - n ≡ 0 = omega arith in rw s

  pub up_ext : (f g : ℕ → A) (i n : ℕ) → ((k : ℕ) → k < i + n → g k ≡ f k) → up g i n ≡ up f i n
  unfolding up
  up_ext f g i zero h = refl
  up_ext f g i (suc n) h = rw (h i (omega arith), up_ext f g (i + 1) n (λ k l. h k (omega arith)))

  pub up_snoc : (f : ℕ → A) (i n : ℕ) → up f i (suc n) ≡ up f i n ++ (f (i + n) ∷ [])
  unfolding up
  up_snoc f i zero = let e : i + 0 ≡ i = omega arith in rw e
  up_snoc f i (suc n) = let e : i + 1 + n ≡ i + suc n = omega arith in ap (λ (l : List A). f i ∷ l) (up_snoc f (i + 1) n ∙ ap (λ (k : ℕ). up f (i + 1) n ++ (f k ∷ [])) e)

pub over_start : {A : Type 0} (f : ℕ → A) (n : ℕ) (rest : List A) → over f n (n - n) rest ≡ rest
unfolding over
over_start f n rest = let z : n - n ≡ 0 = omega arith in rw z

pub up_all : {A : Type 0} (f : ℕ → A) (i n : ℕ) → i ≤ 0 → up f i (n - i) ≡ up f 0 n
up_all f i n h = let z : i ≡ 0 = omega arith in let y : n - 0 ≡ n = omega arith in rw (z, y)
