-- Laws of tables, orientations and kinds: one turn of each loop that reads them. Assumes nothing.
use mathlib.Core.Path.{◌≡◌, refl, sym, ap, ◌∙◌, subst}
use Prim.Native.Nat.{ℕ, zero, suc, ◌+◌, ◌-◌, ◌*◌, ◌≤◌, ◌<◌}
use native.Mathlib.Omega.{arith}
use native.Mathlib.Numerals.{add-one}
use mathlib.Core.Logic.{◌⊎◌, inl, inr}
use mathlib.Core.List.{List, [], ◌∷◌, ◌++◌}
use lib.ListN.{length, take, set, get_or, length-set, length-append, get_or-append}
use lib.Seq.{get_or_at, get_or-take, get_or-set_same, get_or-set_other, take-take, take-set-le}
use lib.Ieee.{Float}
use Rattle.numbers.proofs.Truth.{below_or_not}
use Rattle.bits.specs.declared.Refusal.{Refusal}
use Rattle.bits.specs.Reading.{ok, bad, after}
use Rattle.kinds.specs.declared.KindHead.{KindHead}
use Rattle.kinds.specs.sets.Sets.{Set, a_set}
use Rattle.kinds.specs.sets.inner.Answers.{found, set_at}
use Rattle.kinds.specs.Kinds.{Orientation, an_orientation, some_orientations, kind_head, a_kind}
use Rattle.kinds.specs.inner.Tables.{tabulate, orientation_at, orientations_of, kind_with}

-- ---- tables
module _ {A : Type 0} where
  pub get_d_same : (xs ys : List A) (m i : ℕ) (d : A) → take m xs ≡ take m ys → i < m → get_or xs i d ≡ get_or ys i d
  get_d_same xs ys m i d e h = sym (get_or-take m xs i d h) ∙ ap (λ (l : List A). get_or l i d) e ∙ get_or-take m ys i d h

  pub take_less : (xs ys : List A) (k m : ℕ) → take m xs ≡ take m ys → k ≤ m → take k xs ≡ take k ys
  take_less xs ys k m e h = sym (take-take k m xs h) ∙ ap (λ (l : List A). take k l) e ∙ take-take k m ys h

  pub tabulate-same : (f g : ℕ → A) (n : ℕ) → ((i : ℕ) → i < n → f i ≡ g i) → tabulate f n ≡ tabulate g n
  unfolding tabulate
  tabulate-same f g zero h = refl
  tabulate-same f g (suc n) h = rw (tabulate-same f g n (λ i l. h i (omega arith)), h n (omega arith))

  pub tabulate_more : (f : ℕ → A) (n : ℕ) → tabulate f (n + 1) ≡ tabulate f n ++ (f n ∷ [])
  unfolding tabulate
  tabulate_more f n = let a : n + 1 ≡ suc n = omega arith in ap (λ (k : ℕ). tabulate f k) a

-- ---- an orientation
module _ (bytes : List ℕ) where
  pub found_is : (p : ℕ) {s : Set} {q : ℕ} → a_set bytes p ≡ ok s q → set_at bytes p ≡ s
  unfolding set_at
  found_is p e = ap found e

  pub orientation-same : (xs ys : List ℕ) (m slot : ℕ) → take m xs ≡ take m ys → 2 * slot + 1 < m → orientation_at bytes xs slot ≡ orientation_at bytes ys slot
  unfolding orientation_at
  orientation-same xs ys m slot e h = rw (get_d_same xs ys m (2 * slot) 0 e (omega arith), get_d_same xs ys m (2 * slot + 1) 0 e h)

  orientation-put : (xs : List ℕ) (slot a b : ℕ) → 2 * slot + 1 < length xs → orientation_at bytes (set (set xs (2 * slot) a) (2 * slot + 1) b) slot ≡ record { apart = set_at bytes a; inset = set_at bytes b }
  unfolding orientation_at
  orientation-put xs slot a b h =
      let n : 2 * slot ≡ 2 * slot + 1 → ⊥ = λ e. omega arith in
      let l : 2 * slot + 1 < length (set xs (2 * slot) a) = omega (arith, length-set xs (2 * slot) a) in
      let k : 2 * slot < length xs = omega arith in
      rw (get_or-set_other (set xs (2 * slot) a) (2 * slot + 1) (2 * slot) b 0 n, get_or-set_same xs (2 * slot) a 0 k, get_or-set_same (set xs (2 * slot) a) (2 * slot + 1) b 0 l)

  module _ (p : ℕ) where
    pub orientation-apart : {k : Refusal} → a_set bytes p ≡ bad k → an_orientation bytes p ≡ bad k
    unfolding an_orientation after
    orientation-apart e = rw e

    module _ {s : Set} {q : ℕ} (e : a_set bytes p ≡ ok s q) where
      pub orientation-inset : {k : Refusal} → a_set bytes q ≡ bad k → an_orientation bytes p ≡ bad k
      unfolding an_orientation after
      orientation-inset f = rw (e, f)

      pub orientation_in : (xs : List ℕ) (slot : ℕ) {t : Set} {r : ℕ} → a_set bytes q ≡ ok t r → slot < 1024 → 2048 ≤ length xs → an_orientation bytes p ≡ ok (orientation_at bytes (set (set xs (2 * slot) p) (2 * slot + 1) q) slot) r
      unfolding an_orientation after
      orientation_in xs slot {t} {r} f h l = rw (e, f, orientation-put xs slot p q (omega arith), found_is p e, found_is q f)

pub below-kept : (xs : List ℕ) (j a b : ℕ) → take j (set (set xs j a) (j + 1) b) ≡ take j xs
below-kept xs j a b = take-set-le j (set xs j a) (j + 1) b (omega arith) ∙ take-set-le j xs j a (omega arith)

-- ---- orientations
module _ (bytes : List ℕ) (os : List Orientation) (n i p : ℕ) where
  orientations-step : {o : Orientation} {q : ℕ} → an_orientation bytes p ≡ ok o q → i < n → some_orientations (n - i) os bytes p ≡ some_orientations (n - (i + 1)) (os ++ (o ∷ [])) bytes q
  unfolding some_orientations after
  orientations-step e h =
      let m : n - i ≡ suc (n - (i + 1)) = omega arith in
      ap (λ (k : ℕ). some_orientations k os bytes p) m ∙ rw e

  orientations-bad : {k : Refusal} → an_orientation bytes p ≡ bad k → i < n → some_orientations (n - i) os bytes p ≡ bad k
  unfolding some_orientations after
  orientations-bad e h =
      let m : n - i ≡ suc (n - (i + 1)) = omega arith in
      ap (λ (k : ℕ). some_orientations k os bytes p) m ∙ rw e

  orientations-done : n ≤ i → some_orientations (n - i) os bytes p ≡ ok os p
  unfolding some_orientations
  orientations-done h =
      let m : n - i ≡ 0 = omega arith in
      ap (λ (k : ℕ). some_orientations k os bytes p) m

orientations_more : (bytes xs ys : List ℕ) (kind i : ℕ) → take (2 * (16 * kind + i)) ys ≡ take (2 * (16 * kind + i)) xs → orientations_of bytes ys kind (i + 1) ≡ orientations_of bytes xs kind i ++ (orientation_at bytes ys (16 * kind + i) ∷ [])
unfolding orientations_of
orientations_more bytes xs ys kind i e =
    tabulate_more (λ (o : ℕ). orientation_at bytes ys (16 * kind + o)) i
    ∙ ap (λ (l : List Orientation). l ++ (orientation_at bytes ys (16 * kind + i) ∷ [])) (tabulate-same (λ (o : ℕ). orientation_at bytes ys (16 * kind + o)) (λ (o : ℕ). orientation_at bytes xs (16 * kind + o)) i (λ o h. orientation-same bytes ys xs (2 * (16 * kind + i)) (16 * kind + o) e (omega arith)))

-- i of n orientations are read, with their places in the table
pub record OrientationsTo (bytes : List ℕ) (at n kind : ℕ) (places₀ : List ℕ) (room₀ : List Float) (ends₀ places : List ℕ) (room : List Float) (ends : List ℕ) (i p : ℕ) : Type 0 where
  pub same : some_orientations n [] bytes at ≡ some_orientations (n - i) (orientations_of bytes places kind i) bytes p
  pub kept : take (32 * kind) places ≡ take (32 * kind) places₀
  pub place : p ≤ at + 132366 * i
  pub inside : i ≤ n
  pub long : length places ≡ length places₀
  pub long_room : length room ≡ length room₀
  pub long_ends : length ends ≡ length ends₀

none_yet : (bytes places : List ℕ) (kind : ℕ) → orientations_of bytes places kind 0 ≡ []
unfolding orientations_of tabulate
none_yet bytes places kind = refl

module _ (bytes : List ℕ) (at n kind : ℕ) (places₀ : List ℕ) (room₀ : List Float) (ends₀ : List ℕ) where
  pub orientations-start : OrientationsTo bytes at n kind places₀ room₀ ends₀ places₀ room₀ ends₀ 0 at
  orientations-start =
      let a : n ≡ n - 0 = omega arith in
      record { same = ap (λ (k : ℕ). some_orientations k [] bytes at) a ∙ ap (λ (os : List Orientation). some_orientations (n - 0) os bytes at) (sym (none_yet bytes places₀ kind)); kept = refl; place = omega arith; inside = omega arith; long = refl; long_room = refl; long_ends = refl }

  module _ (places : List ℕ) (room : List Float) (ends : List ℕ) (i p : ℕ) (r : OrientationsTo bytes at n kind places₀ room₀ ends₀ places room ends i p) where
    pub orientations_on : (places' : List ℕ) (room' : List Float) (ends' : List ℕ) {q : ℕ} → an_orientation bytes p ≡ ok (orientation_at bytes places' (16 * kind + i)) q → q ≤ p + 132366 → take (2 * (16 * kind + i)) places' ≡ take (2 * (16 * kind + i)) places → length places' ≡ length places → length room' ≡ length room → length ends' ≡ length ends → i < n → OrientationsTo bytes at n kind places₀ room₀ ends₀ places' room' ends' (i + 1) q
    orientations_on places' room' ends' {q} e b t l v w h =
        record {
          same = r.same ∙ orientations-step bytes (orientations_of bytes places kind i) n i p e h ∙ ap (λ (os : List Orientation). some_orientations (n - (i + 1)) os bytes q) (sym (orientations_more bytes places places' kind i t));
          kept = take_less places' places (32 * kind) (2 * (16 * kind + i)) t (omega arith) ∙ r.kept;
          place = omega (arith, r.place);
          inside = omega arith;
          long = l ∙ r.long;
          long_room = v ∙ r.long_room;
          long_ends = w ∙ r.long_ends;
        }

    pub orientations-end : {k : Refusal} → an_orientation bytes p ≡ bad k → i < n → some_orientations n [] bytes at ≡ bad k
    orientations-end e h = r.same ∙ orientations-bad bytes (orientations_of bytes places kind i) n i p e h

    pub orientations_all : n ≤ i → (some_orientations n [] bytes at ≡ ok (orientations_of bytes places kind n) p) × (p ≤ at + 132366 * n) × (take (32 * kind) places ≡ take (32 * kind) places₀)
    orientations_all h =
        let a : i ≡ n = omega (arith, r.inside) in
        (r.same ∙ orientations-done bytes (orientations_of bytes places kind i) n i p h ∙ ap (λ (k : ℕ). ok (orientations_of bytes places kind k) p) a, omega (arith, r.place, r.inside), r.kept)

-- ---- a kind
module _ (bytes : List ℕ) (p : ℕ) where
  at_sets : p + 12 + 1 + 32 + 64 + 5 ≡ p + 114
  at_sets = omega arith

  pub kind-head : {k : Refusal} → kind_head bytes p ≡ bad k → a_kind bytes p ≡ bad k
  unfolding a_kind after
  kind-head e = rw e

  module _ {h : KindHead} (e : kind_head bytes p ≡ ok h (p + 12 + 1 + 32 + 64 + 5)) where
    pub kind_sets : {k : Refusal} → some_orientations h.orientations [] bytes (p + 114) ≡ bad k → a_kind bytes p ≡ bad k
    unfolding a_kind after
    kind_sets f = rw (e, at_sets, f)

    pub kind_in : (places : List ℕ) (kind : ℕ) {q : ℕ} → some_orientations h.orientations [] bytes (p + 114) ≡ ok (orientations_of bytes places kind h.orientations) q → a_kind bytes p ≡ ok (kind_with bytes places kind h) q
    unfolding a_kind after kind_with
    kind_in places kind f = rw (e, at_sets, f)

-- ---- reading a table's meaning
module _ {A : Type 0} where
  pub length-tabulate : (f : ℕ → A) (n : ℕ) → length (tabulate f n) ≡ n
  unfolding tabulate
  length-tabulate f zero = refl
  length-tabulate f (suc n) = length-append (tabulate f n) (f n ∷ []) ∙ add-one (length (tabulate f n)) ∙ ap suc (length-tabulate f n)

  pub tabulate_at : (f : ℕ → A) (n i : ℕ) (d : A) → i < n → get_or (tabulate f n) i d ≡ f i
  unfolding tabulate
  tabulate_at f zero i d h = absurd (none i h)
    where
      none : (i : ℕ) → i < 0 → ⊥
      none i h = omega arith
  tabulate_at f (suc n) i d h = go (λ l. tabulate_at f n i d l) (below_or_not i n)
    where
      go : (i < n → get_or (tabulate f n) i d ≡ f i) → (i < n) ⊎ (n ≤ i) → get_or (tabulate f n ++ (f n ∷ [])) i d ≡ f i
      go r (inl l) = get_or-append (tabulate f n) (f n ∷ []) d i (subst (λ (m : ℕ). i < m) (sym (length-tabulate f n)) l) ∙ r l
      go r (inr l) =
          let e : i ≡ n = omega arith in
          ap (λ (m : ℕ). get_or (tabulate f n ++ (f n ∷ [])) m d) e ∙ get_or_at (tabulate f n) (f n) [] d n (length-tabulate f n) ∙ ap f (sym e)

pub orientations_at : (bytes places : List ℕ) (k n o : ℕ) (d : Orientation) → o < n → get_or (orientations_of bytes places k n) o d ≡ orientation_at bytes places (16 * k + o)
unfolding orientations_of
orientations_at bytes places k n o d h = tabulate_at (λ (i : ℕ). orientation_at bytes places (16 * k + i)) n o d h
