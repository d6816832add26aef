-- One orientation: what its remembered column and look count say of the standing strips and of the plain planner's searches, and that its next search finds
-- what the plain planner finds. Assumes nothing.
use mathlib.Core.Path.{◌≡◌, refl, sym, ap, ◌∙◌}
use mathlib.Core.Logic.{◌⊎◌, inl, inr}
use mathlib.Core.Bool.{Bool, true, false}
use mathlib.Core.List.{List, [], ◌∷◌}
use Prim.Native.Nat.{ℕ, suc, ◌+◌, ◌-◌, ◌≤◌, ◌<◌}
use native.Mathlib.Omega.{arith}
use lib.ListN.{length}
use lib.Ieee.{Float}
use Rattle.numbers.proofs.Truth.{either, below_or_not}
use Rattle.look.specs.declared.height.Look.{Look}
use Rattle.look.specs.declared.height.Look.TheVariants.{Full}
use Rattle.index.proofs.Flat.{length-up_from}
use Rattle.filling.specs.Shapes.{Planner, Shape}
use Rattle.filling.specs.Search.{Found, at, nowhere, column, none, Track, first_free, look_at, last_of, reversed_for, search, remembered, columns_from, looks}
use Rattle.filling.specs.Search.{searched}
use Rattle.filling.specs.Plain.{plain_search, plain_searched, finds, expected_looks, plain_looks}
use Rattle.filling.proofs.FirstFree.{FullFrom, FoundAt, skip, none_free, found_at, found_nowhere, Grows, look_grows}

join : (f : ℕ → Look) (c e : ℕ) → FullFrom f 0 c → FullFrom f c e → FullFrom f 0 e
join f c e h k d i j = go (below_or_not d c)
  where
    go : (d < c) ⊎ (c ≤ d) → f d ≡ Full
    go (inl l) = h d i l
    go (inr l) = k d l j

module _ (p : Planner) (st : List Float) (s : Shape) where
  abbrev Fulls : ℕ → Type 0
  Fulls e = FullFrom (look_at p st s) 0 e

  -- what the definitions come to where a range is or is not reversed
  pub search_open : (c : ℕ) → reversed_for p s ≡ false → search p st s (column c) ≡ first_free (look_at p st s) (suc (last_of p s) - c) c
  unfolding search
  search_open c o = rw (o, search)

  pub search-reversed : (c : ℕ) → reversed_for p s ≡ true → search p st s (column c) ≡ nowhere
  unfolding search
  search-reversed c o = rw (o, search)

  plain_open : reversed_for p s ≡ false → plain_search p st s ≡ first_free (look_at p st s) (suc (last_of p s)) 0
  unfolding plain_search
  plain_open o = rw (o, plain_search)

  plain-reversed : reversed_for p s ≡ true → plain_search p st s ≡ nowhere
  unfolding plain_search
  plain-reversed o = rw (o, plain_search)

  searched_open : (fs : List Found) → reversed_for p s ≡ false → plain_searched p st s fs ≡ plain_search p st s ∷ fs
  unfolding plain_searched
  searched_open fs o = rw (o, plain_searched)

  searched-reversed : (fs : List Found) → reversed_for p s ≡ true → plain_searched p st s fs ≡ fs
  unfolding plain_searched
  searched-reversed fs o = rw (o, plain_searched)

  pub looks_open : (c : ℕ) (f : Found) → reversed_for p s ≡ false → looks p s (column c) f ≡ columns_from c (last_of p s) f
  unfolding looks
  looks_open c f o = rw (o, looks)

  looks-reversed : (c : ℕ) (f : Found) → reversed_for p s ≡ true → looks p s (column c) f ≡ []
  unfolding looks
  looks-reversed c f o = rw (o, looks)

  expects_open : (fs : List Found) → reversed_for p s ≡ false → plain_looks p s fs ≡ expected_looks (last_of p s) fs
  unfolding plain_looks
  expects_open fs o = rw (o, plain_looks)

  expects_reversed : (fs : List Found) → reversed_for p s ≡ true → plain_looks p s fs ≡ 0
  unfolding plain_looks
  expects_reversed fs o = rw (o, plain_looks)

  -- what an orientation's track says of the standing strips, and of the plain planner's searches
  pub data Fit (t : Track) (fs : List Found) : Type 0 where
    fresh : t.next_column ≡ column 0 → t.look_count ≡ 0 → fs ≡ [] → Fit t fs
    closed : reversed_for p s ≡ true → t.next_column ≡ none → t.look_count ≡ 0 → fs ≡ [] → Fit t fs
    reached : (c : ℕ) (y g : Float) (gs : List Found) → reversed_for p s ≡ false → c ≤ last_of p s → Fulls c → t.next_column ≡ column c → fs ≡ at c y g ∷ gs →
        t.look_count ≡ c + finds fs → Fit t fs
    spent : (gs : List Found) → reversed_for p s ≡ false → Fulls (suc (last_of p s)) → t.next_column ≡ none → fs ≡ nowhere ∷ gs → t.look_count ≡ suc
        (last_of p s) + finds fs → Fit t fs

  -- from a column below which all is full the search finds what the plain planner finds
  from-column : (c : ℕ) → reversed_for p s ≡ false → c ≤ suc (last_of p s) → Fulls c → search p st s (column c) ≡ plain_search p st s
  from-column c o l h =
      let n = last_of p s in
      let e : suc n ≡ c + (suc n - c) = omega arith in
      let z : 0 + c ≡ c = omega arith in
      search_open c o
      ∙ ap (first_free (look_at p st s) (suc n - c)) (sym z)
      ∙ sym (skip (look_at p st s) c (suc n - c) 0 (suc n) e (λ d i j. h d i (omega arith)))
      ∙ sym (plain_open o)

  all_full : reversed_for p s ≡ false → Fulls (suc (last_of p s)) → plain_search p st s ≡ nowhere
  all_full o h = plain_open o ∙ none_free (look_at p st s) (suc (last_of p s)) 0 (λ d i j. h d i (omega arith))

  pub same-search : (t : Track) (fs : List Found) → Fit t fs → search p st s t.next_column ≡ plain_search p st s
  unfolding search
  same-search t fs (fresh m n e) = ap (search p st s) m ∙ go (either (reversed_for p s))
    where
      go : (reversed_for p s ≡ true) ⊎ (reversed_for p s ≡ false) → search p st s (column 0) ≡ plain_search p st s
      go (inl o) = search-reversed 0 o ∙ sym (plain-reversed o)
      go (inr o) = from-column 0 o (omega arith) (λ d i j. absurd (omega arith))
  same-search t fs (closed o m n e) = ap (search p st s) m ∙ sym (plain-reversed o)
  same-search t fs (reached c y g gs o l h m e n) = ap (search p st s) m ∙ from-column c o (omega arith) h
  same-search t fs (spent gs o h m e n) = ap (search p st s) m ∙ sym (all_full o h)

  pub yields : (f : Found) → (f ≡ nowhere) ⊎ ((d : ℕ) × (y : Float) × (g : Float) × (f ≡ at d y g))
  yields nowhere = inl refl
  yields (at d y g) = inr (d, y, g, refl)

  -- a search from a column below which all is full
  from_open : (t : Track) (fs : List Found) (c : ℕ) → reversed_for p s ≡ false → c ≤ last_of p s → Fulls c → t.next_column ≡ column c → t.look_count ≡ c + finds
      fs
      → Fit (searched p s t (search p st s t.next_column)) (plain_searched p st s fs)
  unfolding searched remembered columns_from finds
  from_open t fs c o l h m n = go (yields (search p st s t.next_column))
    where
      last : ℕ
      last = last_of p s

      f : Found
      f = search p st s t.next_column

      found : f ≡ first_free (look_at p st s) (suc last - c) c
      found = ap (search p st s) m ∙ search_open c o

      plain : plain_search p st s ≡ f
      plain = sym (from-column c o (omega arith) h) ∙ sym (ap (search p st s) m)

      searches : plain_searched p st s fs ≡ f ∷ fs
      searches = searched_open fs o ∙ ap (λ g. g ∷ fs) plain

      looks_f : looks p s t.next_column f ≡ columns_from c last f
      looks_f = ap (λ k. looks p s k f) m ∙ looks_open c f o

      go : (f ≡ nowhere) ⊎ ((d : ℕ) × (y : Float) × (g : Float) × (f ≡ at d y g)) → Fit (searched p s t f) (plain_searched p st s fs)
      go (inl e) = spent fs o fulls (ap remembered e) (searches ∙ ap (λ g. g ∷ fs) e) count
        where
          rest : FullFrom (look_at p st s) c (c + (suc last - c))
          rest = found_nowhere (look_at p st s) (suc last - c) c (sym found ∙ e)

          fulls : Fulls (suc last)
          fulls d i j = join (look_at p st s) c (suc last) h (λ d' i' j'. rest d' i' (omega arith)) d i j

          count : t.look_count + length (looks p s t.next_column f) ≡ suc last + finds (plain_searched p st s fs)
          count =
              let a : length (looks p s t.next_column f) ≡ suc last - c = ap length (looks_f ∙ ap (columns_from c last) e) ∙ length-up_from (suc last - c) c in
              let b : finds (plain_searched p st s fs) ≡ finds fs = ap finds (searches ∙ ap (λ g. g ∷ fs) e) in
              omega arith
      go (inr e) = reached e.0 e.1 e.2 fs o within fulls (ap remembered e.3) (searches ∙ ap (λ g. g ∷ fs) e.3) count
        where
          place : FoundAt (look_at p st s) c (c + (suc last - c)) e.0 e.1 e.2
          place = found_at (look_at p st s) (suc last - c) c e.0 e.1 e.2 (sym found ∙ e.3)

          fulls : Fulls e.0
          fulls d i j = join (look_at p st s) c e.0 h place.fulls d i j

          within : e.0 ≤ last
          within = let i = place.before in omega arith

          count : t.look_count + length (looks p s t.next_column f) ≡ e.0 + finds (plain_searched p st s fs)
          count =
              let i = place.from in
              let a : length (looks p s t.next_column f) ≡ suc e.0 - c = ap length (looks_f ∙ ap (columns_from c last) e.3) ∙ length-up_from
              (suc e.0 - c) c in
              let b : finds (plain_searched p st s fs) ≡ suc (finds fs) = ap finds (searches ∙ ap (λ g. g ∷ fs) e.3) in
              omega arith

  pub fit-searched : (t : Track) (fs : List Found) → Fit t fs → Fit (searched p s t (search p st s t.next_column)) (plain_searched p st s fs)
  unfolding searched remembered looks search finds
  fit-searched t fs (fresh m n e) = go (either (reversed_for p s))
    where
      go : (reversed_for p s ≡ true) ⊎ (reversed_for p s ≡ false) → Fit (searched p s t (search p st s t.next_column)) (plain_searched p st s fs)
      go (inl o) =
          let f = ap (search p st s) m ∙ search-reversed 0 o in
          let a : length (looks p s t.next_column (search p st s t.next_column)) ≡ 0 = ap (λ k. length (looks p s k (search p st s t.next_column))) m ∙
          ap length (looks-reversed 0 (search p st s t.next_column) o) in
          closed o (ap remembered f) (omega arith) (searched-reversed fs o ∙ e)
      go (inr o) =
          let z : finds fs ≡ 0 = ap finds e in
          from_open t fs 0 o (omega arith) (λ d i j. absurd (omega arith)) m (omega arith)
  fit-searched t fs (closed o m n e) =
      let a : length (looks p s t.next_column (search p st s t.next_column)) ≡ 0 = ap (λ k. length (looks p s k (search p st s t.next_column))) m in
      closed o (ap (λ k. remembered (search p st s k)) m) (omega arith) (searched-reversed fs o ∙ e)
  fit-searched t fs (reached c y g gs o l h m e n) = from_open t fs c o l h m n
  fit-searched t fs (spent gs o h m e n) =
      let a : length (looks p s t.next_column (search p st s t.next_column)) ≡ 0 = ap (λ k. length (looks p s k (search p st s t.next_column))) m in
      let z : plain_searched p st s fs ≡ nowhere ∷ fs = searched_open fs o ∙ ap (λ g. g ∷ fs) (all_full o h) in
      let b : finds (plain_searched p st s fs) ≡ finds fs = ap finds z in
      spent fs o h (ap (λ k. remembered (search p st s k)) m) z (omega arith)

  pub finds_more : (fs : List Found) → finds (plain_searched p st s fs) ≤ suc (finds fs)
  unfolding plain_searched finds
  finds_more fs = go (reversed_for p s) (plain_search p st s)
    where
      go : (t : Bool) (f : Found) → finds (elim t [ true ↦ fs | false ↦ f ∷ fs ]) ≤ suc (finds fs)
      go true f = omega arith
      go false (at c y g) = omega arith
      go false nowhere = omega arith

  -- the look equation
  pub expects : (t : Track) (fs : List Found) → Fit t fs → t.look_count ≡ plain_looks p s fs
  unfolding expected_looks finds plain_looks
  expects t fs (fresh m n e) = n ∙ sym (ap (plain_looks p s) e ∙ none_yet (reversed_for p s))
    where
      none_yet : (b : Bool) → ◌≡◌ {A = ℕ} (elim b [ true ↦ 0 | false ↦ 0 ]) 0
      none_yet true = refl
      none_yet false = refl
  expects t fs (closed o m n e) = n ∙ sym (expects_reversed fs o)
  expects t fs (reached c y g gs o l h m e n) = n ∙ ap (λ g. c + finds g) e ∙ sym (ap (expected_looks (last_of p s)) e) ∙ sym (expects_open fs o)
  expects t fs (spent gs o h m e n) =
      let a : finds fs ≡ finds gs = ap finds e in
      let b : suc (last_of p s) + finds gs ≡ last_of p s + 1 + finds gs = omega arith in
      n ∙ ap (λ g. suc (last_of p s) + g) a ∙ b ∙ sym (ap (expected_looks (last_of p s)) e) ∙ sym (expects_open fs o)

-- more standing strips
pub grown : (p : Planner) (st st' : List Float) (s : Shape) → Grows st st' → (t : Track) (fs : List Found) → Fit p st s t fs → Fit p st' s t fs
grown p st st' s w t fs (fresh m n e) = fresh m n e
grown p st st' s w t fs (closed o m n e) = closed o m n e
grown p st st' s w t fs (reached c y g gs o l h m e n) = reached c y g gs o l (λ d i j. look_grows p st st' s d w (h d i j)) m e n
grown p st st' s w t fs (spent gs o h m e n) = spent gs o (λ d i j. look_grows p st st' s d w (h d i j)) m e n
