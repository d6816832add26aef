-- The search in the code's order is the search of the definition of filling: its column, its list of looks, and 22 exactly where one of those
-- looks lacks room. Assumes nothing.
use Rattle.std.specs.Prelude.{Some, None, Ok, Err}
use Rattle.index.specs.declared.Overrun.TheVariants.{IntervalRoom}
use Rattle.index.specs.declared.Overrun.TheVariants.{IntervalRoom}
use Rattle.std.specs.Prelude.{Option, Some, None}
use Prim.{⊥}
use Prim.Native.Nat.{ℕ, zero, suc, ◌+◌, ◌-◌, ◌<◌, ◌≤◌}
use native.Mathlib.Omega.{arith}
use native.Mathlib.Numerals.{add-one}
use mathlib.Core.Path.{◌≡◌, refl, sym, ap, ◌∙◌, subst}
use mathlib.Core.Logic.{◌⊎◌, inl, inr}
use mathlib.Core.Bool.{true, false, ◌||◌, true≢false}
use mathlib.Core.List.{List, [], ◌∷◌, map}
use lib.ListN.{length, get_or, set, length-set}
use lib.Seq.{get_or-set_same, set-set, set-get_or}
use lib.Dec.{ltb}
use lib.Ieee.{Float}
use Rattle.numbers.proofs.Truth.{either}
use Rattle.index.specs.declared.Interval.{Interval}
use Rattle.index.specs.Buckets.{up_from}
use Rattle.search.specs.inner.Searching.{Answer}
use Rattle.look.specs.inner.Ready.{answer_of, look_of}
use Rattle.filling.specs.Columns.{ranges, columns, regular_column, column_at}
use Rattle.filling.specs.Shapes.{Planner, Shape}
use Rattle.filling.specs.Search as Filling
use Rattle.filling.specs.Search.{ranges_of, reversed_for, intervals_at, look_at, first_free, Remembered, column, none, remembered, columns_from}
use Rattle.filling.specs.State.{remembered_of, remembered_number}
use Rattle.filling.specs.NextCopy.{any_above}
use Rattle.filling.proofs.Searches.{looks_open}
use Rattle.filling.proofs.FirstFree.{first_free_lem, first_full}
use Rattle.search.specs.declared.columns.Columns.{Columns}
use Rattle.search.specs.columns.inner.Stands.{columns_of, reversed_of, regular_of, column_x, last_of, start_of}
use Rattle.search.proofs.columns.Steps.{start-reversed, start_none, start_at}
use Rattle.search.proofs.columns.Same as Same
use Rattle.search.specs.inner.Searching.{Found}
use Rattle.search.specs.inner.Searching.{answer_at, Looked, looked, counted, search_from, next_of, Tracked, tracked, remembering, search_of}
use Rattle.search.proofs.Turns.{search-end, search_overflow, search_free, search_full}
use Rattle.look.specs.declared.height.Look.{Look}
use Rattle.look.specs.declared.height.Look.TheVariants.{Free, Full}

-- what the definition finds, as the code says it
abbrev pub found_of : Filling.Found → Found
found_of (Filling.at c y g) = Ok (Some (c, y, g))
found_of Filling.nowhere = Ok None

-- ---- the looks of the n columns from c on, to the first that is free
unfoldable pub looks_to : (ℕ → Look) → ℕ → ℕ → List ℕ
looks_to look zero c = []
looks_to look (suc n) c = c ∷ elim (look c) [ Free y g ↦ [] | Full ↦ looks_to look n (suc c) ]

module _ (look : ℕ → Look) where
  looks_free : (n c : ℕ) (y g : Float) → look c ≡ Free y g → looks_to look (suc n) c ≡ c ∷ []
  unfolding looks_to
  looks_free n c y g e = rw (e, looks_to)

  looks_full : (n c : ℕ) → look c ≡ Full → looks_to look (suc n) c ≡ c ∷ looks_to look n (suc c)
  unfolding looks_to
  looks_full n c e = rw (e, looks_to)

  abbrev From : ℕ → Filling.Found → Type 0
  From c (Filling.at d y g) = c ≤ d
  From c Filling.nowhere = Unit

  from_more : (c : ℕ) (f : Filling.Found) → From (suc c) f → From c f
  from_more c (Filling.at d y g) h = omega (arith, h)
  from_more c Filling.nowhere h = tt

  found_from : (n c : ℕ) → From c (first_free look n c)
  unfolding first_free
  found_from zero c = tt
  found_from (suc n) c = go (look c) refl (found_from n (suc c))
    where
      same : (d : ℕ) → d ≤ d
      same d = omega arith

      go : (l : Look) → look c ≡ l → From (suc c) (first_free look n (suc c)) → From c (first_free look (suc n) c)
      go (Free y g) e h = subst (From c) (sym (first_free_lem look n c y g e)) (same c)
      go Full e h = subst (From c) (sym (first_full look n c e)) (from_more c (first_free look n (suc c)) h)

  columns_cons : (c last : ℕ) (f : Filling.Found) → c ≤ last → From (suc c) f → columns_from c last f ≡ c ∷ columns_from (suc c) last f
  unfolding columns_from up_from
  columns_cons c last (Filling.at d y v) h g = let e : suc d - c ≡ suc (suc d - suc c) = omega (arith, g) in rw e
  columns_cons c last Filling.nowhere h g = let e : suc last - c ≡ suc (suc last - suc c) = omega arith in rw e

  columns-end : (c last : ℕ) → suc last - c ≡ 0 → columns_from c last (first_free look 0 c) ≡ looks_to look 0 c
  unfolding columns_from first_free looks_to up_from
  columns-end c last e = rw e

  columns-one : (c last : ℕ) (y g : Float) → columns_from c last (Filling.at c y g) ≡ c ∷ []
  unfolding columns_from up_from
  columns-one c last y g = let e : suc c - c ≡ 1 = omega arith in rw e

  -- "the list of columns from the remembered one to the one yielded, else to the last"
  columns_are : (n c last : ℕ) → n ≡ suc last - c → columns_from c last (first_free look n c) ≡ looks_to look n c
  columns_are zero c last h = columns-end c last (sym h)
  columns_are (suc n) c last h = go (look c) refl (columns_are n (suc c) last (omega arith)) (found_from n (suc c))
    where
      inside : c ≤ last
      inside = omega (arith, h)

      go : (l : Look) → look c ≡ l → columns_from (suc c) last (first_free look n (suc c)) ≡ looks_to look n (suc c) → From (suc c) (first_free look n (suc c)) → columns_from c last (first_free look (suc n) c) ≡ looks_to look (suc n) c
      go (Free y v) e b g = ap (columns_from c last) (first_free_lem look n c y v e) ∙ (columns-one c last y v ∙ sym (looks_free n c y v e))
      go Full e b g = ap (columns_from c last) (first_full look n c e) ∙ (columns_cons c last (first_free look n (suc c)) inside g ∙ (ap (λ (z : List ℕ). c ∷ z) b ∙ sym (looks_full n c e)))

-- ---- the n columns from c on
module _ (f : ℕ → Answer) (look : ℕ → Look) (capacity : ℕ) (count : ℕ → ℕ)
    (yes : (c : ℕ) → ltb capacity (count c) ≡ true → f c ≡ (Err IntervalRoom)) (no : (c : ℕ) → ltb capacity (count c) ≡ false → f c ≡ Ok (look c)) (slot : ℕ) where
  above_cons : (c : ℕ) (cs : List ℕ) → any_above capacity (map count (c ∷ cs)) ≡ (ltb capacity (count c) || any_above capacity (map count cs))
  unfolding any_above
  above_cons c cs = refl

  above-first : (c : ℕ) (cs : List ℕ) → ltb capacity (count c) ≡ true → any_above capacity (map count (c ∷ cs)) ≡ true
  above-first c cs e = above_cons c cs ∙ rw e

  above-rest : (c : ℕ) (cs : List ℕ) → ltb capacity (count c) ≡ false → any_above capacity (map count (c ∷ cs)) ≡ any_above capacity (map count cs)
  above-rest c cs e = above_cons c cs ∙ rw e

  above-none : any_above capacity (map count []) ≡ false
  unfolding any_above
  above-none = refl

  above-start : (c : ℕ) → any_above capacity (map count (looks_to look 0 c)) ≡ false
  unfolding looks_to any_above
  above-start c = refl

  fine-start : (c : ℕ) (counts : List ℕ) → search_from f slot 0 c counts ≡ looked (found_of (first_free look 0 c)) (set counts slot (get_or counts slot 0 + length (looks_to look 0 c)))
  unfolding search_from first_free looks_to
  fine-start c counts = ap (looked (Ok None)) (sym (ap (set counts slot) (let e : get_or counts slot 0 + 0 ≡ get_or counts slot 0 = omega arith in e) ∙ set-get_or counts slot 0))

  -- 22 where a look of the definition's list lacks room
  pub over_found : (n c : ℕ) (counts : List ℕ) → any_above capacity (map count (looks_to look n c)) ≡ true → (search_from f slot n c counts).found ≡ Err IntervalRoom
  over_found zero c counts h = absurd (true≢false (sym h ∙ above-start c))
  over_found (suc n) c counts h = go (either (ltb capacity (count c))) (look c) refl (over_found n (c + 1) (counted slot counts))
    where
      go : (ltb capacity (count c) ≡ true) ⊎ (ltb capacity (count c) ≡ false) → (l : Look) → look c ≡ l
          → (any_above capacity (map count (looks_to look n (c + 1))) ≡ true → (search_from f slot n (c + 1) (counted slot counts)).found ≡ (Err IntervalRoom)) → (search_from f slot (suc n) c counts).found ≡ Err IntervalRoom
      go (inl e) l q b = ap (λ (z : Looked). z.found) (search_overflow f slot c counts (suc n) n IntervalRoom refl (yes c e))
      go (inr e) (Free y g) q b = absurd (true≢false (sym h ∙ (ap (λ (z : List ℕ). any_above capacity (map count z)) (looks_free look n c y g q) ∙ (above-rest c [] e ∙ above-none))))
      go (inr e) Full q b =
          ap (λ (z : Looked). z.found) (search_full f slot c counts (suc n) n refl (no c e ∙ ap Ok q))
          ∙ b (ap (λ (z : ℕ). any_above capacity (map count (looks_to look n z))) (add-one c) ∙ (sym (above-rest c (looks_to look n (suc c)) e) ∙ (sym (ap (λ (z : List ℕ). any_above capacity (map count z)) (looks_full look n c q)) ∙ h)))

  -- else the definition's column, and one look more for each of the list
  pub fine-found : (n c : ℕ) (counts : List ℕ) → slot < length counts → any_above capacity (map count (looks_to look n c)) ≡ false
      → search_from f slot n c counts ≡ looked (found_of (first_free look n c)) (set counts slot (get_or counts slot 0 + length (looks_to look n c)))
  fine-found zero c counts b h = fine-start c counts
  fine-found (suc n) c counts b h = go (either (ltb capacity (count c))) (look c) refl (fine-found n (c + 1) (counted slot counts) (subst (λ (z : ℕ). slot < z) (sym (length-set counts slot (get_or counts slot 0 + 1))) b))
    where
      more : (a b m : ℕ) → a ≡ b + 1 → a + m ≡ b + suc m
      more a b m e = omega arith

      first : (y g : Float) → look c ≡ Free y g → looked (Ok (Some (c, y, g))) (counted slot counts) ≡ looked (found_of (first_free look (suc n) c)) (set counts slot (get_or counts slot 0 + length (looks_to look (suc n) c)))
      first y g q = sym (ap (λ (z : Filling.Found). looked (found_of z) (set counts slot (get_or counts slot 0 + length (looks_to look (suc n) c)))) (first_free_lem look n c y g q) ∙ ap (λ (z : List ℕ). looked (Ok (Some (c, y, g))) (set counts slot (get_or counts slot 0 + length z))) (looks_free look n c y g q))

      rest : look c ≡ Full → looked (found_of (first_free look n (c + 1))) (set (counted slot counts) slot (get_or (counted slot counts) slot 0 + length (looks_to look n (c + 1)))) ≡ looked (found_of (first_free look (suc n) c)) (set counts slot (get_or counts slot 0 + length (looks_to look (suc n) c)))
      rest q =
          ap (λ (z : ℕ). looked (found_of (first_free look n z)) (set (counted slot counts) slot (get_or (counted slot counts) slot 0 + length (looks_to look n z)))) (add-one c)
          ∙ (ap (looked (found_of (first_free look n (suc c)))) (set-set counts slot (get_or counts slot 0 + 1) _ ∙ ap (set counts slot) (more (get_or (counted slot counts) slot 0) (get_or counts slot 0) (length (looks_to look n (suc c))) (get_or-set_same counts slot (get_or counts slot 0 + 1) 0 b)))
          ∙ sym (ap (λ (z : Filling.Found). looked (found_of z) (set counts slot (get_or counts slot 0 + length (looks_to look (suc n) c)))) (first_full look n c q) ∙ ap (λ (z : List ℕ). looked (found_of (first_free look n (suc c))) (set counts slot (get_or counts slot 0 + length z))) (looks_full look n c q)))

      go : (ltb capacity (count c) ≡ true) ⊎ (ltb capacity (count c) ≡ false) → (l : Look) → look c ≡ l
          → (any_above capacity (map count (looks_to look n (c + 1))) ≡ false → search_from f slot n (c + 1) (counted slot counts) ≡ looked (found_of (first_free look n (c + 1))) (set (counted slot counts) slot (get_or (counted slot counts) slot 0 + length (looks_to look n (c + 1)))))
          → search_from f slot (suc n) c counts ≡ looked (found_of (first_free look (suc n) c)) (set counts slot (get_or counts slot 0 + length (looks_to look (suc n) c)))
      go (inl e) (Free y g) q r = absurd (true≢false (sym (ap (λ (z : List ℕ). any_above capacity (map count z)) (looks_free look n c y g q) ∙ above-first c [] e) ∙ h))
      go (inl e) Full q r = absurd (true≢false (sym (ap (λ (z : List ℕ). any_above capacity (map count z)) (looks_full look n c q) ∙ above-first c (looks_to look n (suc c)) e) ∙ h))
      go (inr e) (Free y g) q r = search_free f slot c counts (suc n) n y g refl (no c e ∙ ap Ok q) ∙ first y g q
      go (inr e) Full q r =
          search_full f slot c counts (suc n) n refl (no c e ∙ ap Ok q)
          ∙ (r (ap (λ (z : ℕ). any_above capacity (map count (looks_to look n z))) (add-one c) ∙ (sym (above-rest c (looks_to look n (suc c)) e) ∙ (sym (ap (λ (z : List ℕ). any_above capacity (map count z)) (looks_full look n c q)) ∙ h)))
          ∙ rest q)

-- ---- a shape's search
answer_over : (capacity : ℕ) (y_low y_high : Float) (is : List Interval) → ltb capacity (length is) ≡ true → answer_of capacity y_low y_high is ≡ Err IntervalRoom
unfolding answer_of
answer_over capacity y_low y_high is e = rw (e, answer_of)

answer_seen : (capacity : ℕ) (y_low y_high : Float) (is : List Interval) → ltb capacity (length is) ≡ false → answer_of capacity y_low y_high is ≡ Ok (Rattle.look.specs.height.Smallest.height_of y_low y_high is)
unfolding answer_of
answer_seen capacity y_low y_high is e = rw (e, answer_of)

module _ (p : Planner) (standing : List Float) (s : Shape) (capacity : ℕ) where
  abbrev pub columns_for : Columns
  columns_for = columns_of p.bounds s.bounds p.resolution

  abbrev pub answers_for : ℕ → Answer
  answers_for = answer_at capacity columns_for s.inset s.apart p.sheet standing

  -- how many intervals count at column c
  abbrev pub count_for : ℕ → ℕ
  count_for c = length (intervals_at p standing s c)

  answer_is : (c : ℕ) → answers_for c ≡ answer_of capacity (ranges_of p s).y_low (ranges_of p s).y_high (intervals_at p standing s c)
  unfolding answer_at look_of intervals_at ranges_of columns_of ranges column_x regular_of column_at columns regular_column
  answer_is c = refl

  look_is : (c : ℕ) → Rattle.look.specs.height.Smallest.height_of (ranges_of p s).y_low (ranges_of p s).y_high (intervals_at p standing s c) ≡ look_at p standing s c
  unfolding look_at
  look_is c = refl

  answer_yes : (c : ℕ) → ltb capacity (count_for c) ≡ true → answers_for c ≡ Err IntervalRoom
  answer_yes c e = answer_is c ∙ answer_over capacity _ _ (intervals_at p standing s c) e

  answer_no : (c : ℕ) → ltb capacity (count_for c) ≡ false → answers_for c ≡ Ok (look_at p standing s c)
  answer_no c e = answer_is c ∙ (answer_seen capacity _ _ (intervals_at p standing s c) e ∙ ap Ok (look_is c))

  reversed_is : reversed_for p s ≡ reversed_of columns_for
  unfolding reversed_for ranges_of
  reversed_is = sym (Same.reversed-same p.bounds s.bounds p.resolution)

  last_is : reversed_for p s ≡ false → Filling.last_of p s ≡ last_of columns_for
  unfolding Filling.last_of ranges_of
  last_is e = rw (e, Filling.last_of) (sym (Same.last-same p.bounds s.bounds p.resolution))

  abbrev pub look_for : ℕ → Look
  look_for = look_at p standing s

  search-reversed : (m : Remembered) → reversed_for p s ≡ true → Filling.search p standing s m ≡ Filling.nowhere
  unfolding Filling.search
  search-reversed none e = refl
  search-reversed (column c) e = rw (e, Filling.search)

  search-column : (c : ℕ) → reversed_for p s ≡ false → Filling.search p standing s (column c) ≡ first_free look_for (suc (Filling.last_of p s) - c) c
  unfolding Filling.search
  search-column c e = rw (e, Filling.search)

  looks-reversed : (m : Remembered) (g : Filling.Found) → reversed_for p s ≡ true → Filling.looks p s m g ≡ []
  unfolding Filling.looks
  looks-reversed none g e = refl
  looks-reversed (column c) g e = rw (e, Filling.looks)

  -- the looks at one orientation, by its number in the table
  abbrev pub found_for : ℕ → Filling.Found
  found_for m = Filling.search p standing s (remembered_of m)

  abbrev pub looks_for : ℕ → List ℕ
  looks_for m = Filling.looks p s (remembered_of m) (found_for m)

  -- a search that starts past the last column
  module _ (slot : ℕ) (counts next : List ℕ) where
    abbrev from : ℕ → Tracked
    from n = remembering slot next (search_from answers_for slot (last_of columns_for + 1 - n) n counts)

    started : (n : ℕ) → start_of columns_for (last_of columns_for) (get_or next slot 0) ≡ n → search_of answers_for columns_for slot counts next ≡ from n
    unfolding search_of
    started n e = ap from e

    past : from (last_of columns_for + 1) ≡ tracked (Ok None) counts (set next slot 0)
    unfolding remembering
    past = ap (λ (z : Looked). remembering slot next z) (search-end answers_for slot (last_of columns_for + 1) counts (last_of columns_for + 1 - (last_of columns_for + 1)) (omega arith))

    -- what the definition leaves of orientation and tables, by the number m that is remembered
    abbrev pub TrackedFor : ℕ → Tracked
    TrackedFor m = tracked (found_of (found_for m)) (set counts slot (get_or counts slot 0 + length (looks_for m))) (set next slot (remembered_number (remembered (found_for m))))

    number_is : (g : Filling.Found) → next_of (found_of g) ≡ remembered_number (remembered g)
    unfolding remembered remembered_number
    number_is (Filling.at c y g) = add-one c
    number_is Filling.nowhere = refl

    kept-number : (g : Filling.Found) (cs : List ℕ) → remembering slot next (looked (found_of g) cs) ≡ tracked (found_of g) cs (set next slot (remembered_number (remembered g)))
    unfolding remembering
    kept-number g cs = ap (λ (z : ℕ). tracked (found_of g) cs (set next slot z)) (number_is g)

    same_count : counts ≡ set counts slot (get_or counts slot 0 + 0)
    same_count = sym (ap (set counts slot) (let e : get_or counts slot 0 + 0 ≡ get_or counts slot 0 = omega arith in e) ∙ set-get_or counts slot 0)

    -- nothing is looked at
    idle : (m : ℕ) → start_of columns_for (last_of columns_for) (get_or next slot 0) ≡ last_of columns_for + 1 → found_for m ≡ Filling.nowhere → looks_for m ≡ [] → search_of answers_for columns_for slot counts next ≡ TrackedFor m
    unfolding remembered remembered_number
    idle m e g l =
        started (last_of columns_for + 1) e
        ∙ (past
        ∙ (ap (λ (z : List ℕ). tracked (Ok None) z (set next slot 0)) same_count
        ∙ sym (ap (λ (z : Filling.Found). tracked (found_of z) (set counts slot (get_or counts slot 0 + length (looks_for m))) (set next slot (remembered_number (remembered z)))) g
        ∙ ap (λ (z : List ℕ). tracked (Ok None) (set counts slot (get_or counts slot 0 + length z)) (set next slot 0)) l)))

    idle_none : (m : ℕ) → looks_for m ≡ [] → any_above capacity (map count_for (looks_for m)) ≡ true → ⊥
    idle_none m l h = true≢false (sym h ∙ (ap (λ (z : List ℕ). any_above capacity (map count_for z)) l ∙ above-none answers_for look_for capacity count_for answer_yes answer_no slot))

    -- the columns from c on are looked at
    module _ (c : ℕ) (e : get_or next slot 0 ≡ suc c) (r : reversed_for p s ≡ false) where
      some : get_or next slot 0 ≡ 0 → ⊥
      some z = absurd (omega (arith, e, z))

      start_is : start_of columns_for (last_of columns_for) (get_or next slot 0) ≡ c
      start_is = start_at columns_for (last_of columns_for) (get_or next slot 0) (sym reversed_is ∙ r) some ∙ (let q : get_or next slot 0 - 1 ≡ c = omega (arith, e) in q)

      n_is : suc (Filling.last_of p s) - c ≡ last_of columns_for + 1 - c
      n_is = let l = last_is r in omega (arith, l)

      found_is : found_for (suc c) ≡ first_free look_for (last_of columns_for + 1 - c) c
      unfolding remembered_of
      found_is = search-column c r ∙ ap (λ (z : ℕ). first_free look_for z c) n_is

      looks_is : looks_for (suc c) ≡ looks_to look_for (last_of columns_for + 1 - c) c
      unfolding remembered_of
      looks_is =
          looks_open p standing s c (found_for (suc c)) r
          ∙ (ap (columns_from c (Filling.last_of p s)) found_is ∙ columns_are look_for (last_of columns_for + 1 - c) c (Filling.last_of p s) (sym n_is))

      live_over : any_above capacity (map count_for (looks_for (suc c))) ≡ true → (search_of answers_for columns_for slot counts next).found ≡ Err IntervalRoom
      unfolding remembering
      live_over h =
          ap (λ (z : Tracked). z.found) (started c start_is)
          ∙ over_found answers_for look_for capacity count_for answer_yes answer_no slot (last_of columns_for + 1 - c) c counts (sym (ap (λ (z : List ℕ). any_above capacity (map count_for z)) looks_is) ∙ h)

      live_fine : slot < length counts → any_above capacity (map count_for (looks_for (suc c))) ≡ false → search_of answers_for columns_for slot counts next ≡ TrackedFor (suc c)
      live_fine b h =
          started c start_is
          ∙ (ap (remembering slot next) (fine-found answers_for look_for capacity count_for answer_yes answer_no slot (last_of columns_for + 1 - c) c counts b (sym (ap (λ (z : List ℕ). any_above capacity (map count_for z)) looks_is) ∙ h))
          ∙ (kept-number (first_free look_for (last_of columns_for + 1 - c) c) (set counts slot (get_or counts slot 0 + length (looks_to look_for (last_of columns_for + 1 - c) c)))
          ∙ sym (ap (λ (z : Filling.Found). tracked (found_of z) (set counts slot (get_or counts slot 0 + length (looks_for (suc c)))) (set next slot (remembered_number (remembered z)))) found_is
          ∙ ap (λ (z : List ℕ). tracked (found_of (first_free look_for (last_of columns_for + 1 - c) c)) (set counts slot (get_or counts slot 0 + length z)) (set next slot (remembered_number (remembered (first_free look_for (last_of columns_for + 1 - c) c))))) looks_is)))

    found-zero : found_for 0 ≡ Filling.nowhere
    unfolding remembered_of Filling.search
    found-zero = refl

    looks-zero : looks_for 0 ≡ []
    unfolding remembered_of Filling.looks
    looks-zero = refl

    start-zero : get_or next slot 0 ≡ 0 → start_of columns_for (last_of columns_for) (get_or next slot 0) ≡ last_of columns_for + 1
    start-zero e = go (either (reversed_of columns_for))
      where
        go : (reversed_of columns_for ≡ true) ⊎ (reversed_of columns_for ≡ false) → start_of columns_for (last_of columns_for) (get_or next slot 0) ≡ last_of columns_for + 1
        go (inl r) = start-reversed columns_for (last_of columns_for) (get_or next slot 0) r
        go (inr r) = start_none columns_for (last_of columns_for) (get_or next slot 0) r e

    start-turned : reversed_for p s ≡ true → start_of columns_for (last_of columns_for) (get_or next slot 0) ≡ last_of columns_for + 1
    start-turned r = start-reversed columns_for (last_of columns_for) (get_or next slot 0) (sym reversed_is ∙ r)

    -- 22: a look that is made lacks room
    pub same_over : (m : ℕ) → get_or next slot 0 ≡ m → any_above capacity (map count_for (looks_for m)) ≡ true → (search_of answers_for columns_for slot counts next).found ≡ Err IntervalRoom
    same_over zero e h = absurd (idle_none 0 looks-zero h)
    same_over (suc c) e h = go (either (reversed_for p s))
      where
        go : (reversed_for p s ≡ true) ⊎ (reversed_for p s ≡ false) → (search_of answers_for columns_for slot counts next).found ≡ Err IntervalRoom
        go (inl r) = absurd (idle_none (suc c) (looks-reversed (remembered_of (suc c)) (found_for (suc c)) r) h)
        go (inr r) = live_over c e r h

    -- else the definition's search, its look count and what it remembers
    pub same-fine : (m : ℕ) → get_or next slot 0 ≡ m → slot < length counts → any_above capacity (map count_for (looks_for m)) ≡ false → search_of answers_for columns_for slot counts next ≡ TrackedFor m
    same-fine zero e b h = idle 0 (start-zero e) found-zero looks-zero
    same-fine (suc c) e b h = go (either (reversed_for p s))
      where
        go : (reversed_for p s ≡ true) ⊎ (reversed_for p s ≡ false) → search_of answers_for columns_for slot counts next ≡ TrackedFor (suc c)
        go (inl r) = idle (suc c) (start-turned r) (search-reversed (remembered_of (suc c)) r) (looks-reversed (remembered_of (suc c)) (found_for (suc c)) r)
        go (inr r) = live_fine c e r b h
