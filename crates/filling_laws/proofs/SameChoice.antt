-- The choice in the code's order is the choice of the definition of filling, over every orientation of a kind: its winner, its look counts, what
-- it remembers, and 22 exactly where a look that is made lacks room. Assumes nothing.
use Rattle.std.specs.Prelude.{Some, None, Ok, Err}
use Rattle.index.specs.declared.Overrun.TheVariants.{IntervalRoom}
use Prim.{⊥}
use Prim.Native.Nat.{ℕ, zero, suc, ◌+◌, ◌<◌, ◌≤◌}
use native.Mathlib.Omega.{arith}
use native.Mathlib.Numerals.{add-one}
use mathlib.Core.Path.{◌≡◌, refl, sym, ap, ◌∙◌}
use mathlib.Core.Logic.{◌⊎◌, inl, inr}
use mathlib.Core.Bool.{Bool, true, false, ◌||◌, true≢false}
use mathlib.Core.List.{List, [], ◌∷◌, ◌++◌, map, append_assoc, append-nil}
use lib.ListN.{length, get_or, set, length-set}
use lib.Seq.{sets, get_or-set_other}
use lib.Ieee.{Float}
use Rattle.numbers.specs.Numbers.{◌⊕◌}
use Rattle.numbers.proofs.Truth.{either}
use Rattle.index.specs.Buckets.{up_from}
use Rattle.filling.specs.Shapes.{Planner, Shape}
use Rattle.filling.specs.Search as Filling
use Rattle.filling.specs.Search.{Track, ranges_of, remembered, search_all, searched_all}
use Rattle.filling.specs.Choice as Definition
use Rattle.filling.specs.Choice.{choice_of, choices, best}
use Rattle.filling.specs.State.{remembered_number, track_at}
use Rattle.filling.specs.NextCopy.{any_above, interval_counts}
use Rattle.search.proofs.columns.Same as Same
use Rattle.search.specs.inner.Searching.{Found}
use Rattle.search.specs.inner.Searching.{Tracked}
use Rattle.choose.specs.declared.Choice.{Choice}
use Rattle.choose.specs.inner.Choosing.{Winner}
use Rattle.choose.specs.inner.Choosing.{bounds_at, part_at, inset_part, apart_part, winner_of, wins_of, better_of, Surroundings, surroundings, columns_at, Chosen, chosen, won, orientation_of, bettered, choose_from}
use Rattle.choose.proofs.Turns.{first-true, first-false}
use Rattle.filling_laws.proofs.SameSearch.{found_of, count_for, found_for, looks_for, same_over, same-fine}

-- ---- the winner
abbrev pub choice_in : Definition.Choice → Choice
choice_in c = record { orientation = c.orientation; x = c.x; y = c.y; gap = c.gap; right = c.right; top = c.top }

abbrev pub best_of : List Definition.Choice → Winner
best_of [] = Ok None
best_of (a ∷ as') = Ok (Some (choice_in (best a as')))

best_yes : (a b : Definition.Choice) (bs : List Definition.Choice) → Definition.wins b a ≡ true → best a (b ∷ bs) ≡ best b bs
unfolding best
best_yes a b bs e = rw (e, best)

best_no : (a b : Definition.Choice) (bs : List Definition.Choice) → Definition.wins b a ≡ false → best a (b ∷ bs) ≡ best a bs
unfolding best
best_no a b bs e = rw (e, best)

best_none : (a : Definition.Choice) → best a [] ≡ a
unfolding best
best_none a = refl

-- one more at the end wins only over the best before it
snoc_yes : (a d : Definition.Choice) (as' : List Definition.Choice) → Definition.wins d (best a as') ≡ true → best a (as' ++ d ∷ []) ≡ d
snoc_yes a d [] h = best_yes a d [] (ap (Definition.wins d) (sym (best_none a)) ∙ h) ∙ best_none d
snoc_yes a d (b ∷ bs) h = go (either (Definition.wins b a)) (snoc_yes a d bs) (snoc_yes b d bs)
  where
    go : (Definition.wins b a ≡ true) ⊎ (Definition.wins b a ≡ false) → (Definition.wins d (best a bs) ≡ true → best a (bs ++ d ∷ []) ≡ d) → (Definition.wins d (best b bs) ≡ true → best b (bs ++ d ∷ []) ≡ d) → best a (b ∷ bs ++ d ∷ []) ≡ d
    go (inl e) f g = best_yes a b (bs ++ d ∷ []) e ∙ g (ap (Definition.wins d) (sym (best_yes a b bs e)) ∙ h)
    go (inr e) f g = best_no a b (bs ++ d ∷ []) e ∙ f (ap (Definition.wins d) (sym (best_no a b bs e)) ∙ h)

snoc_no : (a d : Definition.Choice) (as' : List Definition.Choice) → Definition.wins d (best a as') ≡ false → best a (as' ++ d ∷ []) ≡ best a as'
snoc_no a d [] h = best_no a d [] (ap (Definition.wins d) (sym (best_none a)) ∙ h)
snoc_no a d (b ∷ bs) h = go (either (Definition.wins b a)) (snoc_no a d bs) (snoc_no b d bs)
  where
    go : (Definition.wins b a ≡ true) ⊎ (Definition.wins b a ≡ false) → (Definition.wins d (best a bs) ≡ false → best a (bs ++ d ∷ []) ≡ best a bs) → (Definition.wins d (best b bs) ≡ false → best b (bs ++ d ∷ []) ≡ best b bs) → best a (b ∷ bs ++ d ∷ []) ≡ best a (b ∷ bs)
    go (inl e) f g = best_yes a b (bs ++ d ∷ []) e ∙ (g (ap (Definition.wins d) (sym (best_yes a b bs e)) ∙ h) ∙ sym (best_yes a b bs e))
    go (inr e) f g = best_no a b (bs ++ d ∷ []) e ∙ (f (ap (Definition.wins d) (sym (best_no a b bs e)) ∙ h) ∙ sym (best_no a b bs e))

wins-same : (a b : Definition.Choice) → wins_of (choice_in a) (choice_in b) ≡ Definition.wins a b
unfolding wins_of Definition.wins
wins-same a b = refl

better-one : (cs : List Definition.Choice) (d : Definition.Choice) → better_of (best_of cs) (Ok (Some (choice_in d))) ≡ best_of (cs ++ d ∷ [])
better-one [] d = ap (λ (z : Definition.Choice). Ok (Some (choice_in z))) (sym (best_none d))
better-one (a ∷ as') d = go (either (Definition.wins d (best a as')))
  where
    go : (Definition.wins d (best a as') ≡ true) ⊎ (Definition.wins d (best a as') ≡ false) → better_of (best_of (a ∷ as')) (Ok (Some (choice_in d))) ≡ best_of (a ∷ as' ++ d ∷ [])
    go (inl e) = first-true (choice_in (best a as')) (choice_in d) (wins-same d (best a as') ∙ e) ∙ ap (λ (z : Definition.Choice). Ok (Some (choice_in z))) (sym (snoc_yes a d as' e))
    go (inr e) = first-false (choice_in (best a as')) (choice_in d) (wins-same d (best a as') ∙ e) ∙ ap (λ (z : Definition.Choice). Ok (Some (choice_in z))) (sym (snoc_no a d as' e))

better-nowhere : (cs : List Definition.Choice) → better_of (best_of cs) (Ok None) ≡ best_of (cs ++ [])
better-nowhere [] = refl
better-nowhere (a ∷ as') = ap best_of (sym (append-nil (a ∷ as')))

better_overflow : (cs : List Definition.Choice) → better_of (best_of cs) (Err IntervalRoom) ≡ Err IntervalRoom
better_overflow [] = refl
better_overflow (a ∷ as') = refl

-- ---- counts above the room's
above_append : (capacity : ℕ) (xs ys : List ℕ) → any_above capacity (xs ++ ys) ≡ (any_above capacity xs || any_above capacity ys)
unfolding any_above
above_append capacity [] ys = refl
above_append capacity (x ∷ xs) ys = go (lib.Dec.ltb capacity x) (above_append capacity xs ys)
  where
    go : (t : Bool) → any_above capacity (xs ++ ys) ≡ (any_above capacity xs || any_above capacity ys) → (t || any_above capacity (xs ++ ys)) ≡ ((t || any_above capacity xs) || any_above capacity ys)
    go true e = refl
    go false e = e

module _ (capacity : ℕ) (xs ys : List ℕ) where
  none_first : any_above capacity (xs ++ ys) ≡ false → any_above capacity xs ≡ false
  none_first h = go (any_above capacity xs) (sym (above_append capacity xs ys) ∙ h)
    where
      go : (t : Bool) → (t || any_above capacity ys) ≡ false → t ≡ false
      go true e = absurd (true≢false e)
      go false e = refl

  none_rest : any_above capacity (xs ++ ys) ≡ false → any_above capacity ys ≡ false
  none_rest h = go (any_above capacity xs) (sym (above_append capacity xs ys) ∙ h)
    where
      go : (t : Bool) → (t || any_above capacity ys) ≡ false → any_above capacity ys ≡ false
      go true e = absurd (true≢false e)
      go false e = e

  some-rest : any_above capacity (xs ++ ys) ≡ true → any_above capacity xs ≡ false → any_above capacity ys ≡ true
  some-rest h f = sym (ap (λ (t : Bool). t || any_above capacity ys) f) ∙ (sym (above_append capacity xs ys) ∙ h)

-- ---- the orientations in turn
module _ (p : Planner) (standing : List Float) (capacity : ℕ) (inset_bounds : List Float) (parts : List ℕ) (apart inset : List Float) (slot : ℕ) where
  abbrev pub world_of : Surroundings
  world_of = surroundings capacity p.bounds p.resolution inset_bounds parts apart inset p.sheet standing

  -- the shape in slot i, as the rooms and tables hold it
  abbrev pub shape_in : ℕ → Shape
  shape_in i = record { apart = apart_part (part_at parts i) apart; inset = inset_part (part_at parts i) inset; bounds = bounds_at inset_bounds i }

  abbrev pub shapes_from : ℕ → ℕ → List Shape
  shapes_from n o = map (λ j. shape_in (slot + j)) (up_from n o)

  abbrev pub tracks_from : List ℕ → List ℕ → ℕ → ℕ → List Track
  tracks_from counts next n o = map (λ j. track_at next counts (slot + j)) (up_from n o)

  abbrev pub founds_from : List ℕ → List ℕ → ℕ → ℕ → List Filling.Found
  founds_from counts next n o = search_all p standing (shapes_from n o) (tracks_from counts next n o)

  abbrev pub tracked_from : List ℕ → List ℕ → ℕ → ℕ → List Track
  tracked_from counts next n o = searched_all p (shapes_from n o) (tracks_from counts next n o) (founds_from counts next n o)

  abbrev pub above_from : List ℕ → List ℕ → ℕ → ℕ → Bool
  above_from counts next n o = any_above capacity (interval_counts p standing (shapes_from n o) (tracks_from counts next n o) (founds_from counts next n o))

  -- the orientation o
  module _ (o : ℕ) (counts next : List ℕ) where
    abbrev i : ℕ
    i = slot + o

    abbrev m : ℕ
    m = get_or next i 0

    abbrev found : Filling.Found
    found = found_for p standing (shape_in i) capacity m

    abbrev made : List ℕ
    made = map (count_for p standing (shape_in i) capacity) (looks_for p standing (shape_in i) capacity m)

    abbrev count : ℕ
    count = get_or counts i 0 + length (looks_for p standing (shape_in i) capacity m)

    abbrev number : ℕ
    number = remembered_number (remembered found)

    choice_is : (g : Filling.Found) (cs : List Definition.Choice) → better_of (best_of cs) (winner_of (columns_at world_of i) (bounds_at inset_bounds i) o (found_of g)) ≡ best_of (cs ++ choice_of p o (shape_in i) g)
    unfolding choice_of ranges_of
    choice_is (Filling.at c y g) cs =
        ap (λ (x : Float). better_of (best_of cs) (Ok (Some (record { orientation = o; x = x; y = y; gap = g; right = x ⊕ (bounds_at inset_bounds i).right; top = y ⊕ (bounds_at inset_bounds i).top })))) (Same.x_same p.bounds (bounds_at inset_bounds i) p.resolution c)
        ∙ better-one cs _
    choice_is Filling.nowhere cs = better-nowhere cs

    turn_fine : (cs : List Definition.Choice) → i < length counts → any_above capacity made ≡ false
        → bettered (best_of cs) (orientation_of world_of i o counts next) ≡ chosen (best_of (cs ++ choice_of p o (shape_in i) found)) (set counts i count) (set next i number)
    unfolding bettered orientation_of won
    turn_fine cs b h =
        ap (λ (z : Tracked). chosen (better_of (best_of cs) (winner_of (columns_at world_of i) (bounds_at inset_bounds i) o z.found)) z.counts z.next) (same-fine p standing (shape_in i) capacity i counts next m refl b h)
        ∙ ap (λ (v : Winner). chosen v (set counts i count) (set next i number)) (choice_is found cs)

    turn_over : (cs : List Definition.Choice) → any_above capacity made ≡ true → (bettered (best_of cs) (orientation_of world_of i o counts next)).winner ≡ Err IntervalRoom
    unfolding bettered orientation_of won
    turn_over cs h =
        ap (λ (z : Found). better_of (best_of cs) (winner_of (columns_at world_of i) (bounds_at inset_bounds i) o z)) (same_over p standing (shape_in i) capacity i counts next m refl h)
        ∙ better_overflow cs

    -- ---- the lists, taken apart
    module _ (n : ℕ) where
      above_is : above_from counts next (suc n) o ≡ any_above capacity (made ++ interval_counts p standing (shapes_from n (suc o)) (tracks_from counts next n (suc o)) (founds_from counts next n (suc o)))
      unfolding up_from interval_counts search_all track_at
      above_is = refl

      choices_are : choices p o (shapes_from (suc n) o) (founds_from counts next (suc n) o) ≡ choice_of p o (shape_in i) found ++ choices p (suc o) (shapes_from n (suc o)) (founds_from counts next n (suc o))
      unfolding up_from search_all choices track_at
      choices_are = refl

      counts_are : map (λ (t : Track). t.look_count) (tracked_from counts next (suc n) o) ≡ count ∷ map (λ (t : Track). t.look_count) (tracked_from counts next n (suc o))
      unfolding up_from search_all searched_all Filling.searched track_at
      counts_are = refl

      numbers_are : map (λ (t : Track). remembered_number t.next_column) (tracked_from counts next (suc n) o) ≡ number ∷ map (λ (t : Track). remembered_number t.next_column) (tracked_from counts next n (suc o))
      unfolding up_from search_all searched_all Filling.searched track_at
      numbers_are = refl

  -- another slot's track is as it was
  track_same : (counts next : List ℕ) (i v u j : ℕ) → (j ≡ i → ⊥) → track_at (set next i u) (set counts i v) j ≡ track_at next counts j
  unfolding track_at
  track_same counts next i v u j h = rw (get_or-set_other next i j u 0 h, get_or-set_other counts i j v 0 h)

  tracks_same : (counts next : List ℕ) (o v u n j : ℕ) → o < j → tracks_from (set counts (slot + o) v) (set next (slot + o) u) n j ≡ tracks_from counts next n j
  unfolding up_from
  tracks_same counts next o v u zero j h = refl
  tracks_same counts next o v u (suc n) j h =
      let e = track_same counts next (slot + o) v u (slot + j) (λ z. omega (arith, z)) in
      let b = tracks_same counts next o v u n (suc j) (omega arith) in
      rw (e, b)

  choose_suc : (n o : ℕ) (b : Chosen) → choose_from world_of slot (suc n) o b ≡ choose_from world_of slot n (suc o) (bettered b.winner (orientation_of world_of (slot + o) o b.counts b.next))
  unfolding choose_from
  choose_suc n o b = ap (λ (z : ℕ). choose_from world_of slot n z (bettered b.winner (orientation_of world_of (slot + o) o b.counts b.next))) (add-one o)

  zero-winner : (o : ℕ) (b : Chosen) → (choose_from world_of slot 0 o b).winner ≡ b.winner
  unfolding choose_from
  zero-winner o b = refl

  overflowed : (v : Winner) (b : Chosen) → v ≡ (Err IntervalRoom) → (bettered v b).winner ≡ Err IntervalRoom
  unfolding bettered
  overflowed v b e = ap (λ (z : Winner). better_of z b.winner) e

  none-zero : (counts next : List ℕ) (o : ℕ) → above_from counts next 0 o ≡ false
  unfolding up_from interval_counts search_all any_above
  none-zero counts next o = refl

  fine-zero : (o : ℕ) (cs : List Definition.Choice) (counts next : List ℕ) → choose_from world_of slot 0 o (chosen (best_of cs) counts next)
      ≡ chosen (best_of (cs ++ choices p o (shapes_from 0 o) (founds_from counts next 0 o))) (sets counts (slot + o) (map (λ (t : Track). t.look_count) (tracked_from counts next 0 o))) (sets next (slot + o) (map (λ (t : Track). remembered_number t.next_column) (tracked_from counts next 0 o)))
  unfolding choose_from up_from choices search_all searched_all
  fine-zero o cs counts next = ap (λ (z : List Definition.Choice). chosen (best_of z) counts next) (sym (append-nil cs))

  -- a look without room is never made good
  absorbed : (n o : ℕ) (b : Chosen) → b.winner ≡ (Err IntervalRoom) → (choose_from world_of slot n o b).winner ≡ Err IntervalRoom
  absorbed zero o b e = zero-winner o b ∙ e
  absorbed (suc n) o b e =
      ap (λ (z : Chosen). z.winner) (choose_suc n o b)
      ∙ absorbed n (suc o) (bettered b.winner (orientation_of world_of (slot + o) o b.counts b.next)) (overflowed b.winner (orientation_of world_of (slot + o) o b.counts b.next) e)

  pub choose_over : (n o : ℕ) (cs : List Definition.Choice) (counts next : List ℕ) → slot + o + n ≤ length counts → above_from counts next n o ≡ true → (choose_from world_of slot n o (chosen (best_of cs) counts next)).winner ≡ Err IntervalRoom
  choose_over zero o cs counts next b h = absurd (true≢false (sym h ∙ none-zero counts next o))
  choose_over (suc n) o cs counts next b h =
      go (either (any_above capacity (made o counts next)))
      (λ e. choose_over n (suc o) (cs ++ choice_of p o (shape_in (slot + o)) (found o counts next)) (set counts (slot + o) (count o counts next)) (set next (slot + o) (number o counts next))
      (let l = length-set counts (slot + o) (count o counts next) in omega arith)
      (ap (λ (z : List Track). any_above capacity (interval_counts p standing (shapes_from n (suc o)) z (search_all p standing (shapes_from n (suc o)) z))) (tracks_same counts next o (count o counts next) (number o counts next) n (suc o) (omega arith))
      ∙ some-rest capacity (made o counts next) (interval_counts p standing (shapes_from n (suc o)) (tracks_from counts next n (suc o)) (founds_from counts next n (suc o))) (sym (above_is o counts next n) ∙ h) e))
    where
      go : (any_above capacity (made o counts next) ≡ true) ⊎ (any_above capacity (made o counts next) ≡ false)
          → (any_above capacity (made o counts next) ≡ false → (choose_from world_of slot n (suc o) (chosen (best_of (cs ++ choice_of p o (shape_in (slot + o)) (found o counts next))) (set counts (slot + o) (count o counts next)) (set next (slot + o) (number o counts next)))).winner ≡ (Err IntervalRoom))
          → (choose_from world_of slot (suc n) o (chosen (best_of cs) counts next)).winner ≡ Err IntervalRoom
      go (inl e) r =
          ap (λ (z : Chosen). z.winner) (choose_suc n o (chosen (best_of cs) counts next))
          ∙ absorbed n (suc o) (bettered (best_of cs) (orientation_of world_of (slot + o) o counts next)) (turn_over o counts next cs e)
      go (inr e) r =
          ap (λ (z : Chosen). z.winner) (choose_suc n o (chosen (best_of cs) counts next))
          ∙ (ap (λ (z : Chosen). (choose_from world_of slot n (suc o) z).winner) (turn_fine o counts next cs (omega arith) e) ∙ r e)

  pub choose_fine : (n o : ℕ) (cs : List Definition.Choice) (counts next : List ℕ) → slot + o + n ≤ length counts → above_from counts next n o ≡ false
      → choose_from world_of slot n o (chosen (best_of cs) counts next)
      ≡ chosen (best_of (cs ++ choices p o (shapes_from n o) (founds_from counts next n o))) (sets counts (slot + o) (map (λ (t : Track). t.look_count) (tracked_from counts next n o))) (sets next (slot + o) (map (λ (t : Track). remembered_number t.next_column) (tracked_from counts next n o)))
  choose_fine zero o cs counts next b h = fine-zero o cs counts next
  choose_fine (suc n) o cs counts next b h =
      choose_suc n o (chosen (best_of cs) counts next)
      ∙ (ap (choose_from world_of slot n (suc o)) (turn_fine o counts next cs (omega arith) head)
      ∙ (choose_fine n (suc o) (cs ++ here) counts' next' (let l = length-set counts (slot + o) (count o counts next) in omega arith) (ap (λ (z : List Track). any_above capacity (interval_counts p standing (shapes_from n (suc o)) z (search_all p standing (shapes_from n (suc o)) z))) same ∙ tail)
      ∙ (ap (λ (z : List Track). chosen (best_of (cs ++ here ++ choices p (suc o) (shapes_from n (suc o)) (search_all p standing (shapes_from n (suc o)) z))) (sets counts' (slot + suc o) (map (λ (t : Track). t.look_count) (searched_all p (shapes_from n (suc o)) z (search_all p standing (shapes_from n (suc o)) z)))) (sets next' (slot + suc o) (map (λ (t : Track). remembered_number t.next_column) (searched_all p (shapes_from n (suc o)) z (search_all p standing (shapes_from n (suc o)) z))))) same
      ∙ joined)))
    where
      here : List Definition.Choice
      here = choice_of p o (shape_in (slot + o)) (found o counts next)

      counts' : List ℕ
      counts' = set counts (slot + o) (count o counts next)

      next' : List ℕ
      next' = set next (slot + o) (number o counts next)

      rest : List ℕ
      rest = interval_counts p standing (shapes_from n (suc o)) (tracks_from counts next n (suc o)) (founds_from counts next n (suc o))

      head : any_above capacity (made o counts next) ≡ false
      head = none_first capacity (made o counts next) rest (sym (above_is o counts next n) ∙ h)

      tail : any_above capacity rest ≡ false
      tail = none_rest capacity (made o counts next) rest (sym (above_is o counts next n) ∙ h)

      same : tracks_from counts' next' n (suc o) ≡ tracks_from counts next n (suc o)
      same = tracks_same counts next o (count o counts next) (number o counts next) n (suc o) (omega arith)

      on : slot + suc o ≡ suc (slot + o)
      on = omega arith

      joined : chosen (best_of (cs ++ here ++ choices p (suc o) (shapes_from n (suc o)) (founds_from counts next n (suc o)))) (sets counts' (slot + suc o) (map (λ (t : Track). t.look_count) (tracked_from counts next n (suc o)))) (sets next' (slot + suc o) (map (λ (t : Track). remembered_number t.next_column) (tracked_from counts next n (suc o))))
          ≡ chosen (best_of (cs ++ choices p o (shapes_from (suc n) o) (founds_from counts next (suc n) o))) (sets counts (slot + o) (map (λ (t : Track). t.look_count) (tracked_from counts next (suc n) o))) (sets next (slot + o) (map (λ (t : Track). remembered_number t.next_column) (tracked_from counts next (suc n) o)))
      joined =
          ap (λ (z : ℕ). chosen (best_of (cs ++ here ++ choices p (suc o) (shapes_from n (suc o)) (founds_from counts next n (suc o)))) (sets counts' z (map (λ (t : Track). t.look_count) (tracked_from counts next n (suc o)))) (sets next' z (map (λ (t : Track). remembered_number t.next_column) (tracked_from counts next n (suc o))))) on
          ∙ sym (ap (λ (z : List Definition.Choice). chosen (best_of (cs ++ z)) (sets counts (slot + o) (map (λ (t : Track). t.look_count) (tracked_from counts next (suc n) o))) (sets next (slot + o) (map (λ (t : Track). remembered_number t.next_column) (tracked_from counts next (suc n) o)))) (choices_are o counts next n)
          ∙ (ap (λ (z : List Definition.Choice). chosen (best_of z) (sets counts (slot + o) (map (λ (t : Track). t.look_count) (tracked_from counts next (suc n) o))) (sets next (slot + o) (map (λ (t : Track). remembered_number t.next_column) (tracked_from counts next (suc n) o)))) (sym (append_assoc cs here (choices p (suc o) (shapes_from n (suc o)) (founds_from counts next n (suc o)))))
          ∙ (ap (λ (z : List ℕ). chosen (best_of (cs ++ here ++ choices p (suc o) (shapes_from n (suc o)) (founds_from counts next n (suc o)))) (sets counts (slot + o) z) (sets next (slot + o) (map (λ (t : Track). remembered_number t.next_column) (tracked_from counts next (suc n) o)))) (counts_are o counts next n)
          ∙ ap (λ (z : List ℕ). chosen (best_of (cs ++ here ++ choices p (suc o) (shapes_from n (suc o)) (founds_from counts next n (suc o)))) (sets counts (slot + o) (count o counts next ∷ map (λ (t : Track). t.look_count) (tracked_from counts next n (suc o)))) (sets next (slot + o) z)) (numbers_are o counts next n))))
