-- Placing a copy in code is the step of the definition of filling: 22, then 20, then 21, else what it leaves. Assumes nothing.
use Rattle.index.specs.declared.Overrun.TheVariants.{EntryRoom, StripRoom}
use Rattle.index.specs.declared.Overrun.TheVariants.{IntervalRoom}
use Rattle.std.specs.Prelude.{Result, Ok, Err, Some, None}
use Prim.{⊥}
use Prim.Native.Nat.{ℕ, zero, suc, ◌+◌, ◌*◌, ◌<◌, ◌≤◌}
use native.Mathlib.Omega.{arith}
use native.Mathlib.Numerals.{add-one}
use mathlib.Core.Path.{◌≡◌, refl, sym, ap, ap₂, ◌∙◌, subst}
use mathlib.Core.Logic.{◌⊎◌, inl, inr}
use mathlib.Core.Bool.{Bool, true, false}
use mathlib.Core.List.{List, [], ◌∷◌, ◌++◌, map}
use lib.ListN.{length, get_or, take}
use lib.Seq.{sets}
use lib.Dec.{ltb}
use lib.Ieee.{Float}
use Rattle.numbers.specs.Numbers.{larger, pos_zero}
use Rattle.numbers.proofs.Truth.{either}
use Rattle.trapezoid.specs.Strip.{capacity}
use Rattle.index.specs.declared.Index.{Index}
use Rattle.index.specs.Buckets.{up_from, entries_of, firsts_of, standing_capacity}
use Rattle.index.specs.inner.Listing.{FirstBuckets}
use Rattle.enter.specs.inner.EntryRoom.{starts_of}
use Rattle.filling.specs.declared.State.{State}
use Rattle.filling.specs.declared.Refusal.{Refusal}
use Rattle.filling.specs.declared.Refusal.TheVariants as Why
use Rattle.filling.specs.Refusals.{refuse_if}
use Rattle.filling.specs.Shapes.{Planner, Shape, no_shape, shape_of, moved_strips}
use Rattle.filling.specs.Search.{Track, search_all, searched_all}
use Rattle.filling.specs.Choice as Definition
use Rattle.filling.specs.Choice.{choices, best}
use Rattle.filling.specs.Rooms.{Rooms, interval_capacity, laid, zeros}
use Rattle.filling.specs.State.{remembered_number}
use Rattle.filling.specs.Consistent.{sheet_index, entries_for, firsts_for}
use Rattle.filling.specs.NextCopy as Next
use Rattle.filling.specs.NextCopy.{any_above, interval_counts, new_strips, store_verdict, winner_verdict, copy_verdict, entered, state_with, layout_after, state_after, stored, rooms_after, no_step, place_found, place_copy}
use Rattle.filling.proofs.Steps.{refuse_yes, refuse_no}
use Rattle.choose.specs.inner.Choosing.{Winner}
use Rattle.choose.specs.inner.Choosing.{part_at, apart_part, Chosen, chosen, choose_from}
use Rattle.store.specs.inner.Storing.{Left, left, together, store_of, FirstsLaid}
use Rattle.store.proofs.Strips.{strips-count}
use Rattle.place.specs.declared.Totals.{Totals}
use Rattle.place.specs.inner.Placing.{Outcome}
use Rattle.place.specs.inner.Placing.{totals_of, step, without_of, put, put_left, put_of, settle_of, Placed, place_with, place_of, orientation_number, outcome_x, y_of, gap_of}
use Rattle.place.proofs.Putting.{chosen_among}
use Rattle.filling_laws.proofs.Firsts.{firsts_stay, firsts_front}
use Rattle.filling_laws.proofs.SameChoice.{choice_in, best_of, world_of, shape_in, shapes_from, tracks_from, choose_over, choose_fine}

-- ---- the definition's step, from what the code leaves: firsts are the placed strips' bucket numbers after it

abbrev pub taken_with : State → Rooms → List Float → List ℕ → Placed → Next.Step
taken_with s w intervals firsts r =
    record {
      verdict = Ok tt;
      state = record {
        tables = s.tables;
        order = s.order;
        taken = suc s.taken;
        next_column = r.next;
        look_counts = r.counts;
        placed_strips = r.left.reply.totals.placed_strips;
        layout = entered s.layout s.taken (orientation_number r.left.reply.outcome) (outcome_x r.left.reply.outcome)
            (y_of r.left.reply.outcome) (gap_of r.left.reply.outcome) r.left.reply.totals.unplaced_area r.left.reply.totals.right;
      };
      rooms = record {
        shapes = w.shapes;
        sheet = w.sheet;
        placed = r.left.placed;
        sheet_entries = w.sheet_entries;
        placed_entries = r.left.entries;
        sheet_firsts = w.sheet_firsts;
        placed_firsts = firsts;
      };
      intervals = zeros pos_zero intervals;
    }

abbrev pub step_by : Outcome → State → Rooms → List Float → List ℕ → Placed → Next.Step
step_by (Ok (Some c)) s w intervals firsts r = taken_with s w intervals firsts r
step_by (Ok None) s w intervals firsts r = taken_with s w intervals firsts r
step_by (Err k) s w intervals firsts r = no_step k s w intervals

abbrev pub step_from : State → Rooms → List Float → List ℕ → Placed → Next.Step
step_from s w intervals firsts r = step_by r.left.reply.outcome s w intervals firsts r

get_d_shapes : (f : ℕ → Shape) (n c i : ℕ) → i < n → get_or (map f (up_from n c)) i no_shape ≡ f (c + i)
unfolding up_from
get_d_shapes f zero c i h = absurd (no h)
  where
    no : i < zero → ⊥
    no h = omega arith
get_d_shapes f (suc n) c zero h = let e : c + 0 ≡ c = omega arith in rw e
get_d_shapes f (suc n) c (suc i) h = let e : suc c + i ≡ c + suc i = omega arith in get_d_shapes f n (suc c) i (omega arith) ∙ ap f e

module _ (p : Planner) (k : ℕ) (s : State) (w : Rooms) (intervals : List Float) (inset_bounds : List Float) (parts : List ℕ) (apart inset : List Float) (n : ℕ) (starts : List ℕ)
    (room : 6 * s.placed_strips ≤ length w.placed) (slots : 16 * k + n ≤ length s.look_counts) where
  abbrev pub standing : List Float
  standing = take (6 * s.placed_strips) w.placed

  abbrev pub slot : ℕ
  slot = 16 * k

  abbrev room_of : ℕ
  room_of = interval_capacity intervals

  abbrev pub ss : List Shape
  ss = shapes_from p standing room_of inset_bounds parts apart inset slot n 0

  abbrev pub ts : List Track
  ts = tracks_from p standing room_of inset_bounds parts apart inset slot s.look_counts s.next_column n 0

  abbrev cs : List Definition.Choice
  cs = choices p 0 ss (search_all p standing ss ts)

  abbrev ix : Index
  ix = sheet_index p.bounds

  abbrev area : Float
  area = get_or p.areas k pos_zero

  abbrev t : Totals
  t = totals_of s

  -- what the code leaves
  abbrev pub code_of : Placed
  code_of = place_of ix (world_of p standing room_of inset_bounds parts apart inset slot) area slot n t w.placed w.placed_entries starts w.placed_firsts s.look_counts s.next_column

  abbrev given : Chosen → Placed
  given c = place_with ix (world_of p standing room_of inset_bounds parts apart inset slot) area slot t w.placed w.placed_entries starts w.placed_firsts c

  abbrev choice : Chosen
  choice = choose_from (world_of p standing room_of inset_bounds parts apart inset slot) slot n 0 (chosen (Ok None) s.look_counts s.next_column)

  code_is : (c : Chosen) → choice ≡ c → code_of ≡ given c
  unfolding place_of
  code_is c e = ap given e

  abbrev counts' : List ℕ
  counts' = sets s.look_counts slot (map (λ (t : Track). t.look_count) (searched_all p ss ts (search_all p standing ss ts)))

  abbrev next' : List ℕ
  next' = sets s.next_column slot (map (λ (t : Track). remembered_number t.next_column) (searched_all p ss ts (search_all p standing ss ts)))

  at_slot : slot + 0 ≡ slot
  at_slot = omega arith

  fine_choice : any_above room_of (interval_counts p standing ss ts (search_all p standing ss ts)) ≡ false → choice ≡ chosen (best_of cs) counts' next'
  fine_choice h =
      choose_fine p standing room_of inset_bounds parts apart inset slot n 0 [] s.look_counts s.next_column (omega arith) h
      ∙ ap (λ (z : ℕ). chosen (best_of cs) (sets s.look_counts z (map (λ (t : Track). t.look_count) (searched_all p ss ts (search_all p standing ss ts)))) (sets s.next_column z (map (λ (t : Track). remembered_number t.next_column) (searched_all p ss ts (search_all p standing ss ts))))) at_slot

  over_choice : any_above room_of (interval_counts p standing ss ts (search_all p standing ss ts)) ≡ true → choice.winner ≡ Err IntervalRoom
  over_choice h = choose_over p standing room_of inset_bounds parts apart inset slot n 0 [] s.look_counts s.next_column (omega arith) h

  -- ---- the definition, by the list of the kind's shapes and tracks
  abbrev accepted : Next.Step
  accepted = record { verdict = Ok tt; state = state_after p k (searched_all p ss ts (search_all p standing ss ts)) s standing cs; rooms = rooms_after p k w standing cs; intervals = zeros pos_zero intervals }

  module _ (shaped : get_or p.shapes k [] ≡ ss) (firsts : List ℕ) (true-before : FirstBuckets ix w.placed s.placed_strips w.placed_firsts) where
    -- the numbers are those of the strips that the code leaves
    abbrev Written : Placed → Type 0
    Written D = FirstsLaid ix D.left.placed D.left.reply.totals.placed_strips w.placed_firsts firsts

    abbrev verdict : Result (Unit {0}) Refusal
    verdict = copy_verdict p w intervals k standing ss ts (search_all p standing ss ts)

    taken_by : List Shape → Next.Step
    taken_by zs =
        record {
          verdict = Ok tt;
          state = state_after p k (searched_all p zs ts (search_all p standing zs ts)) s standing (choices p 0 zs (search_all p standing zs ts));
          rooms = rooms_after p k w standing (choices p 0 zs (search_all p standing zs ts));
          intervals = zeros pos_zero intervals;
        }

    by_shapes : List Shape → Next.Step
    by_shapes zs = elim (copy_verdict p w intervals k standing zs ts (search_all p standing zs ts)) [ Ok tt ↦ taken_by zs | Err r ↦ no_step r s w intervals ]

    by_shapes_lem : place_copy p standing ts k s w intervals ≡ by_shapes ss
    unfolding place_copy place_found by_shapes taken_by
    by_shapes_lem = ap by_shapes shaped

    shapes_yes : verdict ≡ (Ok tt) → by_shapes ss ≡ taken_by ss
    unfolding by_shapes
    shapes_yes e = rw (e, by_shapes)

    taken_is : taken_by ss ≡ accepted
    unfolding taken_by
    taken_is = refl

    place_yes : verdict ≡ (Ok tt) → place_copy p standing ts k s w intervals ≡ accepted
    place_yes e = by_shapes_lem ∙ (shapes_yes e ∙ taken_is)

    shapes_no : (r : Refusal) → verdict ≡ Err r → by_shapes ss ≡ no_step r s w intervals
    unfolding by_shapes
    shapes_no r e = rw (e, by_shapes)

    place_no : (r : Refusal) → verdict ≡ Err r → place_copy p standing ts k s w intervals ≡ no_step r s w intervals
    place_no r e = by_shapes_lem ∙ shapes_no r e

    verdict_over : any_above room_of (interval_counts p standing ss ts (search_all p standing ss ts)) ≡ true → verdict ≡ Err Why.IntervalRoom
    unfolding copy_verdict
    verdict_over h = refuse_yes (any_above room_of (interval_counts p standing ss ts (search_all p standing ss ts))) Why.IntervalRoom _ h

    verdict-fine : any_above room_of (interval_counts p standing ss ts (search_all p standing ss ts)) ≡ false → verdict ≡ winner_verdict p w k standing cs
    unfolding copy_verdict
    verdict-fine h = refuse_no (any_above room_of (interval_counts p standing ss ts (search_all p standing ss ts))) Why.IntervalRoom _ h

    over-step : (v : Winner) (c : Chosen) → v ≡ (Err IntervalRoom) → c.winner ≡ v → step_from s w intervals firsts (given c) ≡ no_step Why.IntervalRoom s w intervals
    unfolding place_with
    over-step v c e f = ap (λ (z : Winner). step_from s w intervals firsts (record { left = settle_of ix z area slot t parts apart w.placed w.placed_entries starts w.placed_firsts; counts = c.counts; next = c.next })) (f ∙ e)

    -- 22
    same_over : any_above room_of (interval_counts p standing ss ts (search_all p standing ss ts)) ≡ true → step_from s w intervals firsts code_of ≡ place_copy p standing ts k s w intervals
    same_over h = ap (step_from s w intervals firsts) (code_is choice refl) ∙ (over-step choice.winner choice (over_choice h) refl ∙ sym (place_no Why.IntervalRoom (verdict_over h)))

    -- no place
    nowhere_firsts : Written (given (chosen (Ok None) counts' next')) → firsts ≡ w.placed_firsts
    unfolding place_with without_of
    nowhere_firsts f = firsts_stay ix w.placed s.placed_strips w.placed_firsts firsts true-before f

    nowhere-step : firsts ≡ w.placed_firsts → step_from s w intervals firsts (given (chosen (Ok None) counts' next')) ≡ record { verdict = Ok tt; state = state_after p k (searched_all p ss ts (search_all p standing ss ts)) s standing []; rooms = rooms_after p k w standing []; intervals = zeros pos_zero intervals }
    unfolding place_with without_of state_after state_with layout_after rooms_after
    nowhere-step e = ap (λ (l : List ℕ). step_from s w intervals l (given (chosen (Ok None) counts' next'))) e

    -- ---- the winner is stored, where it is of orientation c .orientation
    module _ (c : Definition.Choice) (inside : c.orientation < n) where
      abbrev part : List Float
      part = apart_part (part_at parts (slot + c.orientation)) apart

      abbrev strips : List Float
      strips = together part c.x c.y s.placed_strips w.placed

      shape_is : shape_of p k c.orientation ≡ shape_in p standing room_of inset_bounds parts apart inset slot (slot + c.orientation)
      unfolding shape_of
      shape_is =
          ap (λ (z : List Shape). get_or z c.orientation no_shape) shaped
          ∙ (get_d_shapes (λ j. shape_in p standing room_of inset_bounds parts apart inset slot (slot + j)) n 0 c.orientation inside
          ∙ ap (λ (z : ℕ). shape_in p standing room_of inset_bounds parts apart inset slot (slot + z)) (let e : 0 + c.orientation ≡ c.orientation = omega arith in e))

      new_is : new_strips p k c ≡ moved_strips part c.x c.y
      unfolding new_strips
      new_is = ap (λ (z : Shape). moved_strips z.apart c.x c.y) shape_is

      strips_are : standing ++ new_strips p k c ≡ strips
      strips_are = ap (λ (z : List Float). standing ++ z) new_is

      count_is : s.placed_strips + capacity part ≡ capacity strips
      count_is = sym (strips-count part c.x c.y s.placed_strips w.placed room)

      abbrev few : Bool
      few = ltb (standing_capacity w.placed w.placed_firsts) (capacity strips)

      abbrev tight : Bool
      tight = ltb (length w.placed_entries) (length (entries_of ix strips (capacity strips)))

      verdict_is : store_verdict p w (standing ++ new_strips p k c) ≡ refuse_if few Why.StripRoom (refuse_if tight Why.EntryRoom (Ok tt))
      unfolding store_verdict entries_for
      verdict_is = ap (λ (z : List Float). refuse_if (ltb (standing_capacity w.placed w.placed_firsts) (capacity z)) Why.StripRoom (refuse_if (ltb (length w.placed_entries) (length (entries_of ix z (capacity z)))) Why.EntryRoom (Ok tt))) strips_are

      abbrev storing : Left
      storing = store_of ix part c.x c.y s.placed_strips w.placed w.placed_entries starts w.placed_firsts

      store_few : few ≡ true → storing ≡ left (Err StripRoom) w.placed w.placed_entries starts
      unfolding store_of
      store_few e = rw (e, store_of)

      store_tight : few ≡ false → tight ≡ true → storing ≡ left (Err EntryRoom) w.placed w.placed_entries starts
      unfolding store_of
      store_tight e f = rw (e, f, store_of)

      store_done : few ≡ false → tight ≡ false → storing ≡ left (Ok tt) (laid strips w.placed) (laid (entries_of ix strips (capacity strips)) w.placed_entries) (starts_of ix strips (capacity strips))
      unfolding store_of
      store_done e f = rw (e, f, store_of)

      abbrev leaving : Left → Placed
      leaving f = record { left = put_left (choice_in c) t (capacity part) f; counts = counts'; next = next' }

      given_is : given (chosen (Ok (Some (choice_in c))) counts' next') ≡ leaving storing
      unfolding place_with put_of
      given_is = refl

      abbrev stands_after : Next.Step
      stands_after =
          record {
            verdict = Ok tt;
            state = state_with s k (searched_all p ss ts (search_all p standing ss ts)) (capacity (standing ++ new_strips p k c)) (entered s.layout s.taken (suc c.orientation) c.x c.y c.gap s.layout.unplaced_area (larger s.layout.right c.right));
            rooms = stored p w (standing ++ new_strips p k c);
            intervals = zeros pos_zero intervals;
          }

      -- 20
      few-step : few ≡ true → step_from s w intervals firsts (leaving storing) ≡ no_step Why.StripRoom s w intervals
      unfolding put_left
      few-step e = ap (λ (z : Left). step_from s w intervals firsts (leaving z)) (store_few e)

      -- 21
      tight_step : few ≡ false → tight ≡ true → step_from s w intervals firsts (leaving storing) ≡ no_step Why.EntryRoom s w intervals
      unfolding put_left
      tight_step e f = ap (λ (z : Left). step_from s w intervals firsts (leaving z)) (store_tight e f)

      done_firsts : few ≡ false → tight ≡ false → Written (leaving storing) → firsts ≡ laid (firsts_of ix strips (capacity strips)) w.placed_firsts
      unfolding put_left
      done_firsts e f h =
          let F = subst (λ (z : Left). Written (leaving z)) (store_done e f) h in
          F.written ∙ ap (λ (l : List ℕ). laid l w.placed_firsts) (ap (firsts_of ix (laid strips w.placed)) count_is ∙ firsts_front ix strips w.placed)

      done-step : few ≡ false → tight ≡ false → firsts ≡ laid (firsts_of ix strips (capacity strips)) w.placed_firsts → step_from s w intervals firsts (leaving storing) ≡ stands_after
      unfolding put_left state_with stored entries_for firsts_for
      done-step e f g =
          ap₂ (λ (l : List ℕ) (z : Left). step_from s w intervals l (leaving z)) g (store_done e f)
          ∙ (ap (λ (z : ℕ). taken_with s w intervals (laid (firsts_of ix strips (capacity strips)) w.placed_firsts) (record { left = put (step (Ok (Some (choice_in c))) (record { placed_strips = z; right = larger s.layout.right c.right; unplaced_area = s.layout.unplaced_area })) (laid strips w.placed) (laid (entries_of ix strips (capacity strips)) w.placed_entries) (starts_of ix strips (capacity strips)); counts = counts'; next = next' })) count_is
          ∙ (ap (λ (z : ℕ). record {
            verdict = Ok tt;
            state = state_with s k (searched_all p ss ts (search_all p standing ss ts)) (capacity strips) (entered s.layout s.taken z c.x c.y c.gap s.layout.unplaced_area (larger s.layout.right c.right));
            rooms = stored p w strips;
            intervals = zeros pos_zero intervals;
          }) (add-one c.orientation)
          ∙ sym (ap (λ (z : List Float). record {
            verdict = Ok tt;
            state = state_with s k (searched_all p ss ts (search_all p standing ss ts)) (capacity z) (entered s.layout s.taken (suc c.orientation) c.x c.y c.gap s.layout.unplaced_area (larger s.layout.right c.right));
            rooms = stored p w z;
            intervals = zeros pos_zero intervals;
          }) strips_are)))

    -- ---- the step
    accepted-with : List Definition.Choice → Next.Step
    accepted-with l = record { verdict = Ok tt; state = state_after p k (searched_all p ss ts (search_all p standing ss ts)) s standing l; rooms = rooms_after p k w standing l; intervals = zeros pos_zero intervals }

    verdict-nowhere : winner_verdict p w k standing [] ≡ Ok tt
    unfolding winner_verdict
    verdict-nowhere = refl

    verdict_at : (a : Definition.Choice) (as' : List Definition.Choice) → winner_verdict p w k standing (a ∷ as') ≡ store_verdict p w (standing ++ new_strips p k (best a as'))
    unfolding winner_verdict
    verdict_at a as' = refl

    accepted_at_lem : (a : Definition.Choice) (as' : List Definition.Choice) (h : (best a as').orientation < n) → stands_after (best a as') h ≡ accepted-with (a ∷ as')
    unfolding accepted-with state_after layout_after rooms_after
    accepted_at_lem a as' h = refl

    nowhere_is : firsts ≡ w.placed_firsts → step_from s w intervals firsts (given (chosen (Ok None) counts' next')) ≡ accepted-with []
    unfolding accepted-with
    nowhere_is e = nowhere-step e

    accepted_is : (l : List Definition.Choice) → cs ≡ l → verdict ≡ (Ok tt) → place_copy p standing ts k s w intervals ≡ accepted-with l
    unfolding accepted-with
    accepted_is l e v = place_yes v ∙ ap accepted-with e

    module _ (h : any_above room_of (interval_counts p standing ss ts (search_all p standing ss ts)) ≡ false) (after : Written code_of) where
      code_best : (l : List Definition.Choice) → cs ≡ l → code_of ≡ given (chosen (best_of l) counts' next')
      code_best l e = code_is (chosen (best_of l) counts' next') (fine_choice h ∙ ap (λ (z : List Definition.Choice). chosen (best_of z) counts' next') e)

      inside_is : (a : Definition.Choice) (as' : List Definition.Choice) → cs ≡ a ∷ as' → (best a as').orientation < n
      inside_is a as' e =
          chosen_among (world_of p standing room_of inset_bounds parts apart inset slot) slot n (Ok (Some (choice_in (best a as')))) s.look_counts s.next_column counts' next'
          (sym (fine_choice h ∙ ap (λ (z : List Definition.Choice). chosen (best_of z) counts' next') e))

      same-nowhere : cs ≡ [] → step_from s w intervals firsts code_of ≡ place_copy p standing ts k s w intervals
      same-nowhere e =
          ap (step_from s w intervals firsts) (code_best [] e)
          ∙ (nowhere_is (nowhere_firsts (subst Written (code_best [] e) after)) ∙ sym (accepted_is [] e (verdict-fine h ∙ (ap (winner_verdict p w k standing) e ∙ verdict-nowhere))))

      module _ (a : Definition.Choice) (as' : List Definition.Choice) (e : cs ≡ a ∷ as') where
        abbrev c : Definition.Choice
        c = best a as'

        i : c.orientation < n
        i = inside_is a as' e

        code_at : code_of ≡ leaving c i (storing c i)
        code_at = code_best (a ∷ as') e ∙ given_is c i

        verdict_by : verdict ≡ refuse_if (few c i) Why.StripRoom (refuse_if (tight c i) Why.EntryRoom (Ok tt))
        verdict_by = verdict-fine h ∙ (ap (winner_verdict p w k standing) e ∙ (verdict_at a as' ∙ verdict_is c i))

        same_at : (few c i ≡ true) ⊎ (few c i ≡ false) → (tight c i ≡ true) ⊎ (tight c i ≡ false) → step_from s w intervals firsts code_of ≡ place_copy p standing ts k s w intervals
        same_at (inl f) g = ap (step_from s w intervals firsts) code_at ∙ (few-step c i f ∙ sym (place_no Why.StripRoom (verdict_by ∙ refuse_yes (few c i) Why.StripRoom _ f)))
        same_at (inr f) (inl g) = ap (step_from s w intervals firsts) code_at ∙ (tight_step c i f g ∙ sym (place_no Why.EntryRoom (verdict_by ∙ (refuse_no (few c i) Why.StripRoom _ f ∙ refuse_yes (tight c i) Why.EntryRoom _ g))))
        same_at (inr f) (inr g) =
            ap (step_from s w intervals firsts) code_at
            ∙ (done-step c i f g (done_firsts c i f g (subst Written code_at after))
            ∙ (accepted_at_lem a as' i ∙ sym (accepted_is (a ∷ as') e (verdict_by ∙ (refuse_no (few c i) Why.StripRoom _ f ∙ refuse_no (tight c i) Why.EntryRoom _ g)))))

      by_choices : (l : List Definition.Choice) → cs ≡ l → step_from s w intervals firsts code_of ≡ place_copy p standing ts k s w intervals
      by_choices [] e = same-nowhere e
      by_choices (a ∷ as') e = same_at a as' e (either (few (best a as') (inside_is a as' e))) (either (tight (best a as') (inside_is a as' e)))

    -- the definition's step is what the code leaves
    pub same_step : Written code_of → step_from s w intervals firsts code_of ≡ place_copy p standing ts k s w intervals
    same_step after = go (either (any_above room_of (interval_counts p standing ss ts (search_all p standing ss ts))))
      where
        go : (any_above room_of (interval_counts p standing ss ts (search_all p standing ss ts)) ≡ true) ⊎ (any_above room_of (interval_counts p standing ss ts (search_all p standing ss ts)) ≡ false) → step_from s w intervals firsts code_of ≡ place_copy p standing ts k s w intervals
        go (inl h) = same_over h
        go (inr h) = by_choices h after cs refl
