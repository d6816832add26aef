-- Every layout that the planner makes is accepted in filling order: after an accepted start and whatever calls, and after a filling. Assumes nothing.
use Rattle.std.specs.Prelude.{Result, Ok, Err}
use Rattle.filling.specs.declared.Refusal.{Refusal}
use Prim.Native.Nat.{ℕ, ◌+◌, ◌*◌, ◌/◌, ◌≤◌, min}
use native.Mathlib.Nat.{le_refl}
use native.Mathlib.Omega.{arith}
use mathlib.Core.Path.{◌≡◌, refl, sym, ap, ap₂, subst, ◌∙◌}
use mathlib.Core.Logic.{◌⊎◌, inl, inr}
use mathlib.Core.Bool.{Bool, true, false, not}
use mathlib.Core.List.{List, [], ◌∷◌, ◌++◌, map}
use lib.ListN.{length, get_or, length-map, length-take}
use lib.Dec.{eqb, leb}
use lib.Ieee.{Float}
use borrow.Author.Tests.{leb-true}
use Rattle.numbers.specs.Numbers.{pos_zero}
use Rattle.numbers.proofs.Truth.{either, both_second}
use Rattle.trapezoid.specs.Strip.{capacity}
use Rattle.slabs.proofs.Merging.{All}
use Rattle.strips.specs.declared.Rect.{Rect}
use Rattle.index.specs.Buckets.{keep, strip_numbers, standing_capacity}
use Rattle.index.proofs.Steps.{keep_yes, keep_no}
use Rattle.job.specs.Jobs.{Job, accepted, read_job, frame_of}
use Rattle.filling.specs.declared.State.{State}
use Rattle.filling.specs.Shapes.{Planner, planner_of, Standing, others, standing_strips}
use Rattle.filling.specs.Choice.{Choice, best, standing_at}
use Rattle.filling.specs.Plain.{Plain, plain_start, plain_take, plain_back}
use Rattle.filling.specs.Rooms.{Rooms, Lent, laid, zeros, zero_rooms, only_positions}
use Rattle.filling.specs.State.{tracks_of, standing_of}
use Rattle.filling.proofs.Same.{lies-long}
use Rattle.filling.specs.Consistent.{numbers_lie, entries_for, firsts_for, placed_strips_of, strip_counts_fit}
use Rattle.filling.specs.Start.{first_state, first_rooms, prepare_verdict, start_verdict, start_of}
use Rattle.filling.specs.NextCopy.{new_strips, store_verdict, winner_verdict, state_after, stored, rooms_after, Step}
use Rattle.filling.specs.Withdraw.{state_without, rooms_without, Reply}
use Rattle.filling.specs.Accounts.{positions, flat_positions}
use Rattle.filling.specs.Fill.{Filling, filled, stopped, fill_order, not_planned, planned_with, planned_by, fill_job, fill_given, fill_of}
use Rattle.filling.specs.Calls.{Call, after_calls}
use Rattle.filling.proofs.Reading.{Sixfold, sixfold_nil, sixfold_append, capacity_append, length-laid, length-zeros, length-firsts_for}
use Rattle.filling.proofs.Sizes.{Sized, sized}
use Rattle.filling.proofs.Steps as Steps
use Rattle.filling.proofs.Steps.{Took, standing_sixfold, new_sixfold, ChoicesNow, TracksNow, refused≢accepted}
use Rattle.filling.proofs.AtPlace.{strips_append}
use Rattle.filling.proofs.Begin.{begun, first-standing, rearranged-length, start-accepted}
use Rattle.filling.proofs.Runs.{calls_keep, fill_keeps, fill-stopped, fill-runs}
use Rattle.filling.proofs.Stood.{best_all}
use Rattle.filling.proofs.Withdrawn as Withdrawn
use Rattle.filling.proofs.Withdrawn.{Went, Left}
use Rattle.filling.proofs.promises.Stays.{standing_all, held_start}
use Rattle.filling.proofs.promises.Back.{HeldSo, so_took, so_back}
use Rattle.layouts.specs.Layouts.{layout_from, layout_given, layout_of}
use Rattle.layouts.specs.PlanLayout.{layout_numbers}
use Rattle.layouts.proofs.Legal.{among_self, LegalFrom, legal_snoc, legal_kept, legal_after}
use Rattle.layouts.proofs.Chosen.{FoundThere, row_found, chosen_legal}
use Rattle.layouts.proofs.Verdicts.{entries-together, stored_if, if_stored}
use Rattle.layouts.proofs.Exact.{accepted_at, legal_accepted, job-prepared}
use Rattle.layouts.proofs.OwnLines.{line_of, own_places, own_strips, own_named, few_stand, lines_are}

-- ---- rooms

-- what adds up over strips is no more of some of the copies
fewer : (p : Planner) (test : Standing → Bool) (m : List Float → ℕ) → ((st new : List Float) → Sixfold st → Sixfold new → m (st ++ new) ≡ m st + m new)
    → (cs : List Standing) → m (standing_strips p (keep test cs)) ≤ m (standing_strips p cs)
unfolding keep
fewer p test m adds [] = le_refl _
fewer p test m adds (c ∷ cs) = go (fewer p test m adds cs) (either (test c))
  where
    whole : (ds : List Standing) → m (standing_strips p (c ∷ ds)) ≡ m (standing_strips p (c ∷ [])) + m (standing_strips p ds)
    whole ds =
        ap m (strips_append p (c ∷ []) ds)
        ∙ adds (standing_strips p (c ∷ [])) (standing_strips p ds) (standing_sixfold p (c ∷ [])) (standing_sixfold p ds)

    go : m (standing_strips p (keep test cs)) ≤ m (standing_strips p cs) → (test c ≡ true) ⊎ (test c ≡ false)
        → m (standing_strips p (keep test (c ∷ cs))) ≤ m (standing_strips p (c ∷ cs))
    go h (inl e) =
        let a = ap (λ (l : List Standing). m (standing_strips p l)) (keep_yes test c cs e) in
        let b = whole (keep test cs) in
        let d = whole cs in
        omega arith
    go h (inr e) = let a = ap (λ (l : List Standing). m (standing_strips p l)) (keep_no test c cs e) in let d = whole cs in omega arith

-- strips and entries as many as these rooms are used for
record Alike (w v : Rooms) : Type 0 where
  placed : length w.placed ≡ length v.placed
  firsts : length w.placed_firsts ≡ length v.placed_firsts
  entries : length w.placed_entries ≡ length v.placed_entries

alike_capacity : (w v : Rooms) → Alike w v → standing_capacity w.placed w.placed_firsts ≡ standing_capacity v.placed v.placed_firsts
unfolding standing_capacity capacity
alike_capacity w v h = ap₂ (λ (a b : ℕ). min (min (a / 6) b) strip_numbers) h.placed h.firsts

zeros_alike : (w : Rooms) → Alike (zero_rooms w) w
unfolding zero_rooms
zeros_alike w =
    record { placed = length-zeros pos_zero w.placed; firsts = length-zeros 0 w.placed_firsts; entries = length-zeros 0 w.placed_entries }

-- what fits is laid, and the rooms stay as long
laid-long : (b : Rect) (st room : List Float) (firsts : List ℕ) → Sixfold st → capacity st ≤ standing_capacity room firsts
    → (length (laid st room) ≡ length room) × (length (laid (firsts_for b st) firsts) ≡ length firsts)
unfolding standing_capacity capacity
laid-long b st room firsts s h =
    let c : length st / 6 ≤ min (min (length room / 6) (length firsts)) strip_numbers = h in
    let e : length (firsts_for b st) ≡ length st / 6 = length-firsts_for b st in
    (length-laid st room (omega arith), length-laid (firsts_for b st) firsts (omega arith))

-- ---- what holds along the calls

module _ (bytes : List ℕ) (j : Job) (e : read_job bytes ≡ accepted j) (l : Lent) where
  abbrev P : Planner
  P = planner_of j

  abbrev z : Sized j
  z = sized bytes j e

  record Layable (s : State) (w : Rooms) (q : Plain) : Type 0 where
    held : HeldSo bytes j e s w q
    legal : LegalFrom P [] (standing_of s)
    alike : Alike w l.rooms

  module _ (s : State) (w : Rooms) (q : Plain) (h : Layable s w q) where
    abbrev St : List Float
    St = standing_strips (planner_of j) (standing_of s)

    linked : Steps.Linked j s w
    linked = h.held.held.own.kept.linked

    legal_now : (k : ℕ) (ks : List ℕ) (n : Steps.Nexts j s k ks) (cs : List Choice) → All (FoundThere P St k) cs
        → LegalFrom P [] (standing_of (state_after P k (TracksNow j s k) s St cs))
    legal_now k ks n [] f =
        subst (LegalFrom P []) (sym (Steps.after-none-stands j z s w linked k ks n (TracksNow j s k) (Steps.tracks_length j s w linked k))) h.legal
    legal_now k ks n (c ∷ cs) f =
        let d = best c cs in
        subst (LegalFrom P []) (sym (Steps.after-one-stands j z s w linked k ks n (TracksNow j s k) (Steps.tracks_length j s w linked k) c cs))
        (legal_snoc P [] (standing_of s) (standing_at (record { place = s.taken; kind = k }) d) h.legal
        (chosen_legal bytes j e St (standing_all bytes j e h.held.order s w q h.held.held) h.held.held.own.fine.strips k d
        (best_all (FoundThere P St k) c cs f.0 f.1) s.taken))

    alike_now : (k : ℕ) (cs : List Choice) → winner_verdict P w k St cs ≡ (Ok tt) → Alike (rooms_after P k w St cs) l.rooms
    unfolding rooms_after stored winner_verdict
    alike_now k [] v = h.alike
    alike_now k (c ∷ cs) v =
        let now = St ++ new_strips P k (best c cs) in
        let f = if_stored P w now v in
        let six : Sixfold now = sixfold_append St (new_strips P k (best c cs)) (standing_sixfold P (standing_of s)) (new_sixfold P k (best c cs)) in
        let g = laid-long P.bounds now w.placed w.placed_firsts six f.0 in
        record {
          placed = g.0 ∙ h.alike.placed;
          firsts = g.1 ∙ h.alike.firsts;
          entries = length-laid (entries_for P.bounds now) w.placed_entries f.1 ∙ h.alike.entries;
        }

    took_layable : (r : Step) → Took j s w r → Layable r.state r.rooms (plain_take P q q.to_come_lem)
    took_layable r t =
        let k = t.kind in
        record {
          held = so_took bytes j e s w q h.held r t;
          legal = rw t.state_is (legal_now k t.rest t.order_is (ChoicesNow j s k) (row_found P St k (get_or (tracks_of j s) k [])));
          alike = rw t.rooms_is (alike_now k (ChoicesNow j s k) t.fits);
        }

    -- the standing strips fit
    strips_short : capacity St ≤ standing_capacity w.placed w.placed_firsts
    unfolding placed_strips_of capacity strip_counts_fit
    strips_short =
        let room = standing_capacity w.placed w.placed_firsts in
        let n = s.placed_strips in
        let c = h.held.held.own.counts in
        let a = leb-true n room (both_second (leb s.tables.apart_strips (length w.shapes / 6)) (leb n room)
        (both_second (leb s.tables.sheet_strips (standing_capacity w.sheet w.sheet_firsts)) _ c)) in
        let b = ap length linked.stand in
        let d = length-take (6 * n) w.placed in
        omega arith

    entries_short : length (entries_for P.bounds St) ≤ length w.placed_entries
    unfolding numbers_lie
    entries_short = lies-long (entries_for P.bounds St) w.placed_entries h.held.held.own.placed_entries

    module _ (n : ℕ) (r : Reply) (t : Went j s w n r) where
      abbrev Test : Standing → Bool
      Test c = not (eqb c.copy.place n)

      legal_left : LegalFrom P [] (standing_of (state_without j P s n t.copy (Left j s n)))
      unfolding others
      legal_left =
          subst (LegalFrom P []) (sym (Withdrawn.gone_standing j z s w linked n r t))
          (legal_after P n [] (others n (standing_of s)) (legal_kept P Test [] [] (standing_of s) sixfold_nil sixfold_nil (among_self []) h.legal))

      alike_left : Alike (rooms_without P w (Left j s n)) l.rooms
      unfolding rooms_without others zero_rooms
      alike_left =
          let left = Left j s n in
          let six : Sixfold left = standing_sixfold P (others n (standing_of s)) in
          let a = fewer P Test capacity capacity_append (standing_of s) in
          let b = fewer P Test (λ st. length (entries_for P.bounds st)) (entries-together P.bounds) (standing_of s) in
          let c = strips_short in
          let d = entries_short in
          let f = zeros_alike w in
          let i = alike_capacity (zero_rooms w) w f in
          let g = laid-long P.bounds left (zeros pos_zero w.placed) (zeros 0 w.placed_firsts) six (omega arith) in
          let k = f.entries in
          record {
            placed = g.0 ∙ f.placed ∙ h.alike.placed;
            firsts = g.1 ∙ f.firsts ∙ h.alike.firsts;
            entries = length-laid (entries_for P.bounds left) (zeros 0 w.placed_entries) (omega arith) ∙ f.entries ∙ h.alike.entries;
          }

      back_layable : Layable r.state r.rooms (plain_back P n q)
      back_layable =
          record { held = so_back bytes j e s w q h.held n r t; legal = rw t.state_is legal_left; alike = rw t.rooms_is alike_left }

    -- its copies, in their order, are accepted in rooms as long as those of the start
    layable_accepted : layout_from j P l.rooms [] [] (map (line_of (frame_of j.header)) (standing_of s)) ≡ accepted_at (length (standing_of s))
    layable_accepted =
        let f = frame_of j.header in
        let o = h.held.held.own in
        let ls = map (line_of f) (standing_of s) in
        let a = strips_short in
        let b = alike_capacity w l.rooms h.alike in
        let c = entries_short in
        let d = h.alike.entries in
        let i = stored_if P l.rooms St (omega arith) (omega arith) in
        let n : 0 + length ls ≡ length (standing_of s) = (let m = length-map (standing_of s) (line_of f) in omega arith) in
        legal_accepted j P l.rooms ls [] [] (own_named j f (standing_of s) o.stands)
        (few_stand j f s (rw o.order_kept h.held.rearranges) o.few) (own_places P f [] (standing_of s) h.legal) sixfold_nil
        (subst (λ (st : List Float). store_verdict P l.rooms st ≡ (Ok tt)) (sym (own_strips P f [] (standing_of s) h.legal)) i)
        ∙ ap accepted_at n

    -- as bits
    list_accepted : prepare_verdict P l.rooms ≡ (Ok tt)
        → (layout_of bytes (layout_numbers j (standing_of s)) l.rooms).judgement ≡ accepted_at (length (standing_of s))
    unfolding layout_of layout_given
    list_accepted v =
        rw (e, lines_are j P [] (standing_of s) h.legal)
        (job-prepared j l.rooms v (map (line_of (frame_of j.header)) (standing_of s)) ∙ layable_accepted)

  -- ---- the start, the calls, the filling

  first_layable : (order : List ℕ) → start_verdict j order l ≡ (Ok tt) → Layable (first_state P order) (first_rooms P l.rooms) (plain_start P order)
  unfolding first_rooms
  first_layable order v =
      let r = (begun j order l v).rearranges in
      record {
        held = record { order = order; held = held_start bytes j e order l v; rearranges = r };
        legal = subst (LegalFrom P []) (sym (first-standing j z order (rearranged-length j order r))) (unfold LegalFrom in tt);
        alike = record {
          placed = length-zeros pos_zero l.rooms.placed;
          firsts = length-zeros 0 l.rooms.placed_firsts;
          entries = length-zeros 0 l.rooms.placed_entries;
        };
      }

  -- "Every layout our planner makes is accepted in filling order": after an accepted start, whatever the calls
  pub calls_accepted : (order : List ℕ) → (start_of bytes order l).verdict ≡ (Ok tt) → (calls : List Call)
      → let cs = standing_of (after_calls bytes calls (start_of bytes order l).state (start_of bytes order l).lent.rooms).state in
      (layout_of bytes (layout_numbers j cs) l.rooms).judgement ≡ accepted_at (length cs)
  calls_accepted order v calls =
      let a = start-accepted bytes order l j e v in
      let h : Layable (start_of bytes order l).state (start_of bytes order l).lent.rooms (plain_start P order) =
      rw (a.state_is, a.rooms_is) (first_layable order a.verdict_is) in
      let k = calls_keep j Layable (λ s w q h. h.held.held.own.kept.linked) took_layable back_layable bytes e calls
      (start_of bytes order l).state (start_of bytes order l).lent.rooms (plain_start P order) h in
      list_accepted _ _ _ k (begun j order l a.verdict_is).prepared

  -- the copies of a filling that ends
  pub filled-accepted : (order : List ℕ) → start_verdict j order l ≡ (Ok tt) → (s : State) → fill_order j l order ≡ filled s
      → (layout_of bytes (layout_numbers j (standing_of s)) l.rooms).judgement ≡ accepted_at (length (standing_of s))
  unfolding fill_order
  filled-accepted order v s f =
      let k = fill_keeps j Layable (λ s w q h. h.held.held.own.kept.linked) took_layable l.intervals (length order) (first_state P order) s
      (first_rooms P l.rooms) (plain_start P order) (first_layable order v) f in
      list_accepted s k.0 _ k.1 (begun j order l v).prepared

  -- a state whose copies are those of the position room, and whose list is accepted
  pub record Shown (room : List Float) (s : State) : Type 0 where
    pub positions_are : room ≡ laid (flat_positions (positions j (standing_of s))) (zeros pos_zero l.positions)
    pub list_accepted : (layout_of bytes (layout_numbers j (standing_of s)) l.rooms).judgement ≡ accepted_at (length (standing_of s))

  pub planned_shown : (s : State) (n : ℕ) → (layout_of bytes (layout_numbers j (standing_of s)) l.rooms).judgement ≡ accepted_at (length (standing_of s))
      → Shown (planned_with j l s n).lent.positions s
  unfolding planned_with only_positions
  planned_shown s n a = record { positions_are = refl; list_accepted = a }

  filling_shown : (order : List ℕ) → start_verdict j order l ≡ (Ok tt) → (f : Filling) → fill_order j l order ≡ f → (planned_by j l f).verdict ≡ (Ok tt)
      → (s : State) × Shown (planned_by j l f).lent.positions s
  unfolding planned_by not_planned
  filling_shown order v (filled s) d a = (s, planned_shown s 0 (filled-accepted order v s d))
  filling_shown order v (stopped r) d a = absurd (refused≢accepted a)

  pub fill-accepted : (order : List ℕ) → (fill_of bytes order l).verdict ≡ (Ok tt) → (s : State) × Shown (fill_of bytes order l).lent.positions s
  unfolding fill_of fill_given not_planned
  fill-accepted order = rw e (λ v. go v (start_verdict j order l) refl)
    where
      go : (fill_job j order l).verdict ≡ (Ok tt) → (u : Result (Unit {0}) Refusal) → start_verdict j order l ≡ u → (s : State) × Shown (fill_job j order l).lent.positions s
      go v (Ok tt) d = rw (fill-runs j order l d) (filling_shown order d (fill_order j l order) refl (rw (fill-runs j order l d) at v))
      go v (Err r) d = absurd (refused≢accepted (sym (ap (λ r. r.verdict) (fill-stopped j order l r d)) ∙ v))
