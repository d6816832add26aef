-- What is kept along the rounds: a rearrangement of the job's copies and its filling, or the refusal for a room. Assumes nothing.
use Rattle.std.specs.Prelude.{Result, Ok, Err}
use Prim.Native.Nat.{ℕ, zero, suc, ◌+◌, ◌%◌, ◌≤◌, ◌<◌}
use native.Mathlib.Nat.{mod-lt}
use native.Mathlib.Omega.{arith}
use mathlib.Core.Path.{◌≡◌, refl, sym, ap, subst, ◌∙◌}
use mathlib.Core.Bool.{Bool, true, false}
use mathlib.Core.List.{List, [], ◌∷◌}
use lib.ListN.{length, get_or}
use lib.Dec.{leb, ltb}
use borrow.Author.Tests.{leb-true}
use lib.Ieee.{Float}
use Rattle.random.specs.SplitMix64.{next_state, mixed}
use Rattle.job.specs.Jobs.{Job, accepted, read_job}
use Rattle.filling.specs.declared.State.{State}
use Rattle.filling.specs.declared.Refusal.{Refusal}
use Rattle.filling.specs.declared.Refusal.TheVariants as Why
use Rattle.filling.specs.Refusals.{refuse_if}
use Rattle.filling.specs.Shapes.{Planner, planner_of, Shape}
use Rattle.filling.specs.Search.{Found, Track, search_all}
use Rattle.filling.specs.Choice.{Choice, choices}
use Rattle.filling.specs.Rooms.{Rooms, Lent, position_capacity}
use Rattle.filling.specs.Order.{rearranged}
use Rattle.filling.specs.State.{order_of}
use Rattle.filling.specs.Start.{first_state, first_rooms, prepare_verdict, start_verdict}
use Rattle.filling.specs.NextCopy.{store_verdict, winner_verdict, copy_verdict, Step, no_step, place_copy, place_next, core_step}
use Rattle.filling.specs.Fill.{Filling, filled, stopped, fill_from, fill_order}
use Rattle.filling.specs.Plain.{Plain, plain_start, plain_take}
use Rattle.filling.proofs.Begin.{rearranged-length}
use Rattle.filling.proofs.Steps.{Took, Outcome, took, unchanged, core_outcome, place-taken, place-refused, refused≢accepted, after-taken, TracksNow, ChoicesNow, accepted≢refused}
use Rattle.filling.proofs.promises.Stays.{Held, held-took, held_start}
use Rattle.filling.proofs.promises.Left.{fill-held}
use Rattle.filling.proofs.promises.Suffice.{next_of}
use Rattle.copy_order.proofs.Rearranged.{swapped-rearranged, accepted-rearranged}
use Rattle.nesting.specs.CopyOrder.{copy_order}
use Rattle.nesting.specs.Rounds.{Kept, Swaps, kept, ended, better_than, swappable, swapped, judged, one_round, rounds, first_kept, swap_search}

-- 20, 21 or 22: the kind of lent room that was overrun
pub data RoomRefusal : Refusal → Type 0 where
  strips : RoomRefusal Why.StripRoom
  entries : RoomRefusal Why.EntryRoom
  intervals : RoomRefusal Why.IntervalRoom

-- what a test refuses, or what comes later
pub refused_by_lem : (Q : Refusal → Type 0) (t : Bool) (k : Refusal) (v : Result (Unit {0}) Refusal) (r : Refusal) → Q k → (v ≡ Err r → Q r) → refuse_if t k v ≡ Err r → Q r
unfolding refuse_if
refused_by_lem Q true k v r q f e = subst Q (let z : k ≡ r = cc in z) q
refused_by_lem Q false k v r q f e = f e

winner-refusal : (p : Planner) (w : Rooms) (k : ℕ) (st : List Float) (cs : List Choice) (r : Refusal) → winner_verdict p w k st cs ≡ Err r → RoomRefusal r
unfolding winner_verdict store_verdict
winner-refusal p w k st [] r e = absurd (accepted≢refused e)
winner-refusal p w k st (c ∷ cs) r e = refused_by_lem RoomRefusal _ Why.StripRoom _ r strips (λ f. refused_by_lem RoomRefusal _ Why.EntryRoom (Ok tt) r entries (λ g. absurd (accepted≢refused g)) f) e

copy-refusal : (p : Planner) (w : Rooms) (iv : List Float) (k : ℕ) (st : List Float) (ss : List Shape) (ts : List Track) (fs : List Found) (r : Refusal) → copy_verdict p w iv k st ss ts fs ≡ Err r → RoomRefusal r
unfolding copy_verdict
copy-refusal p w iv k st ss ts fs r e = refused_by_lem RoomRefusal _ Why.IntervalRoom _ r intervals (λ f. winner-refusal p w k st (choices p 0 ss fs) r f) e

place-refusal : (p : Planner) (st : List Float) (ts : List Track) (k : ℕ) (s : State) (w : Rooms) (iv : List Float) (r : Refusal) → (place_copy p st ts k s w iv).verdict ≡ Err r → RoomRefusal r
unfolding no_step
place-refusal p st ts k s w iv r e = go (copy_verdict p w iv k st (get_or p.shapes k []) ts (search_all p st (get_or p.shapes k []) ts)) refl
  where
    go : (v : Result (Unit {0}) Refusal) → copy_verdict p w iv k st (get_or p.shapes k []) ts (search_all p st (get_or p.shapes k []) ts) ≡ v → RoomRefusal r
    go (Ok tt) d = absurd (accepted≢refused (sym (ap (λ x. x.verdict) (place-taken p st ts k s w iv d)) ∙ e))
    go (Err q) d = subst RoomRefusal (let f : Err q ≡ Err r = sym (ap (λ x. x.verdict) (place-refused p st ts k s w iv q d)) ∙ e in let z : q ≡ r = cc in z) (copy-refusal p w iv k st (get_or p.shapes k []) ts (search_all p st (get_or p.shapes k []) ts) q d)

core_refusal : (j : Job) (s : State) (w : Rooms) (iv : List Float) (r : Refusal) → s.taken < length (order_of j s) → (core_step j s w iv).verdict ≡ Err r → RoomRefusal r
unfolding core_step place_next
core_refusal j s w iv r h e = let c = next_of (order_of j s) s.taken h in place-refusal _ _ _ c.0 s w iv r (rw c.2 at e)

-- ---- a filling in a rearranged order

module _ (bytes : List ℕ) (j : Job) (e : read_job bytes ≡ accepted j) (l : Lent) (pos : ltb (position_capacity l.positions) j.copies ≡ false) (prep : prepare_verdict (planner_of j) l.rooms ≡ Ok tt) where
  pub begins : (order : List ℕ) → rearranged j order ≡ true → start_verdict j order l ≡ Ok tt
  unfolding start_verdict refuse_if
  begins order r = rw (pos, r, prep)

  -- an order and its filling
  pub record Filled (order : List ℕ) (s : State) : Type 0 where
    pub rearranges : rearranged j order ≡ true
    pub fills : fill_order j l order ≡ filled s
    pub rooms : Rooms
    pub plain : Plain
    pub held : Held bytes j e order s rooms plain

  pub filled_is : (order : List ℕ) → rearranged j order ≡ true → (s : State) → fill_order j l order ≡ filled s → Filled order s
  filled_is order r s f =
      let k = fill-held bytes order l j e (begins order r) s f in
      record { rearranges = r; fills = f; rooms = k.0; plain = _; held = k.1 }

  fill_stop : (order : List ℕ) (n : ℕ) (s : State) (w : Rooms) (q : Plain) → Held bytes j e order s w q → s.taken + n ≤ length order → (r : Refusal) → fill_from j l.intervals n s w ≡ stopped r → RoomRefusal r
  unfolding fill_from
  fill_stop order zero s w q h b r f = absurd (let z : ◌≡◌ {A = ℕ} 0 1 = cc in omega arith)
  fill_stop order (suc n) s w q h b r f =
      go (λ u c g. fill_stop order n (core_step j s w l.intervals).state (core_step j s w l.intervals).rooms (plain_take (planner_of j) q q.to_come_lem) (held-took bytes j e order s w q h (core_step j s w l.intervals) u) (omega arith) r g)
      (core_step j s w l.intervals).verdict refl f (core_outcome j s w h.own.kept.linked l.intervals)
    where
      t : Step
      t = core_step j s w l.intervals

      counts : Took j s w t → t.state.taken ≡ suc s.taken
      counts u = rw u.state_is (after-taken j s u.kind (TracksNow j s u.kind) (ChoicesNow j s u.kind))

      go : (Took j s w t → t.state.taken ≡ suc s.taken → fill_from j l.intervals n t.state t.rooms ≡ stopped r → RoomRefusal r) → (v : Result (Unit {0}) Refusal) → t.verdict ≡ v → ◌≡◌ {A = Filling} (elim v [ Ok tt ↦ fill_from j l.intervals n t.state t.rooms | Err k ↦ stopped k ]) (stopped r) → Outcome j s w t → RoomRefusal r
      go below (Ok tt) d g (unchanged k v a c) = absurd (refused≢accepted (sym v ∙ d))
      go below (Ok tt) d g (took u) = below u (counts u) g
      go below (Err k) d g o = subst RoomRefusal (let z : k ≡ r = cc in z) (core_refusal j s w l.intervals k (subst (λ (m : List ℕ). s.taken < length m) (sym h.own.order_kept) (omega arith)) d)

  pub stopped_is : (order : List ℕ) → rearranged j order ≡ true → (r : Refusal) → fill_order j l order ≡ stopped r → RoomRefusal r
  unfolding fill_order
  stopped_is order a r f = fill_stop order (length order) (first_state (planner_of j) order) (first_rooms (planner_of j) l.rooms) (plain_start (planner_of j) order) (held_start bytes j e order l (begins order a)) (unfold first_state in omega arith) r f

  -- ---- the rounds

  -- what is kept, or a refusal for which R holds
  pub data Sound (R : Refusal → Type 0) : Swaps → Type 0 where
    keeps : {q : Kept} → Filled q.order q.state → Sound R (kept q)
    ends : {r : Refusal} → R r → Sound R (ended r)

  module _ (R : Refusal → Type 0) (stops : (order : List ℕ) → rearranged j order ≡ true → (r : Refusal) → fill_order j l order ≡ stopped r → R r) where
    judged-sound : (random : ℕ) (order : List ℕ) (q : Kept) → rearranged j order ≡ true → Filled q.order q.state → (f : Filling) → fill_order j l order ≡ f → Sound R (judged random order q f)
    unfolding judged
    judged-sound random order q a h (stopped r) d = ends (stops order a r d)
    judged-sound random order q a h (filled s) d = go (better_than s.layout q.state.layout)
      where
        go : (t : Bool)
            → Sound R (elim t [
              | true ↦ kept (record { random = random; order = order; state = s; improvements = suc q.improvements })
              | false ↦ kept (record { random = random; order = q.order; state = q.state; improvements = q.improvements })
            ])
        go true = keeps (filled_is order a s d)
        go false = keeps h

    round-sound : (q : Kept) → 2 ≤ length q.order → Filled q.order q.state → Sound R (one_round j l q)
    unfolding one_round
    round-sound q b h = go (swappable j.kinds (get_or q.order A 0) (get_or q.order B 0))
      where
        A : ℕ
        A = mixed (next_state q.random) % length q.order

        B : ℕ
        B = mixed (next_state (next_state q.random)) % length q.order

        O : List ℕ
        O = swapped A B q.order

        below : (n : ℕ) → n % length q.order < length q.order
        below n = mod-lt n (omega arith)

        again : rearranged j O ≡ true
        again = swapped-rearranged j A B q.order (below (mixed (next_state q.random))) (below (mixed (next_state (next_state q.random)))) ∙ h.rearranges

        go : (t : Bool) → Sound R (elim t [
          | true ↦ judged (next_state (next_state q.random)) O q (fill_order j l O)
          | false ↦ kept (record { random = next_state (next_state q.random); order = q.order; state = q.state; improvements = q.improvements })
        ])
        go true = judged-sound (next_state (next_state q.random)) O q again h (fill_order j l O) refl
        go false = keeps h

    rounds-sound : 2 ≤ j.copies → (n : ℕ) (q : Swaps) → Sound R q → Sound R (rounds j l n q)
    unfolding rounds
    rounds-sound b zero q h = h
    rounds-sound b (suc n) (ended r) h = h
    rounds-sound b (suc n) (kept q) (keeps h) = rounds-sound b n (one_round j l q) (round-sound q (let c = rearranged-length j q.order h.rearranges in omega arith) h)

    first-sound : (f : Filling) → fill_order j l (copy_order j) ≡ f → Sound R (first_kept j (copy_order j) f)
    unfolding first_kept
    first-sound (stopped r) d = ends (stops (copy_order j) (accepted-rearranged bytes j e) r d)
    first-sound (filled s) d = keeps (filled_is (copy_order j) (accepted-rearranged bytes j e) s d)

    -- the swap search keeps a filling of a rearrangement, or ends with a refusal for which R holds
    pub search-sound : Sound R (swap_search j l)
    unfolding swap_search
    search-sound = go (leb 2 (length (copy_order j))) (leb-true 2 (length (copy_order j)))
      where
        go : (t : Bool) → (t ≡ true → 2 ≤ length (copy_order j)) → Sound R (elim t [ true ↦ rounds j l j.header.rounds (first_kept j (copy_order j) (fill_order j l (copy_order j))) | false ↦ first_kept j (copy_order j) (fill_order j l (copy_order j)) ])
        go true b = rounds-sound (let c = rearranged-length j (copy_order j) (accepted-rearranged bytes j e) in let d = b refl in omega arith) j.header.rounds _ (first-sound (fill_order j l (copy_order j)) refl)
        go false b = first-sound (fill_order j l (copy_order j)) refl
