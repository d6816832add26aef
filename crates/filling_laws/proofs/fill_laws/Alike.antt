-- A filling's answer depends on the lengths of the placed rooms, bucket numbers included, and of the interval room, not on what they hold. Assumes nothing.
use Rattle.std.specs.Prelude.{Result, Ok, Err}
use Prim.Native.Nat.{ℕ, zero, suc, ◌+◌, ◌-◌}
use mathlib.Core.Path.{◌≡◌, refl, sym, ap, ap₂, ◌∙◌}
use mathlib.Core.List.{List, [], ◌∷◌, ◌++◌}
use lib.ListN.{length, get_or, drop, length-append, length-drop}
use lib.Ieee.{Float}
use Rattle.trapezoid.specs.Strip.{capacity}
use Rattle.job.specs.Jobs.{Job}
use Rattle.filling.specs.declared.State.{State}
use Rattle.filling.specs.declared.Refusal.{Refusal}
use Rattle.filling.specs.declared.Refusal.TheVariants as Why
use Rattle.filling.specs.Shapes.{Planner, Shape}
use Rattle.filling.specs.Search.{Found, Track, search_all, searched_all}
use Rattle.filling.specs.Choice.{Choice, choices, best}
use Rattle.filling.specs.Rooms.{Rooms, laid}
use Rattle.filling.specs.State.{planner_at, order_of, tracks_of}
use Rattle.filling.specs.Consistent.{placed_strips_of}
use Rattle.filling.specs.NextCopy.{new_strips, store_verdict, winner_verdict, copy_verdict, state_with, state_after, stored, rooms_after, no_step, place_copy, place_next, core_step}
use Rattle.filling.specs.Fill.{fill_from}
use Rattle.filling.proofs.FillSteps.{fill_on, fill_stops, fill-ends}
use Rattle.filling.proofs.Steps.{place-refused, place-taken, no_step-refused}
use Rattle.filling_laws.proofs.Firsts.{take-front}

-- two rooms that hold the same planner and the same standing strips, of equal lengths where copies are stored
pub record Alike (j : Job) (s : State) (w w' : Rooms) : Type 0 where
  pub planner : planner_at j s.tables w ≡ planner_at j s.tables w'
  pub standing : placed_strips_of s w ≡ placed_strips_of s w'
  pub placed : length w.placed ≡ length w'.placed
  pub entries : length w.placed_entries ≡ length w'.placed_entries
  pub firsts : length w.placed_firsts ≡ length w'.placed_firsts

-- ---- what a step tests

store_same : (p : Planner) (w w' : Rooms) (strips : List Float) → length w.placed ≡ length w'.placed → length w.placed_entries ≡ length w'.placed_entries → length w.placed_firsts ≡ length w'.placed_firsts → store_verdict p w strips ≡ store_verdict p w' strips
unfolding store_verdict Rattle.index.specs.Buckets.standing_capacity capacity
store_same p w w' strips a b d = rw (a, b, d)

winner-same : (p : Planner) (w w' : Rooms) (k : ℕ) (st : List Float) (cs : List Choice) → length w.placed ≡ length w'.placed → length w.placed_entries ≡ length w'.placed_entries → length w.placed_firsts ≡ length w'.placed_firsts → winner_verdict p w k st cs ≡ winner_verdict p w' k st cs
unfolding winner_verdict
winner-same p w w' k st [] a b d = refl
winner-same p w w' k st (c ∷ cs) a b d = store_same p w w' (st ++ new_strips p k (best c cs)) a b d

verdict-same : (p : Planner) (w w' : Rooms) (iv iv' : List Float) (k : ℕ) (st : List Float) (ss : List Shape) (ts : List Track) (fs : List Found)
    → length w.placed ≡ length w'.placed → length w.placed_entries ≡ length w'.placed_entries → length w.placed_firsts ≡ length w'.placed_firsts → length iv ≡ length iv' → copy_verdict p w iv k st ss ts fs ≡ copy_verdict p w' iv' k st ss ts fs
unfolding copy_verdict
verdict-same p w w' iv iv' k st ss ts fs a b d c = rw (c, winner-same p w w' k st (choices p 0 ss fs) a b d)

-- ---- what a step leaves

length-same : {A : Type 0} (xs room room' : List A) → length room ≡ length room' → length (laid xs room) ≡ length (laid xs room')
unfolding laid
length-same xs room room' e =
    length-append xs (drop (length xs) room)
    ∙ (ap (λ (z : ℕ). length xs + z) (length-drop (length xs) room ∙ (ap (λ (z : ℕ). z - length xs) e ∙ sym (length-drop (length xs) room')))
    ∙ sym (length-append xs (drop (length xs) room')))

module _ (j : Job) (s : State) (w w' : Rooms) (h : Alike j s w w') (p : Planner) (k : ℕ) (ts : List Track) (st : List Float) where
  after_alike : (cs : List Choice) → Alike j (state_after p k ts s st cs) (rooms_after p k w st cs) (rooms_after p k w' st cs)
  unfolding state_after state_with rooms_after stored placed_strips_of planner_at
  after_alike [] = record { planner = h.planner; standing = h.standing; placed = h.placed; entries = h.entries; firsts = h.firsts }
  after_alike (c ∷ cs) =
      record {
        planner = h.planner;
        standing = take-front (st ++ new_strips p k (best c cs)) w.placed ∙ sym (take-front (st ++ new_strips p k (best c cs)) w'.placed);
        placed = length-same _ w.placed w'.placed h.placed;
        entries = length-same _ w.placed_entries w'.placed_entries h.entries;
        firsts = length-same _ w.placed_firsts w'.placed_firsts h.firsts;
      }

-- ---- a step

next_is : (j : Job) (s : State) (w : Rooms) (iv : List Float) (k : ℕ) (ks : List ℕ) → drop s.taken (order_of j s) ≡ k ∷ ks
    → core_step j s w iv ≡ place_copy (planner_at j s.tables w) (placed_strips_of s w) (get_or (tracks_of j s) k []) k s w iv
unfolding core_step place_next
next_is j s w iv k ks e = ap (place_next j s w iv) e

used_up : (j : Job) (s : State) (w : Rooms) (iv : List Float) → drop s.taken (order_of j s) ≡ [] → (core_step j s w iv).verdict ≡ Err Why.OrderUsedUp
unfolding core_step place_next no_step
used_up j s w iv e = ap (λ l. (place_next j s w iv l).verdict) e

module _ (j : Job) (iv iv' : List Float) (wide : length iv ≡ length iv') (n : ℕ) (more : (s : State) (w w' : Rooms) → Alike j s w w' → fill_from j iv n s w ≡ fill_from j iv' n s w') (s : State) (w w' : Rooms) (h : Alike j s w w') where
  abbrev p : Planner
  p = planner_at j s.tables w

  abbrev st : List Float
  st = placed_strips_of s w

  module _ (k : ℕ) (ks : List ℕ) (e : drop s.taken (order_of j s) ≡ k ∷ ks) where
    abbrev ss : List Shape
    ss = get_or (planner_at j s.tables w).shapes k []

    abbrev ts : List Track
    ts = get_or (tracks_of j s) k []

    abbrev fs : List Found
    fs = search_all p st ss ts

    other : core_step j s w' iv' ≡ place_copy p st ts k s w' iv'
    other = next_is j s w' iv' k ks e ∙ ap₂ (λ (q : Planner) (l : List Float). place_copy q l ts k s w' iv') (sym h.planner) (sym h.standing)

    verdict' : (v : Result (Unit {0}) Refusal) → copy_verdict p w iv k st ss ts fs ≡ v → copy_verdict p w' iv' k st ss ts fs ≡ v
    verdict' v d = sym (verdict-same p w w' iv iv' k st ss ts fs h.placed h.entries h.firsts wide) ∙ d

    refuses : (r : Refusal) → copy_verdict p w iv k st ss ts fs ≡ Err r → fill_from j iv (suc n) s w ≡ fill_from j iv' (suc n) s w'
    refuses r d =
        let a = next_is j s w iv k ks e ∙ place-refused p st ts k s w iv r d in
        let b = other ∙ place-refused p st ts k s w' iv' r (verdict' (Err r) d) in
        fill_stops j iv n s w r (ap (λ q. q.verdict) a ∙ no_step-refused r s w iv)
        ∙ sym (fill_stops j iv' n s w' r (ap (λ q. q.verdict) b ∙ no_step-refused r s w' iv'))

    takes : copy_verdict p w iv k st ss ts fs ≡ (Ok tt) → fill_from j iv (suc n) s w ≡ fill_from j iv' (suc n) s w'
    takes d =
        let a = next_is j s w iv k ks e ∙ place-taken p st ts k s w iv d in
        let b = other ∙ place-taken p st ts k s w' iv' (verdict' (Ok tt) d) in
        fill_on j iv n s w (ap (λ q. q.verdict) a)
        ∙ (ap₂ (fill_from j iv n) (ap (λ q. q.state) a) (ap (λ q. q.rooms) a)
        ∙ (more _ _ _ (after_alike j s w w' h p k (searched_all p ss ts fs) st (choices p 0 ss fs))
        ∙ sym (fill_on j iv' n s w' (ap (λ q. q.verdict) b)
        ∙ ap₂ (fill_from j iv' n) (ap (λ q. q.state) b) (ap (λ q. q.rooms) b))))

    by_verdict : (v : Result (Unit {0}) Refusal) → copy_verdict p w iv k st ss ts fs ≡ v → fill_from j iv (suc n) s w ≡ fill_from j iv' (suc n) s w'
    by_verdict (Ok tt) d = takes d
    by_verdict (Err r) d = refuses r d

    placed_alike : fill_from j iv (suc n) s w ≡ fill_from j iv' (suc n) s w'
    placed_alike = by_verdict (copy_verdict p w iv k st ss ts fs) refl

  by_next : (l : List ℕ) → drop s.taken (order_of j s) ≡ l → fill_from j iv (suc n) s w ≡ fill_from j iv' (suc n) s w'
  by_next [] e = fill_stops j iv n s w Why.OrderUsedUp (used_up j s w iv e) ∙ sym (fill_stops j iv' n s w' Why.OrderUsedUp (used_up j s w' iv' e))
  by_next (k ∷ ks) e = placed_alike k ks e

  step_alike : fill_from j iv (suc n) s w ≡ fill_from j iv' (suc n) s w'
  step_alike = by_next (drop s.taken (order_of j s)) refl

-- n copies more, in two rooms alike
pub fill_alike : (j : Job) (iv iv' : List Float) → length iv ≡ length iv' → (n : ℕ) (s : State) (w w' : Rooms) → Alike j s w w' → fill_from j iv n s w ≡ fill_from j iv' n s w'
fill_alike j iv iv' wide zero s w w' h = fill-ends j iv s w ∙ sym (fill-ends j iv' s w')
fill_alike j iv iv' wide (suc n) s w w' h = step_alike j iv iv' wide n (λ s w w' h. fill_alike j iv iv' wide n s w w' h) s w w' h
