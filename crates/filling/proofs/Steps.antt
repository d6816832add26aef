-- What the core step does to a state and its rooms. Assumes nothing.
use Rattle.std.specs.Prelude.{Result, Ok, Err}
use mathlib.Core.Path.{◌≡◌, refl, sym, ap, ◌∙◌}
use mathlib.Core.Bool.{Bool, true, false}
use mathlib.Core.List.{List, [], ◌∷◌, ◌++◌, map, flat_map, append-nil, append_assoc}
use Prim.Native.Nat.{ℕ, suc, ◌*◌, ◌≤◌, ◌<◌}
use native.Mathlib.Omega.{arith}
use lib.ListN.{length, get_or, set, drop, length-map, length-set, length-take, length-drop}
use lib.Seq.{get_or-set_same, length-sets, drop-cons, get_or-take}
use lib.Ieee.{Float, nan}
use Rattle.numbers.specs.Numbers.{◌⊕◌, larger, pos_zero}
use Rattle.trapezoid.specs.Strip.{strip_at, capacity, moved_by}
use Rattle.index.specs.Buckets.{up_from}
use Rattle.job.specs.Jobs.{Job}
use Rattle.filling.specs.declared.State.{State}
use Rattle.filling.specs.declared.Tables.{Tables}
use Rattle.filling.specs.declared.Layout.{Layout}
use Rattle.filling.specs.declared.Refusal.{Refusal}
use Rattle.filling.specs.declared.Refusal.TheVariants as Why
use Rattle.filling.specs.Refusals.{refuse_if}
use Rattle.filling.specs.Shapes.{Shape, Planner, planner_of, Copy, Standing, copies_from, shape_of, moved_strips, copy_strips, standing_strips}
use Rattle.filling.specs.Search.{Found, Track, search_all, searched_all}
use Rattle.filling.specs.Choice.{Choice, choices, best, standing_at}
use Rattle.filling.specs.Rooms.{Rooms, interval_capacity, zeros}
use Rattle.filling.specs.State.{orientation_counts, shape_at, planner_at, order_of, copy_at, stands_at, misses_at, standing_of, without_of, remembered_number, track_at, tracks_of}
use Rattle.filling.specs.Consistent.{placed_strips_of}
use Rattle.filling.specs.NextCopy.{interval_counts, any_above, new_strips, winner_verdict, copy_verdict, entered, state_with, layout_after, state_after, stored, rooms_after, Step, no_step, place_found, place_copy, place_next, core_step}
use Rattle.filling.proofs.Reading.{Sixfold, sixfold_nil, sixfold_append, sixfold_flat, take-laid, rows-length, to_come}
use Rattle.filling.proofs.Entered.{standing_now, without_now, tracks_write, searched-length}
use Rattle.filling.proofs.Sizes.{Sized}

-- ---- the standing copies' strips

pub flat_map_snoc : {A B : Type 0} (f : A → List B) (l : List A) (a : A) → flat_map f (l ++ (a ∷ [])) ≡ flat_map f l ++ f a
unfolding flat_map
flat_map_snoc f [] a = append-nil (f a)
flat_map_snoc f (b ∷ l) a = ap (λ r. f b ++ r) (flat_map_snoc f l a) ∙ sym (append_assoc (f b) (flat_map f l) (f a))

pub standing_more : (p : Planner) (cs : List Standing) (c : Copy) (a : Choice) → standing_strips p (cs ++ (standing_at c a ∷ [])) ≡ standing_strips p cs ++ new_strips p c.kind a
unfolding standing_strips new_strips standing_at copy_strips
standing_more p cs c a = flat_map_snoc (copy_strips p) cs (standing_at c a)

moved_sixfold : (part : List Float) (x y : Float) → Sixfold (moved_strips part x y)
unfolding moved_strips
moved_sixfold part x y = sixfold_flat (map (λ i. moved_by (strip_at part i) x y) (up_from (capacity part) 0))

pub new_sixfold : (p : Planner) (k : ℕ) (c : Choice) → Sixfold (new_strips p k c)
unfolding new_strips
new_sixfold p k c = moved_sixfold (shape_of p k c.orientation).apart c.x c.y

pub standing_sixfold : (p : Planner) (cs : List Standing) → Sixfold (standing_strips p cs)
unfolding standing_strips flat_map copy_strips
standing_sixfold p [] = sixfold_nil
standing_sixfold p (c ∷ cs) =
    sixfold_append (copy_strips p c) (flat_map (copy_strips p) cs) (moved_sixfold (shape_of p c.copy.kind c.orientation).apart c.x c.y) (standing_sixfold p cs)

-- ---- state and rooms are those of the job's own planner

pub record Linked (j : Job) (s : State) (w : Rooms) : Type 0 where
  pub plan : planner_at j s.tables w ≡ planner_of j
  pub stand : placed_strips_of s w ≡ standing_strips (planner_of j) (standing_of s)
  pub numbers : length s.layout.orientation ≡ 4096
  pub xs : length s.layout.x ≡ 4096
  pub ys : length s.layout.y ≡ 4096
  pub gaps : length s.layout.gap ≡ 4096
  pub next-columns : length s.next_column ≡ 1024
  pub look_counts : length s.look_counts ≡ 1024

module _ (j : Job) (s : State) where
  abbrev pub Here : List Float
  Here = standing_strips (planner_of j) (standing_of s)

  abbrev pub FoundOf : ℕ → List Found
  FoundOf k = search_all (planner_of j) Here (get_or (planner_of j).shapes k []) (get_or (tracks_of j s) k [])

  abbrev pub TracksNow : ℕ → List Track
  TracksNow k = searched_all (planner_of j) (get_or (planner_of j).shapes k []) (get_or (tracks_of j s) k []) (FoundOf k)

  abbrev pub ChoicesNow : ℕ → List Choice
  ChoicesNow k = choices (planner_of j) 0 (get_or (planner_of j).shapes k []) (FoundOf k)

-- which copy was taken, and what the new state and rooms are
pub record Took (j : Job) (s : State) (w : Rooms) (r : Step) : Type 0 where
  pub kind : ℕ
  pub rest : List ℕ
  pub order_is : drop s.taken (order_of j s) ≡ kind ∷ rest
  pub accepted : r.verdict ≡ Ok tt
  pub fits : winner_verdict (planner_of j) w kind (Here j s) (ChoicesNow j s kind) ≡ Ok tt
  pub state_is : r.state ≡ state_after (planner_of j) kind (TracksNow j s kind) s (Here j s) (ChoicesNow j s kind)
  pub rooms_is : r.rooms ≡ rooms_after (planner_of j) kind w (Here j s) (ChoicesNow j s kind)

pub data Outcome (j : Job) (s : State) (w : Rooms) (r : Step) : Type 0 where
  unchanged : (k : Refusal) → r.verdict ≡ Err k → r.state ≡ s → r.rooms ≡ w → Outcome j s w r
  took : Took j s w r → Outcome j s w r

-- ---- the core step

pub refused≢accepted : {k : Refusal} → ◌≡◌ {A = Result (Unit {0}) Refusal} (Err k) (Ok tt) → ⊥
refused≢accepted e = let z : ◌≡◌ {A = ℕ} 0 1 = cc in omega arith

pub accepted≢refused : {k : Refusal} → ◌≡◌ {A = Result (Unit {0}) Refusal} (Ok tt) (Err k) → ⊥
accepted≢refused e = refused≢accepted (sym e)

pub same-refusal : {k r : Refusal} → ◌≡◌ {A = Result (Unit {0}) Refusal} (Err k) (Err r) → k ≡ r
same-refusal e = cc

pub no_step-refused : (k : Refusal) (s : State) (w : Rooms) (iv : List Float) → (no_step k s w iv).verdict ≡ Err k
unfolding no_step
no_step-refused k s w iv = refl

pub refuse_yes : (t : Bool) (k : Refusal) (v : Result (Unit {0}) Refusal) → t ≡ true → refuse_if t k v ≡ Err k
unfolding refuse_if
refuse_yes t k v e = rw (e, refuse_if)

pub refuse_no : (t : Bool) (k : Refusal) (v : Result (Unit {0}) Refusal) → t ≡ false → refuse_if t k v ≡ v
unfolding refuse_if
refuse_no t k v e = rw (e, refuse_if)

pub later_accepted : (t : Bool) (k : Refusal) (v : Result (Unit {0}) Refusal) → refuse_if t k v ≡ Ok tt → (t ≡ false) × (v ≡ Ok tt)
unfolding refuse_if
later_accepted true k v e = absurd (refused≢accepted e)
later_accepted false k v e = (refl, e)

module _ (p : Planner) (st : List Float) (ts : List Track) (k : ℕ) (s : State) (w : Rooms) (iv : List Float) where
  abbrev Ss : List Shape
  Ss = get_or p.shapes k []

  abbrev Fs : List Found
  Fs = search_all p st (get_or p.shapes k []) ts

  pub place-refused : (r : Refusal) → copy_verdict p w iv k st Ss ts Fs ≡ Err r → place_copy p st ts k s w iv ≡ no_step r s w iv
  unfolding place_copy place_found
  place-refused r e = rw (e, place_found)

  pub place-taken : copy_verdict p w iv k st Ss ts Fs ≡ Ok tt
      → place_copy p st ts k s w iv
      ≡ record {
        verdict = Ok tt;
        state = state_after p k (searched_all p Ss ts (search_all p st Ss ts)) s st (choices p 0 Ss (search_all p st Ss ts));
        rooms = rooms_after p k w st (choices p 0 Ss (search_all p st Ss ts));
        intervals = zeros pos_zero iv;
      }
  unfolding place_copy place_found
  place-taken e = rw (e, place_found)

  pub winner-accepted : copy_verdict p w iv k st Ss ts Fs ≡ Ok tt → winner_verdict p w k st (choices p 0 Ss (search_all p st Ss ts)) ≡ Ok tt
  unfolding copy_verdict
  winner-accepted e = (later_accepted (any_above (interval_capacity iv) (interval_counts p st Ss ts Fs)) Why.IntervalRoom _ e).1

module _ (j : Job) (s : State) (w : Rooms) (h : Linked j s w) (iv : List Float) where
  no_step_lem : (r : Refusal) → Outcome j s w (no_step r s w iv)
  unfolding no_step
  no_step_lem r = unchanged r refl refl refl

  placed : (k : ℕ) (ks : List ℕ) → drop s.taken (order_of j s) ≡ k ∷ ks → Outcome j s w (place_copy (planner_of j) (Here j s) (get_or (tracks_of j s) k []) k s w iv)
  placed k ks e = go (copy_verdict (planner_of j) w iv k (Here j s) (get_or (planner_of j).shapes k []) (get_or (tracks_of j s) k []) (FoundOf j s k)) refl
    where
      go : (v : Result (Unit {0}) Refusal) → copy_verdict (planner_of j) w iv k (Here j s) (get_or (planner_of j).shapes k []) (get_or (tracks_of j s) k []) (FoundOf j s k) ≡ v → Outcome j s w (place_copy (planner_of j) (Here j s) (get_or (tracks_of j s) k []) k s w iv)
      go (Ok tt) d =
          rw (place-taken (planner_of j) (Here j s) (get_or (tracks_of j s) k []) k s w iv d)
          (took (record { kind = k; rest = ks; order_is = e; accepted = refl; fits = winner-accepted (planner_of j) (Here j s) (get_or (tracks_of j s) k []) k s w iv d; state_is = refl; rooms_is = refl }))
      go (Err r) d = rw (place-refused (planner_of j) (Here j s) (get_or (tracks_of j s) k []) k s w iv r d) (no_step_lem r)

  next-placed : (l : List ℕ) → drop s.taken (order_of j s) ≡ l → Outcome j s w (place_next j s w iv l)
  unfolding place_next
  next-placed [] e = no_step_lem Why.OrderUsedUp
  next-placed (k ∷ ks) e = rw (h.plan, h.stand) (placed k ks e)

  pub core_outcome : Outcome j s w (core_step j s w iv)
  unfolding core_step
  core_outcome = next-placed (drop s.taken (order_of j s)) refl

-- ---- what a copy taken leaves

planner_stored : (j : Job) (t : Tables) (p : Planner) (w : Rooms) (st : List Float) → planner_at j t (stored p w st) ≡ planner_at j t w
unfolding planner_at stored
planner_stored j t p w st = refl

placed-stored : (s : State) (k : ℕ) (ts : List Track) (l : Layout) (p : Planner) (w : Rooms) (st : List Float) → Sixfold st → placed_strips_of (state_with s k ts (capacity st) l) (stored p w st) ≡ st
unfolding placed_strips_of state_with stored
placed-stored s k ts l p w st h = take-laid st w.placed (6 * capacity st) h

module _ (j : Job) (z : Sized j) (s : State) (w : Rooms) (h : Linked j s w) (k : ℕ) (ks : List ℕ) (e : drop s.taken (order_of j s) ≡ k ∷ ks) where
  in_order : s.taken < length (order_of j s)
  in_order = let l : length (drop s.taken (order_of j s)) ≡ suc (length ks) = ap length e in let m = length-drop s.taken (order_of j s) in omega arith

  pub in_job : s.taken < j.copies
  unfolding order_of
  in_job = let a = in_order in let l = length-take j.copies s.order in omega arith

  in_layout : (l : List Float) → length l ≡ 4096 → s.taken < length l
  in_layout l d = let a = in_job in let b = z.few in omega arith

  in_numbers : s.taken < length s.layout.orientation
  in_numbers = let a = in_job in let b = z.few in let c = h.numbers in omega arith

  split : k ∷ ks ≡ get_or (order_of j s) s.taken 0 ∷ drop (suc s.taken) (order_of j s)
  split = sym e ∙ drop-cons (order_of j s) s.taken 0 in_order

  kind_is : get_or s.order s.taken 0 ≡ k
  unfolding order_of
  kind_is = let a = split in sym (get_or-take j.copies s.order s.taken 0 in_job) ∙ (cc)

  rest-is : drop (suc s.taken) (order_of j s) ≡ ks
  rest-is = let a = split in cc

  abbrev Next : Copy
  Next = record { place = s.taken; kind = k }

  pub to_come_is : to_come j s ≡ Next ∷ copies_from (suc s.taken) ks
  unfolding to_come copies_from
  to_come_is = ap (copies_from s.taken) e

  kinds_few : length (orientation_counts j) ≤ 64
  unfolding orientation_counts
  kinds_few = let a = z.kinds in simp length-map (omega arith)

  module _ (ts : List Track) (lts : length ts ≡ get_or (orientation_counts j) k 0) (strips out : ℕ) (x y gap area right : Float) where
    abbrev New : State
    New = state_with s k ts strips (entered s.layout s.taken out x y gap area right)

    to_come_now : to_come j New ≡ copies_from (suc s.taken) ks
    unfolding to_come state_with order_of
    to_come_now = ap (copies_from (suc s.taken)) rest-is

    tracks_now : tracks_of j New ≡ set (tracks_of j s) k ts
    unfolding tracks_of state_with
    tracks_now = tracks_write s.next_column s.look_counts k (orientation_counts j) ts z.turns kinds_few h.next-columns h.look_counts lts

    copy_now : copy_at New s.taken ≡ Next
    unfolding copy_at state_with
    copy_now = ap (λ i. record { place = s.taken; kind = i }) kind_is

    stands_now : (o : ℕ) → stands_at New s.taken (suc o) ≡ record { copy = Next; orientation = o; x = x; y = y; gap = gap } ∷ []
    unfolding stands_at state_with entered
    stands_now o = rw (copy_now, get_or-set_same s.layout.x s.taken x nan (in_layout s.layout.x h.xs), get_or-set_same s.layout.y s.taken y nan (in_layout s.layout.y h.ys), get_or-set_same s.layout.gap s.taken gap nan (in_layout s.layout.gap h.gaps))

    linked_by : (w' : Rooms) → planner_at j s.tables w' ≡ planner_of j → placed_strips_of New w' ≡ standing_strips (planner_of j) (standing_of New) → Linked j New w'
    unfolding state_with entered
    linked_by w' p q =
        record {
          plan = p;
          stand = q;
          numbers = length-set s.layout.orientation s.taken out ∙ h.numbers;
          xs = length-set s.layout.x s.taken x ∙ h.xs;
          ys = length-set s.layout.y s.taken y ∙ h.ys;
          gaps = length-set s.layout.gap s.taken gap ∙ h.gaps;
          next-columns = length-sets s.next_column (16 * k) (map (λ t. remembered_number t.next_column) ts) ∙ h.next-columns;
          look_counts = length-sets s.look_counts (16 * k) (map (λ t. t.look_count) ts) ∙ h.look_counts;
        }

  module _ (ts : List Track) (lts : length ts ≡ get_or (orientation_counts j) k 0) where
    -- no place
    module _ (strips : ℕ) (area right : Float) where
      none-stands : standing_of (New ts lts strips 0 pos_zero pos_zero pos_zero area right) ≡ standing_of s
      unfolding stands_at
      none-stands = standing_now s k ts strips 0 pos_zero pos_zero pos_zero area right in_numbers ∙ append-nil (standing_of s)

      one-misses : without_of (New ts lts strips 0 pos_zero pos_zero pos_zero area right) ≡ without_of s ++ (Next ∷ [])
      unfolding misses_at
      one-misses = without_now s k ts strips 0 pos_zero pos_zero pos_zero area right in_numbers ∙ ap (λ c. without_of s ++ (c ∷ [])) (copy_now ts lts strips 0 pos_zero pos_zero pos_zero area right)

    -- a place
    module _ (strips o : ℕ) (x y gap area right : Float) where
      one-stands : standing_of (New ts lts strips (suc o) x y gap area right) ≡ standing_of s ++ (record { copy = Next; orientation = o; x = x; y = y; gap = gap } ∷ [])
      one-stands = standing_now s k ts strips (suc o) x y gap area right in_numbers ∙ ap (λ l. standing_of s ++ l) (stands_now ts lts strips (suc o) x y gap area right o)

      none-misses : without_of (New ts lts strips (suc o) x y gap area right) ≡ without_of s
      unfolding misses_at
      none-misses = without_now s k ts strips (suc o) x y gap area right in_numbers ∙ append-nil (without_of s)

    -- ---- by the choices

    abbrev After : List Choice → State
    After cs = state_after (planner_of j) k ts s (Here j s) cs

    pub after_to_come : (cs : List Choice) → to_come j (After cs) ≡ copies_from (suc s.taken) ks
    unfolding state_after layout_after
    after_to_come [] = to_come_now ts lts _ _ _ _ _ _ _
    after_to_come (a ∷ as') = to_come_now ts lts _ _ _ _ _ _ _

    pub after_tracks : (cs : List Choice) → tracks_of j (After cs) ≡ set (tracks_of j s) k ts
    unfolding state_after layout_after
    after_tracks [] = tracks_now ts lts _ _ _ _ _ _ _
    after_tracks (a ∷ as') = tracks_now ts lts _ _ _ _ _ _ _

    pub after-none-stands : standing_of (After []) ≡ standing_of s
    unfolding state_after layout_after
    after-none-stands = none-stands s.placed_strips (s.layout.unplaced_area ⊕ get_or (planner_of j).areas k pos_zero) s.layout.right

    pub after-one-misses : without_of (After []) ≡ without_of s ++ (Next ∷ [])
    unfolding state_after layout_after
    after-one-misses = one-misses s.placed_strips (s.layout.unplaced_area ⊕ get_or (planner_of j).areas k pos_zero) s.layout.right

    pub after-one-stands : (a : Choice) (as' : List Choice) → standing_of (After (a ∷ as')) ≡ standing_of s ++ (standing_at Next (best a as') ∷ [])
    unfolding state_after layout_after standing_at
    after-one-stands a as' =
        let c = best a as' in
        one-stands (capacity (Here j s ++ new_strips (planner_of j) k c)) c.orientation c.x c.y c.gap s.layout.unplaced_area (larger s.layout.right c.right)

    pub after-none-misses : (a : Choice) (as' : List Choice) → without_of (After (a ∷ as')) ≡ without_of s
    unfolding state_after layout_after
    after-none-misses a as' =
        let c = best a as' in
        none-misses (capacity (Here j s ++ new_strips (planner_of j) k c)) c.orientation c.x c.y c.gap s.layout.unplaced_area (larger s.layout.right c.right)

    pub after_linked : (cs : List Choice) → Linked j (After cs) (rooms_after (planner_of j) k w (Here j s) cs)
    unfolding state_after layout_after rooms_after
    after_linked [] =
        let area = s.layout.unplaced_area ⊕ get_or (planner_of j).areas k pos_zero in
        linked_by ts lts s.placed_strips 0 pos_zero pos_zero pos_zero area s.layout.right w h.plan
        (kept ∙ sym (ap (standing_strips (planner_of j)) (none-stands s.placed_strips area s.layout.right)))
      where
        kept : placed_strips_of (state_with s k ts s.placed_strips (layout_after (planner_of j) k s.taken s.layout [])) w ≡ standing_strips (planner_of j) (standing_of s)
        kept = unfold placed_strips_of in (unfold state_with in (unfold placed_strips_of in h.stand))
    after_linked (a ∷ as') =
        let c = best a as' in
        let now = Here j s ++ new_strips (planner_of j) k c in
        let right = larger s.layout.right c.right in
        linked_by ts lts (capacity now) (suc c.orientation) c.x c.y c.gap s.layout.unplaced_area right (stored (planner_of j) w now) (planner_stored j s.tables (planner_of j) w now ∙ h.plan)
        (placed-stored s k ts (entered s.layout s.taken (suc c.orientation) c.x c.y c.gap s.layout.unplaced_area right) (planner_of j) w now
        (sixfold_append (Here j s) (new_strips (planner_of j) k c) (standing_sixfold (planner_of j) (standing_of s)) (new_sixfold (planner_of j) k c))
        ∙ sym (standing_more (planner_of j) (standing_of s) Next c) ∙ sym (ap (standing_strips (planner_of j)) (after-one-stands a as')))

-- the next copy's kind and those after it
abbrev pub Nexts : Job → State → ℕ → List ℕ → Type 0
Nexts j s k ks = drop s.taken (order_of j s) ≡ k ∷ ks

pub after-taken : (j : Job) (s : State) (k : ℕ) (ts : List Track) (cs : List Choice) → (state_after (planner_of j) k ts s (Here j s) cs).taken ≡ suc s.taken
unfolding state_after state_with
after-taken j s k ts [] = refl
after-taken j s k ts (a ∷ as') = refl

module _ (j : Job) (s : State) (w : Rooms) (h : Linked j s w) (k : ℕ) where
  rows_of_tracks : length (get_or (tracks_of j s) k []) ≡ get_or (orientation_counts j) k 0
  unfolding tracks_of
  rows_of_tracks = rows-length (track_at s.next_column s.look_counts) 0 (orientation_counts j) k

  pub rows_of_shapes : length (get_or (planner_of j).shapes k []) ≡ get_or (orientation_counts j) k 0
  unfolding planner_at
  rows_of_shapes = ap (λ p. length (get_or p.shapes k [])) (sym h.plan) ∙ rows-length (shape_at s.tables w.shapes) 0 (orientation_counts j) k

  pub tracks_length : length (TracksNow j s k) ≡ get_or (orientation_counts j) k 0
  tracks_length = searched-length (planner_of j) (Here j s) (get_or (planner_of j).shapes k []) (get_or (tracks_of j s) k []) (rows_of_shapes ∙ sym rows_of_tracks) ∙ rows_of_tracks
