-- None is refused where the rooms suffice: a start, as many calls as the job has copies, and a filling. Assumes nothing.
use Rattle.std.specs.Prelude.{Ok}
use Prim.Native.Nat.{ℕ, zero, suc, ◌+◌, ◌*◌, ◌≤◌, ◌<◌}
use native.Mathlib.Nat.{mul-le-mul_left, mul-le-mul_right, le_trans}
use native.Mathlib.Omega.{arith}
use mathlib.Core.Path.{◌≡◌, refl, sym, ap, ◌∙◌}
use mathlib.Core.Bool.{true}
use mathlib.Core.List.{List, [], ◌∷◌, ◌++◌}
use lib.ListN.{length, get_or, drop, replicate}
use borrow.Author.Tests.{le-ltb}
use lib.Ieee.{Float}
use Rattle.numbers.specs.Numbers.{pos_zero}
use Rattle.trapezoid.specs.Strip.{capacity}
use Rattle.index.specs.Buckets.{standing_capacity}
use Rattle.job.specs.Jobs.{Job, accepted, read_job}
use Rattle.filling.specs.declared.State.{State}
use Rattle.filling.specs.Refusals.{refuse_if}
use Rattle.filling.specs.Shapes.{Planner, planner_of, no_shape, shape_of, standing_strips}
use Rattle.filling.specs.Search.{intervals_at, search_all}
use Rattle.filling.specs.Choice.{Choice, choices, best}
use Rattle.filling.specs.Rooms.{Rooms, Lent, interval_capacity, position_capacity, laid}
use Rattle.filling.specs.Order.{rearranged}
use Rattle.filling.specs.State.{standing_of, order_of, tracks_of}
use Rattle.filling.specs.Consistent.{sheet_index, entries_for, firsts_for}
use Rattle.filling.specs.Start.{apart_strips_of, inset_strips, prepare_verdict, first_state, first_rooms, start_verdict, good_start, start_given, start_of}
use Rattle.filling.specs.NextCopy.{new_strips, store_verdict, winner_verdict, copy_verdict, rooms_after, stored, place_next, core_step, step_given, next_copy_of}
use Rattle.filling.specs.Fill.{filled, fill_from, fill_order, planned_with, planned_by, fill_job, fill_given, fill_of}
use Rattle.filling.specs.Calls.{Call, next_copy, step_reply, call_step, after_calls}
use Rattle.filling.specs.Plain.{Plain, plain_start, plain_take}
use Rattle.filling.proofs.Reading.{Sixfold, sixfold_append, capacity_append, laid-capacity, length-laid, length-zeros}
use Rattle.filling.proofs.Sizes.{Sized, sized}
use Rattle.filling.proofs.Steps.{standing_sixfold, new_sixfold, Linked, Nexts, ChoicesNow, TracksNow, Took, Outcome, took, unchanged, in_job}
use Rattle.filling.proofs.Steps.{place-taken, core_outcome, after-taken, refused≢accepted}
use Rattle.filling.proofs.FillSteps.{fill_on}
use Rattle.filling.proofs.Begin.{rearranged-length, start-good}
use Rattle.filling.proofs.Runs.{step-consistent}
use Rattle.filling.proofs.Numbers31.{WithinBounds}
use Rattle.filling.proofs.WithinBounds.{jobs_within}
use Rattle.filling.proofs.OwnStates.{Own, own_consistent, own_start}
use Rattle.filling.proofs.OwnKept.{own_took}
use Rattle.filling.specs.promises.Ample.{Ample, AmpleIntervals, AmpleStart, AmpleCalls, no_call, and_call}
use Rattle.filling.proofs.promises.Few.{entries-few, new-few, standing-few, stands-few, counts-below, look_few}

-- ---- rooms that suffice

module _ (j : Job) (z : Sized j) (s : State) (w : Rooms) (h : Linked j s w) (m n : ℕ) (a : Ample j m n w) (k : ℕ) (ks : List ℕ) (e : Nexts j s k ks) where
  abbrev P : Planner
  P = planner_of j

  abbrev St : List Float
  St = standing_strips (planner_of j) (standing_of s)

  here-few : capacity St ≤ s.taken * m
  here-few = le_trans (standing-few P m a.apart (standing_of s)) (mul-le-mul_right m (unfold standing_of in stands-few s s.taken))

  one_more : s.taken * m + m ≤ j.copies * m
  one_more =
      let l = in_job j z s w h k ks e in
      let u : suc s.taken ≤ j.copies = l in
      let v = mul-le-mul_right m u in
      let f : suc s.taken * m ≡ s.taken * m + m = omega arith in
      rw f at v

  here-below : capacity St ≤ j.copies * m
  here-below = let b = here-few in let c = one_more in omega arith

  abbrev Now : Choice → List Float
  Now c = standing_strips (planner_of j) (standing_of s) ++ new_strips (planner_of j) k c

  now_few : (c : Choice) → capacity (Now c) ≤ j.copies * m
  now_few c =
      let f : capacity (Now c) ≡ capacity St + capacity (new_strips P k c) = capacity_append St (new_strips P k c) (standing_sixfold P (standing_of s))
      (new_sixfold P k c) in
      let b = here-few in
      let d = new-few P m a.apart k c in
      let g = one_more in
      omega arith

  entered-few : (c : Choice) → length (entries_for P.bounds (Now c)) ≤ length w.placed_entries
  unfolding entries_for
  entered-few c =
      let b = entries-few (sheet_index P.bounds) (Now c) (capacity (Now c)) in
      let d = mul-le-mul_left 512 (now_few c) in
      let g = a.placed_entries in
      le_trans b (le_trans d g)

  winner-fits : (cs : List Choice) → winner_verdict P w k St cs ≡ Ok tt
  unfolding winner_verdict store_verdict refuse_if
  winner-fits [] = refl
  winner-fits (c ∷ cs) = rw (
    le-ltb (standing_capacity w.placed w.placed_firsts) (capacity (Now (best c cs))) (le_trans (now_few (best c cs)) a.placed),
    le-ltb (length w.placed_entries) (length (entries_for P.bounds (Now (best c cs)))) (entered-few (best c cs)),
  )

  module _ (iv : List Float) (r : AmpleIntervals j m n iv) where
    look_below : (i : ℕ) → i < length (get_or P.shapes k []) → (c : ℕ) → length (intervals_at P St (get_or (get_or P.shapes k []) i no_shape) c) ≤
        interval_capacity iv
    look_below i l c =
        let s' = get_or (get_or P.shapes k []) i no_shape in
        let b = look_few P St s' c in
        let f : capacity s'.inset ≤ n = unfold shape_of in a.inset k i in
        let g : capacity s'.apart ≤ m = unfold shape_of in a.apart k i in
        let u : capacity s'.inset * capacity P.sheet ≤ n * capacity P.sheet = mul-le-mul_right (capacity P.sheet) f in
        let v : capacity s'.apart * capacity St ≤ m * (j.copies * m) = le_trans (mul-le-mul_right (capacity St) g) (mul-le-mul_left m here-below) in
        omega arith

    copy-fits : copy_verdict P w iv k St (get_or P.shapes k []) (get_or (tracks_of j s) k []) (search_all P St (get_or P.shapes k []) (get_or (tracks_of j s) k [])) ≡
        (Ok tt)
    unfolding copy_verdict refuse_if
    copy-fits = rw (counts-below P St (interval_capacity iv) (get_or P.shapes k []) (get_or (tracks_of j s) k [])
        (search_all P St (get_or P.shapes k []) (get_or (tracks_of j s) k [])) look_below)
        (winner-fits (choices P 0 (get_or P.shapes k []) (search_all P St (get_or P.shapes k []) (get_or (tracks_of j s) k []))))

    -- the core step takes the copy
    core_fits : (core_step j s w iv).verdict ≡ Ok tt
    unfolding core_step place_next
    core_fits = rw (e, h.plan, h.stand, place-taken P St (get_or (tracks_of j s) k []) k s w iv copy-fits)

  placed_long : (d : Choice) → standing_capacity (laid (Now d) w.placed) (laid (firsts_for P.bounds (Now d)) w.placed_firsts) ≡ standing_capacity
      w.placed w.placed_firsts
  placed_long d =
      let b = le_trans (now_few d) a.placed in
      let q : Sixfold (Now d) = sixfold_append St (new_strips P k d) (standing_sixfold P (standing_of s)) (new_sixfold P k d) in
      laid-capacity P.bounds (Now d) w.placed w.placed_firsts q b

  -- and the rooms still suffice
  rooms_still : (cs : List Choice) → Ample j m n (rooms_after P k w St cs)
  unfolding rooms_after stored
  rooms_still [] = a
  rooms_still (c ∷ cs) =
      record {
        apart = a.apart;
        inset = a.inset;
        placed = rw (placed_long (best c cs)) a.placed;
        placed_entries = rw (length-laid (entries_for P.bounds (Now (best c cs))) w.placed_entries (entered-few (best c cs))) a.placed_entries;
      }

-- ---- after a start

pub next_of : (l : List ℕ) (i : ℕ) → i < length l → (k : ℕ) × (ks : List ℕ) × (drop i l ≡ k ∷ ks)
next_of [] i h = absurd (omega arith)
next_of (k ∷ l) zero h = (k, l, refl)
next_of (k ∷ l) (suc i) h = next_of l i (omega arith)

module _ (bytes : List ℕ) (j : Job) (e : read_job bytes ≡ accepted j) (order : List ℕ) (r : rearranged j order ≡ true) (m n : ℕ) where
  abbrev z : Sized j
  z = sized bytes j e

  abbrev b : WithinBounds (planner_of j)
  b = jobs_within bytes j e

  -- a state of the planner's own, in rooms that suffice
  record Ready (s : State) (w : Rooms) (q : Plain) : Type 0 where
    own : Own j order s w q
    ample : Ample j m n w

  module _ (s : State) (w : Rooms) (q : Plain) (h : Ready s w q) (l : s.taken < j.copies) (iv : List Float) (a : AmpleIntervals j m n iv) where
    coming : (k : ℕ) × (ks : List ℕ) × Nexts j s k ks
    coming = next_of (order_of j s) s.taken (let f = rearranged-length j order r in rw h.own.order_kept
        (let g : s.taken < length order = omega arith in g))

    core_takes : (core_step j s w iv).verdict ≡ Ok tt
    core_takes = let c = coming in core_fits j z s w h.own.kept.linked m n h.ample c.0 c.1 c.2 iv a

    core_took : Took j s w (core_step j s w iv)
    core_took = go (core_outcome j s w h.own.kept.linked iv)
      where
        go : Outcome j s w (core_step j s w iv) → Took j s w (core_step j s w iv)
        go (unchanged k v f g) = absurd (refused≢accepted (sym v ∙ core_takes))
        go (took t) = t

    core_ready : Ready (core_step j s w iv).state (core_step j s w iv).rooms (plain_take (planner_of j) q q.to_come_lem)
    core_ready =
        let t = core_took in
        record {
          own = own_took j z b order s w q h.own (core_step j s w iv) t;
          ample = rw t.rooms_is (rooms_still j z s w h.own.kept.linked m n h.ample t.kind t.rest t.order_is (ChoicesNow j s t.kind));
        }

    core_counts : (core_step j s w iv).state.taken ≡ suc s.taken
    core_counts = let t = core_took in rw t.state_is (after-taken j s t.kind (TracksNow j s t.kind) (ChoicesNow j s t.kind))

    call_is : call_step bytes (next_copy iv) s w ≡ step_reply (core_step j s w iv)
    unfolding call_step next_copy_of step_given
    call_is = rw e (ap step_reply (step-consistent j s w iv (own_consistent j order s w q z b r h.own)))

  calls_take : {cs : List Call} → AmpleCalls j m n cs → (s : State) (w : Rooms) (q : Plain) → Ready s w q → s.taken + length cs ≤ j.copies → (after_calls bytes
      cs s w).verdicts ≡ replicate (length cs) (Ok tt)
  unfolding after_calls step_reply
  calls_take no_call s w q h l = refl
  calls_take (and_call {iv = iv} {cs = cs} a as') s w q h l =
      let c = call_is s w q h (omega arith) iv a in
      let d = core_ready s w q h (omega arith) iv a in
      let t = core_counts s w q h (omega arith) iv a in
      rw (
        c,
        core_takes s w q h (omega arith) iv a,
        calls_take as' (core_step j s w iv).state (core_step j s w iv).rooms
            (plain_take (planner_of j) q q.to_come_lem) d (rw t (omega arith)),
      )

  fill_takes : (iv : List Float) → AmpleIntervals j m n iv → (n' : ℕ) (s : State) (w : Rooms) (q : Plain) → Ready s w q → s.taken + n' ≤ j.copies →
      (s' : State) × (fill_from j iv n' s w ≡ filled s')
  fill_takes iv a zero s w q h l = (s, unfold fill_from in refl)
  fill_takes iv a (suc n') s w q h l =
      let t = core_counts s w q h (omega arith) iv a in
      let f = fill_takes iv a n' (core_step j s w iv).state (core_step j s w iv).rooms (plain_take (planner_of j) q q.to_come_lem)
      (core_ready s w q h (omega arith) iv a) (rw t (omega arith)) in
      (f.0, fill_on j iv n' s w (core_takes s w q h (omega arith) iv a) ∙ f.1)

pub start_fits : (j : Job) (order : List ℕ) (l : Lent) → rearranged j order ≡ true → AmpleStart j l → start_verdict j order l ≡ Ok tt
unfolding start_verdict prepare_verdict refuse_if
start_fits j order l r a =
    let p = planner_of j in
    let w = l.rooms in
    rw (
      le-ltb (position_capacity l.positions) j.copies a.positions,
      r,
      le-ltb (standing_capacity w.sheet w.sheet_firsts) (capacity p.sheet)
          a.sheet,
      le-ltb (length w.sheet_entries) (length (entries_for p.bounds p.sheet)) a.sheet_entries,
      le-ltb (capacity w.shapes)
          (capacity (apart_strips_of p ++ inset_strips p)) a.shapes,
    )

first-ample : (j : Job) (m n : ℕ) (w : Rooms) → Ample j m n w → Ample j m n (first_rooms (planner_of j) w)
unfolding first_rooms standing_capacity capacity
first-ample j m n w a =
    record {
      apart = a.apart;
      inset = a.inset;
      placed = rw (length-zeros pos_zero w.placed, length-zeros 0 w.placed_firsts) a.placed;
      placed_entries = rw (length-zeros 0 w.placed_entries) a.placed_entries;
    }

module _ (bytes : List ℕ) (j : Job) (e : read_job bytes ≡ accepted j) (order : List ℕ) (r : rearranged j order ≡ true) (m n : ℕ) (l : Lent) (f : AmpleStart j l)
    (a : Ample j m n l.rooms) where
  begins : start_verdict j order l ≡ Ok tt
  begins = start_fits j order l r f

  start_takes : start_of bytes order l ≡ good_start (planner_of j) order l
  unfolding start_of start_given
  start_takes = rw e (start-good j order l begins)

  start-ready : Ready bytes j e order r m n (first_state (planner_of j) order) (first_rooms (planner_of j) l.rooms) (plain_start (planner_of j) order)
  start-ready = record { own = own_start j (sized bytes j e) (jobs_within bytes j e) order l begins; ample = first-ample j m n l.rooms a }

  start_is : (start_of bytes order l).verdict ≡ Ok tt
  unfolding good_start
  start_is = ap (λ s. s.verdict) start_takes

  calls_are : {cs : List Call} → AmpleCalls j m n cs → length cs ≤ j.copies → (after_calls bytes cs (start_of bytes order l).state
      (start_of bytes order l).lent.rooms).verdicts ≡ replicate (length cs) (Ok tt)
  unfolding good_start
  calls_are cs h = rw start_takes (calls_take bytes j e order r m n cs (first_state (planner_of j) order) (first_rooms (planner_of j) l.rooms)
      (plain_start (planner_of j) order) start-ready (unfold first_state in (let q = h in omega arith)))

  -- a filling reaches its end
  pub fill-ends : AmpleIntervals j m n l.intervals → (s : State) × (fill_order j l order ≡ filled s)
  unfolding fill_order
  fill-ends i = fill_takes bytes j e order r m n l.intervals i (length order) (first_state (planner_of j) order) (first_rooms (planner_of j) l.rooms)
      (plain_start (planner_of j) order) start-ready (unfold first_state in (let q = rearranged-length j order r in omega arith))

  fill_is : AmpleIntervals j m n l.intervals → (fill_of bytes order l).verdict ≡ Ok tt
  unfolding fill_of fill_given fill_job planned_by
  fill_is i = let g = fill-ends i in rw (e, begins, fill_job) (rw (g.1, planned_by) (unfold planned_with in refl))

  -- an accepted job in a given order, with rooms that suffice: the start is accepted, so is every call up to the last copy, so is the filling
  pub rooms_suffice : ((start_of bytes order l).verdict ≡ Ok tt)
      × ((cs : List Call) → AmpleCalls j m n cs → length cs ≤ j.copies → (after_calls bytes cs (start_of bytes order l).state
      (start_of bytes order l).lent.rooms).verdicts ≡ replicate (length cs) (Ok tt))
      × (AmpleIntervals j m n l.intervals → (fill_of bytes order l).verdict ≡ Ok tt)
  rooms_suffice = (start_is, λ cs a h. calls_are a h, fill_is)
