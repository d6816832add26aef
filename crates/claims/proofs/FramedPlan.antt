-- Document 02, W1: a job and the same job with its sets in its frame have one planner, one start, one next copy, one withdrawal, and one plan up to `from`.
-- Assumes nothing.
use Rattle.std.specs.Prelude.{Result, Ok, Err}
use mathlib.Core.Path.{◌≡◌, refl, sym, ap, ◌∙◌}
use mathlib.Core.Bool.{Bool, true, false, not, ◌&&◌}
use mathlib.Core.List.{List, [], ◌∷◌, ◌++◌, map, flat_map, map-map}
use Prim.Native.Nat.{ℕ, zero, suc, ◌%◌}
use lib.ListN.{length, get_or, replicate, drop, length-map}
use lib.Dec.{ltb, leb, eqb}
use lib.Ieee.{Float}
use Rattle.numbers.specs.Numbers.{pos_zero, from_int}
use Rattle.random.specs.SplitMix64.{next_state, mixed}
use Rattle.trapezoid.specs.Strip.{capacity}
use Rattle.index.specs.Buckets.{up_from}
use Rattle.frames.specs.declared.Frame.{Frame}
use Rattle.frames.specs.Frames.{lower_left, framed}
use Rattle.frames.proofs.Turned.{framed-lower-left}
use Rattle.frames.proofs.Zeros.{from_zero, from-lower-left}
use Rattle.job.specs.Jobs.{Job, frame_of}
use Rattle.filling.specs.declared.Tables.{Tables}
use Rattle.filling.specs.declared.State.{State}
use Rattle.filling.specs.declared.Refusal.{Refusal}
use Rattle.filling.specs.declared.Refusal.TheVariants as Why
use Rattle.filling.specs.Refusals.{refuse_if}
use Rattle.filling.specs.Shapes.{Planner, set_bounds, set_strips, planner_of, Standing, standing_strips}
use Rattle.filling.specs.Search.{Track}
use Rattle.filling.specs.Rooms.{Rooms, Lent, position_capacity, laid, zeros, zero_rooms, only_positions}
use Rattle.filling.specs.Order.{rearranged}
use Rattle.filling.specs.State.{slot_rows, orientation_counts, part_at, apart_room, inset_room, shape_at, planner_at, order_of, standing_of, track_at, tracks_of}
use Rattle.filling.specs.Consistent.{every, taken_fits, strip_counts_fit, part_fits, parts_fit, strips_fit, track_table_fits, planner_fits, layout_fits, gaps_fit}
use Rattle.filling.specs.Consistent.{orientation_fits, position_fits, same_doubles, copies_fit, entries_fit, placed_strips_of, firsts_fit, consistent}
use Rattle.filling.specs.Start.{prepare_verdict, start_verdict, no_start, good_start, start_job, first_state, first_rooms}
use Rattle.filling.specs.NextCopy.{no_step, place_copy, place_next, core_step, step_job}
use Rattle.filling.specs.Withdraw.{state_without, no_withdrawal, standing_here, withdrawn, withdraw_job}
use Rattle.filling.specs.Accounts.{Position, positions_of_kind, framed_positions, place_on_sheet, on_sheet, positions, flat_positions, looks_by_slot, look_counts_of}
use Rattle.filling.specs.Accounts.{offcut_of, plan_of, no_plan}
use Rattle.filling.specs.Fill.{Filling, filled, stopped, fill_from, fill_order, Planned, not_planned, planned_with, planned_by, fill_job}
use Rattle.nesting.specs.CopyOrder.{copy_order}
use Rattle.nesting.specs.Rounds.{Kept, Swaps, kept, ended, swapped, judged, one_round, rounds, first_kept, swap_search}
use Rattle.nesting.specs.Nest.{nest_verdict, nested, nest_job}
use Rattle.claims.specs.FramedJobs.{framed_kind, lower_left_header, framed_job, room_on_sheet, planned_on_sheet}
use Rattle.claims.proofs.FramedKinds.{kinds-areas, kinds-counts, kinds-shapes, kinds_full, kinds-order, kinds-swappable}

-- ---- a position room back on the sheet

module _ (f : Frame) where
  position-framed : (p : Position) → on_sheet f p ≡ on_sheet f (on_sheet lower_left p)
  unfolding on_sheet place_on_sheet
  position-framed p =
      let e = sym (from-lower-left f (record { x = p.x; y = p.y })) in
      λ t. record { kind = p.kind; copy = p.copy; orientation = p.orientation; x = (e t).x; y = (e t).y; gap = p.gap }

  on_sheet_twice : (ps : List Position) → map (on_sheet f) ps ≡ map (on_sheet f) (map (on_sheet lower_left) ps)
  on_sheet_twice ps = ap (λ (g : Position → Position). map g ps) (λ t p. position-framed p t) ∙ sym (map-map (on_sheet f) (on_sheet lower_left) ps)

  flat-length : (ps : List Position) → length (flat_positions (map (on_sheet f) ps)) ≡ length (flat_positions ps)
  unfolding flat_positions
  flat-length [] = refl
  flat-length (p ∷ ps) = ap (λ (n : ℕ). suc (suc (suc (suc (suc (suc n)))))) (flat-length ps)

  room-flat : (ps : List Position) (room : List Float)
      → flat_positions (map (on_sheet f) ps) ++ room_on_sheet f room ≡ room_on_sheet f (flat_positions ps ++ room)
  unfolding room_on_sheet flat_positions on_sheet place_on_sheet
  room-flat [] room = refl
  room-flat (p ∷ ps) room =
      let q = place_on_sheet f p in
      ap (λ (r : List Float). from_int p.kind ∷ from_int p.copy ∷ from_int p.orientation ∷ q.x ∷ q.y ∷ p.gap ∷ r) (room-flat ps room)

  room-zeros : (n : ℕ) → replicate n pos_zero ≡ room_on_sheet f (replicate n pos_zero)
  unfolding room_on_sheet
  room-zeros zero = refl
  room-zeros (suc zero) = refl
  room-zeros (suc (suc zero)) = refl
  room-zeros (suc (suc (suc zero))) = refl
  room-zeros (suc (suc (suc (suc zero)))) = refl
  room-zeros (suc (suc (suc (suc (suc zero))))) = refl
  room-zeros (suc (suc (suc (suc (suc (suc n)))))) =
      let e = sym (from_zero f) in λ t. pos_zero ∷ pos_zero ∷ pos_zero ∷ (e t).x ∷ (e t).y ∷ pos_zero ∷ room-zeros n t

  -- the zeros after the positions
  room-rest : (k n : ℕ) → drop k (replicate n pos_zero) ≡ room_on_sheet f (drop k (replicate n pos_zero))
  unfolding room_on_sheet
  room-rest zero n = room-zeros n
  room-rest (suc k) zero = refl
  room-rest (suc k) (suc n) = room-rest k n

  room-laid : (ps : List Position) (n : ℕ)
      → laid (flat_positions (map (on_sheet f) ps)) (replicate n pos_zero)
      ≡ room_on_sheet f (laid (flat_positions (map (on_sheet lower_left) ps)) (replicate n pos_zero))
  unfolding laid
  room-laid ps n =
      let qs = map (on_sheet lower_left) ps in
      let zs = replicate n pos_zero in
      let on = flat_positions (map (on_sheet f) qs) in
      ap (λ (rs : List Position). flat_positions rs ++ drop (length (flat_positions rs)) zs) (on_sheet_twice ps)
      ∙ ap (λ (k : ℕ). on ++ drop k zs) (flat-length qs)
      ∙ ap (λ (r : List Float). on ++ r) (room-rest (length (flat_positions qs)) n)
      ∙ room-flat qs (drop (length (flat_positions qs)) zs)

  refused-framed : (r : Refusal) (l : Lent) → not_planned r l ≡ planned_on_sheet f (not_planned r l)
  unfolding not_planned only_positions planned_on_sheet laid zeros
  refused-framed r l =
      let e = room-zeros (length l.positions) in
      λ t. record {
        verdict = Err r;
        plan = no_plan;
        lent = record { rooms = zero_rooms l.rooms; intervals = zeros pos_zero l.intervals; positions = e t };
      }

-- ---- a job and its framed job

module _ (j : Job) where
  pub planner_framed : planner_of j ≡ planner_of (framed_job j)
  unfolding planner_of framed_job lower_left_header
  planner_framed =
      let sheet = sym (framed-lower-left (framed (frame_of j.header) j.sheet)) in
      let shapes = kinds-shapes (frame_of j.header) j.kinds in
      let areas = kinds-areas (frame_of j.header) j.kinds in
      λ t. record {
        sheet = set_strips true (sheet t);
        bounds = set_bounds (sheet t);
        resolution = j.header.resolution;
        shapes = shapes t;
        areas = areas t;
      }

  counts-framed : orientation_counts j ≡ orientation_counts (framed_job j)
  unfolding orientation_counts framed_job
  counts-framed = kinds-counts (frame_of j.header) j.kinds

  planner_at_framed : (s : Tables) (w : Rooms) → planner_at j s w ≡ planner_at (framed_job j) s w
  unfolding planner_at framed_job
  planner_at_framed s w =
      let p = planner_at j s w in
      let areas = kinds-areas (frame_of j.header) j.kinds in
      λ t. record {
        sheet = p.sheet;
        bounds = p.bounds;
        resolution = p.resolution;
        shapes = slot_rows (shape_at s w.shapes) 0 (counts-framed t);
        areas = areas t;
      }

  tracks_framed : (s : State) → tracks_of j s ≡ tracks_of (framed_job j) s
  unfolding tracks_of
  tracks_framed s = ap (slot_rows (track_at s.next_column s.look_counts) 0) counts-framed

  rearranged-framed : (order : List ℕ) → rearranged j order ≡ rearranged (framed_job j) order
  unfolding rearranged framed_job
  rearranged-framed order = ap (λ (b : Bool). eqb (length order) j.copies && b) (kinds_full (frame_of j.header) j.kinds 0 order)

  -- ---- the start

  verdict-framed : (order : List ℕ) (l : Lent) → start_verdict j order l ≡ start_verdict (framed_job j) order l
  unfolding start_verdict framed_job
  verdict-framed order l = λ t.
      refuse_if (ltb (position_capacity l.positions) j.copies) Why.PositionRoom
      (refuse_if (not (rearranged-framed order t)) Why.WrongOrder
      (prepare_verdict (planner_framed t) l.rooms))

  pub start-framed : (order : List ℕ) (l : Lent) → start_job j order l ≡ start_job (framed_job j) order l
  unfolding start_job
  start-framed order l = λ t. elim (verdict-framed order l t) [ Ok tt ↦ good_start (planner_framed t) order l | Err r ↦ no_start r l ]

  -- ---- a single step

  parts-framed : (s : Tables) (w : Rooms) → parts_fit j s w ≡ parts_fit (framed_job j) s w
  unfolding parts_fit
  parts-framed s w =
      let fits = part_fits (capacity (apart_room s w.shapes)) (capacity (inset_room s w.shapes)) in
      ap (λ (ns : List ℕ). every (every fits) (slot_rows (part_at s.parts) 0 ns)) counts-framed

  consistent-framed : (s : State) (w : Rooms) → consistent j s w ≡ consistent (framed_job j) s w
  unfolding consistent taken_fits order_of copies_fit framed_job
  consistent-framed s w = λ t.
      tested (planner_at_framed s.tables w t) (parts-framed s.tables w t) (rearranged-framed (order_of j s) t) (tracks_framed s t) (counts-framed t)
    where
      tested : Planner → Bool → Bool → List (List Track) → List ℕ → Bool
      tested p parts order tracks counts =
          taken_fits j s
          && (strip_counts_fit s.tables s.placed_strips w
          && (parts
          && (order
          && (planner_fits p
          && (strips_fit (placed_strips_of s w)
          && (layout_fits s.layout.right s.layout.unplaced_area
          && (gaps_fit s
          && (track_table_fits p s.taken p.shapes tracks
          && ((every (λ c. orientation_fits counts c && position_fits c) (standing_of s) && same_doubles (placed_strips_of s w) (standing_strips p (standing_of s)))
          && (entries_fit p w (placed_strips_of s w)
          && firsts_fit s w))))))))))

  next-framed : (s : State) (w : Rooms) (iv : List Float) (ks : List ℕ) → place_next j s w iv ks ≡ place_next (framed_job j) s w iv ks
  unfolding place_next
  next-framed s w iv [] = refl
  next-framed s w iv (k ∷ ks) = λ t. place_copy (planner_at_framed s.tables w t) (placed_strips_of s w) (get_or (tracks_framed s t) k []) k s w iv

  core_framed : (s : State) (w : Rooms) (iv : List Float) → core_step j s w iv ≡ core_step (framed_job j) s w iv
  unfolding core_step order_of framed_job
  core_framed s w iv = next-framed s w iv (drop s.taken (order_of j s))

  pub step-framed : (s : State) (w : Rooms) (iv : List Float) → step_job j s w iv ≡ step_job (framed_job j) s w iv
  unfolding step_job
  step-framed s w iv = λ t. elim (consistent-framed s w t) [ false ↦ no_step Why.Inconsistent s w iv | true ↦ core_framed s w iv t ]

  withdrawn-framed : (s : State) (w : Rooms) (n : ℕ) (p : Planner) (cs : List Standing) → withdrawn j p s w n cs ≡ withdrawn (framed_job j) p s w n cs
  unfolding withdrawn state_without framed_job
  withdrawn-framed s w n p [] = refl
  withdrawn-framed s w n p (c ∷ cs) = refl

  goes_framed : (s : State) (w : Rooms) (n : ℕ) (cs : List Standing)
      → withdrawn j (planner_at j s.tables w) s w n cs ≡ withdrawn (framed_job j) (planner_at (framed_job j) s.tables w) s w n cs
  goes_framed s w n cs =
      withdrawn-framed s w n (planner_at j s.tables w) cs ∙ ap (λ (p : Planner). withdrawn (framed_job j) p s w n cs) (planner_at_framed s.tables w)

  pub withdraw-framed : (s : State) (w : Rooms) (n : ℕ) → withdraw_job j s w n ≡ withdraw_job (framed_job j) s w n
  unfolding withdraw_job
  withdraw-framed s w n = λ t.
      elim (consistent-framed s w t) [ false ↦ no_withdrawal Why.Inconsistent s w | true ↦ goes_framed s w n (standing_here s n) t ]

  -- ---- a filling

  from-framed : (iv : List Float) (n : ℕ) (s : State) (w : Rooms) → fill_from j iv n s w ≡ fill_from (framed_job j) iv n s w
  unfolding fill_from
  from-framed iv zero s w = refl
  from-framed iv (suc n) s w = λ t.
      let r = core_framed s w iv t in elim r.verdict [ Ok tt ↦ from-framed iv n r.state r.rooms t | Err k ↦ stopped k ]

  order-framed : (l : Lent) (order : List ℕ) → fill_order j l order ≡ fill_order (framed_job j) l order
  unfolding fill_order
  order-framed l order = λ t.
      let p = planner_framed t in from-framed l.intervals (length order) (first_state p order) (first_rooms p l.rooms) t

  looks-framed : (s : State) → look_counts_of j s ≡ look_counts_of (framed_job j) s
  unfolding look_counts_of
  looks-framed s = ap (map (map (λ (t : Track). t.look_count))) (tracks_framed s)

  plan-framed : (s : State) (n : ℕ) → plan_of j s n ≡ plan_of (framed_job j) s n
  unfolding plan_of
  plan-framed s n = λ t.
      let p = plan_of j s n in
      record {
        placed = p.placed;
        unplaced = p.unplaced;
        improvements = n;
        placed_of = p.placed_of;
        unplaced_of = p.unplaced_of;
        look_counts = looks_by_slot (looks-framed s t);
        right = p.right;
        unplaced_area = p.unplaced_area;
        offcut = offcut_of (planner_framed t) s;
      }

  positions-framed : (cs : List Standing) → framed_positions j cs ≡ framed_positions (framed_job j) cs
  unfolding framed_positions framed_job
  positions-framed cs =
      ap (λ (n : ℕ). flat_map (λ k. positions_of_kind k 0 cs) (up_from n 0)) (sym (length-map j.kinds (framed_kind (frame_of j.header))))

  with-framed : (l : Lent) (s : State) (n : ℕ) → planned_with j l s n ≡ planned_on_sheet (frame_of j.header) (planned_with (framed_job j) l s n)
  unfolding planned_with only_positions planned_on_sheet positions framed_job lower_left_header zeros
  with-framed l s n = λ t.
      record {
        verdict = Ok tt;
        plan = plan-framed s n t;
        lent = record { rooms = zero_rooms l.rooms; intervals = zeros pos_zero l.intervals; positions = room t };
      }
    where
      room : laid (flat_positions (positions j (standing_of s))) (zeros pos_zero l.positions)
          ≡ room_on_sheet (frame_of j.header) (laid (flat_positions (positions (framed_job j) (standing_of s))) (zeros pos_zero l.positions))
      room =
          room-laid (frame_of j.header) (framed_positions j (standing_of s)) (length l.positions)
          ∙ ap
          (λ (ps : List Position). room_on_sheet (frame_of j.header) (laid (flat_positions (map (on_sheet lower_left) ps)) (zeros pos_zero l.positions)))
          (positions-framed (standing_of s))

  by_framed : (l : Lent) (x : Filling) → planned_by j l x ≡ planned_on_sheet (frame_of j.header) (planned_by (framed_job j) l x)
  unfolding planned_by
  by_framed l (filled s) = with-framed l s 0
  by_framed l (stopped r) = refused-framed (frame_of j.header) r l

  -- what a plan is where its rooms suffice, given what its search came to
  either_framed : (l : Lent) (p q : Planned) → p ≡ planned_on_sheet (frame_of j.header) q → (v : Result (Unit {0}) Refusal)
      → ◌≡◌ {A = Planned} (elim v [ Ok tt ↦ p | Err r ↦ not_planned r l ])
      (planned_on_sheet (frame_of j.header) (elim v [ Ok tt ↦ q | Err r ↦ not_planned r l ]))
  either_framed l p q e (Ok tt) = e
  either_framed l p q e (Err r) = refused-framed (frame_of j.header) r l

  pub fill-framed : (order : List ℕ) (l : Lent) → fill_job j order l ≡ planned_on_sheet (frame_of j.header) (fill_job (framed_job j) order l)
  unfolding fill_job
  fill-framed order l =
      let x = fill_order j l order in
      either_framed l (planned_by j l x) (planned_by (framed_job j) l x) (by_framed l x) (start_verdict j order l)
      ∙ (λ t. planned_on_sheet (frame_of j.header)
      (elim (verdict-framed order l t) [ Ok tt ↦ planned_by (framed_job j) l (order-framed l order t) | Err r ↦ not_planned r l ]))

  -- ---- a whole plan

  copies-framed : copy_order j ≡ copy_order (framed_job j)
  unfolding copy_order framed_job
  copies-framed = kinds-order (frame_of j.header) j.kinds

  round-framed : (l : Lent) (q : Kept) → one_round j l q ≡ one_round (framed_job j) l q
  unfolding one_round framed_job
  round-framed l q = λ t.
      let first = next_state q.random in
      let second = next_state first in
      let a = mixed first % length q.order in
      let b = mixed second % length q.order in
      elim (kinds-swappable (frame_of j.header) j.kinds (get_or q.order a 0) (get_or q.order b 0) t) [
        | true ↦ let order = swapped a b q.order in judged second order q (order-framed l order t)
        | false ↦ kept (record { random = second; order = q.order; state = q.state; improvements = q.improvements })
      ]

  rounds-framed : (l : Lent) (n : ℕ) (q : Swaps) → rounds j l n q ≡ rounds (framed_job j) l n q
  unfolding rounds
  rounds-framed l zero q = refl
  rounds-framed l (suc n) (ended r) = refl
  rounds-framed l (suc n) (kept q) = λ t. rounds-framed l n (round-framed l q t) t

  first-framed : (order : List ℕ) (x : Filling) → first_kept j order x ≡ first_kept (framed_job j) order x
  unfolding first_kept framed_job lower_left_header
  first-framed order (stopped r) = refl
  first-framed order (filled s) = refl

  search-framed : (l : Lent) → swap_search j l ≡ swap_search (framed_job j) l
  unfolding swap_search framed_job lower_left_header
  search-framed l = λ t.
      let order = copies-framed t in
      let q = first-framed order (order-framed l order t) t in
      elim (leb 2 (length order)) [ true ↦ rounds-framed l j.header.rounds q t | false ↦ q ]

  nest_verdict-framed : (l : Lent) → nest_verdict j l ≡ nest_verdict (framed_job j) l
  unfolding nest_verdict framed_job
  nest_verdict-framed l = λ t.
      refuse_if (ltb (position_capacity l.positions) j.copies) Why.PositionRoom (prepare_verdict (planner_framed t) l.rooms)

  nested-framed : (l : Lent) (x : Swaps) → nested j l x ≡ planned_on_sheet (frame_of j.header) (nested (framed_job j) l x)
  unfolding nested
  nested-framed l (ended r) = refused-framed (frame_of j.header) r l
  nested-framed l (kept q) = with-framed l q.state q.improvements

  pub nest_framed : (l : Lent) → nest_job j l ≡ planned_on_sheet (frame_of j.header) (nest_job (framed_job j) l)
  unfolding nest_job
  nest_framed l =
      let x = swap_search j l in
      either_framed l (nested j l x) (nested (framed_job j) l x) (nested-framed l x) (nest_verdict j l)
      ∙ (λ t. planned_on_sheet (frame_of j.header)
      (elim (nest_verdict-framed l t) [ Ok tt ↦ nested (framed_job j) l (search-framed l t) | Err r ↦ not_planned r l ]))
