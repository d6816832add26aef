-- No number is left that is not finite, or minus zero: by a start, by every list of calls after it, by a filling. Assumes nothing.
use Rattle.std.specs.Prelude.{Result, Ok, Err}
use mathlib.Core.Path.{◌≡◌, refl, sym, ap, subst}
use mathlib.Core.Bool.{Bool, true, false}
use mathlib.Core.List.{List, [], ◌∷◌, map, flat_map}
use Prim.Native.Nat.{ℕ, zero, suc, ◌+◌, ◌*◌, ◌≤◌, ◌<◌}
use native.Mathlib.Nat.{le_trans}
use native.Mathlib.Omega.{arith}
use lib.ListN.{length, get_or, replicate}
use lib.Dec.{lit≤, eqb}
use lib.Ieee.{Float, nan, binary64, le}
use Rattle.numbers.specs.Numbers.{◌⊖◌, pos_zero, from_int}
use Rattle.numbers.proofs.Ranges.{int_num}
use Rattle.numbers.proofs.Doubles.{Number, Small, finite}
use Rattle.trapezoid.specs.Strip.{strip_at, capacity}
use Rattle.slabs.proofs.Merging.{All, all_append}
use Rattle.strips.specs.declared.Rect.{Rect}
use Rattle.index.specs.Buckets.{up_from}
use Rattle.frames.specs.declared.Frame.{Frame}
use Rattle.frames.proofs.Turned.{from-number}
use Rattle.job.specs.Jobs.{Job, frame_of, Answer, accepted, refused, read_job}
use Rattle.job.proofs.Accepted.{job_good}
use Rattle.filling.specs.declared.State.{State}
use Rattle.filling.specs.declared.Plan.{Plan}
use Rattle.filling.specs.declared.Refusal.{Refusal}
use Rattle.filling.specs.declared.Refusal.TheVariants as Why
use Rattle.filling.specs.Shapes.{planner_of, Standing, standing_strips}
use Rattle.filling.specs.Rooms.{Rooms, Lent}
use Rattle.filling.specs.State.{planner_at, stands_at, standing_to, standing_of}
use Rattle.filling.specs.Start.{first_state, first_rooms, start_verdict, no_start, good_start, start_job, start_given, start_of}
use Rattle.filling.specs.NextCopy.{next_copy_of}
use Rattle.filling.specs.Accounts.{Position, positions_of_kind, framed_positions, place_on_sheet, on_sheet, positions}
use Rattle.filling.specs.Accounts.{flat_positions, reach_of, not_below_zero, offcut_of, plan_of, no_plan}
use Rattle.filling.specs.Fill.{Filling, filled, stopped, fill_order, not_planned, planned_with, planned_by, fill_job, fill_given, fill_of}
use Rattle.filling.specs.Calls.{Call, request_of, after_calls, refusals}
use Rattle.filling.specs.Plain.{Plain, take_next, plain_start, plain_calls}
use Rattle.filling.proofs.Sizes.{sized}
use Rattle.filling.proofs.Begin.{start-good, start-refused, start-accepted, begun}
use Rattle.filling.proofs.Runs.{calls_keep, fill_keeps}
use Rattle.filling.proofs.Refused.{next-copy_leaves}
use Rattle.filling.proofs.WithinBounds.{framed}
use Rattle.filling.proofs.promises.Few.{stands-few}
use Rattle.filling.proofs.promises.Numbers.{Numbers, StateNumbers, RoomNumbers, LentNumbers, zero_is, all_zeros, zero-state, only_positions_lem}
use Rattle.filling.proofs.promises.Stays.{Held, standing_all, held-took, held_start, first-numbers, first-rooms}
use Rattle.filling.proofs.promises.Back.{HeldSo, so_took, so_back}
use Rattle.filling.proofs.promises.Offcut.{Reaches, reaches, left-number, left-from, left_upto}

-- ---- a start

start_left : (bytes order : List ℕ) (l : Lent) (j : Job) → read_job bytes ≡ accepted j → (v : Result (Unit {0}) Refusal) → start_verdict j order l ≡ v → StateNumbers
    (start_job j order l).state × LentNumbers (start_job j order l).lent
unfolding good_start no_start
start_left bytes order l j e (Ok tt) d =
    let g = (job_good bytes j e).good in
    rw (start-good j order l d) (
      first-numbers j g order,
      record {
        rooms = first-rooms j g l.rooms;
        intervals = all_zeros l.intervals;
        positions = all_zeros l.positions;
      },
    )
start_left bytes order l j e (Err k) d = rw (start-refused j order l k d) (zero-state, only_positions_lem l [] tt)

-- whatever the bytes, the order and the rooms
pub start-numbers : (bytes order : List ℕ) (l : Lent) → StateNumbers (start_of bytes order l).state × LentNumbers (start_of bytes order l).lent
unfolding start_of
start-numbers bytes order l = go (read_job bytes) refl
  where
    go : (a : Answer) → read_job bytes ≡ a → StateNumbers (start_given a order l).state × LentNumbers (start_given a order l).lent
    go (refused k) d = unfold start_given in (unfold no_start in (zero-state, only_positions_lem l [] tt))
    go (accepted j) d = unfold start_given in start_left bytes order l j d (start_verdict j order l) refl

-- ---- calls

-- after an accepted start, whatever the calls
pub calls_held : (bytes order : List ℕ) (l : Lent) (j : Job) (e : read_job bytes ≡ accepted j) → (start_of bytes order l).verdict ≡ Ok tt → (calls : List Call)
    → let r = after_calls bytes calls (start_of bytes order l).state (start_of bytes order l).lent.rooms in HeldSo bytes j e r.state r.rooms
    (plain_calls (planner_of j) (map request_of calls) (refusals r.verdicts) (plain_start (planner_of j) order))
calls_held bytes order l j e v calls =
    let a = start-accepted bytes order l j e v in
    let p = planner_of j in
    let first : HeldSo bytes j e (first_state p order) (first_rooms p l.rooms) (plain_start p order) =
    record { order = order; held = held_start bytes j e order l a.verdict_is; rearranges = (begun j order l a.verdict_is).rearranges } in
    rw (a.state_is, a.rooms_is)
    (calls_keep j (HeldSo bytes j e) (λ s w q h. h.held.own.kept.linked) (so_took bytes j e) (so_back bytes j e) bytes e calls (first_state p order)
    (first_rooms p l.rooms) (plain_start p order) first)

pub calls_numbers : (bytes order : List ℕ) (l : Lent) (j : Job) → read_job bytes ≡ accepted j → (start_of bytes order l).verdict ≡ Ok tt → (calls : List Call)
    → let r = after_calls bytes calls (start_of bytes order l).state (start_of bytes order l).lent.rooms in StateNumbers r.state × RoomNumbers r.rooms
calls_numbers bytes order l j e v calls = let h = (calls_held bytes order l j e v calls).held.sound in (h.numbers, h.rooms)

-- a single step's interval room, whatever the step
pub step-intervals : (bytes : List ℕ) (s : State) (w : Rooms) (iv : List Float) → Numbers (next_copy_of bytes s w iv).intervals
step-intervals bytes s w iv = subst Numbers (sym (next-copy_leaves bytes s w iv).0) (all_zeros iv)

-- ---- positions

-- a standing copy's place
record StandNumbers (c : Standing) : Type 0 where
  x : Number c.x
  y : Number c.y
  gap : Number c.gap
  orientation : c.orientation ≤ 16

number_at : (l : List Float) (i : ℕ) (d : Float) → Numbers l → i < length l → Number (get_or l i d)
number_at [] i d h b = absurd (omega arith)
number_at (a ∷ l) zero d h b = h.0
number_at (a ∷ l) (suc i) d h b = number_at l i d h.1 (omega arith)

module _ (s : State) (h : StateNumbers s) (lx : length s.layout.x ≡ 4096) (ly : length s.layout.y ≡ 4096) (lg : length s.layout.gap ≡ 4096)
    (us : (i : ℕ) → get_or s.layout.orientation i 0 ≤ 16) where
  stands-numbers : (n o : ℕ) → n < 4096 → o ≤ 16 → All StandNumbers (stands_at s n o)
  unfolding stands_at
  stands-numbers n zero b u = tt
  stands-numbers n (suc o) b u = (
    record {
      x = number_at s.layout.x n nan h.xs (omega arith);
      y = number_at s.layout.y n nan h.ys (omega arith);
      gap = number_at s.layout.gap n nan h.gaps (omega arith);
      orientation = omega arith;
    },
    tt,
  )

  standing-numbers : (n : ℕ) → n ≤ 4096 → All StandNumbers (standing_to s n)
  unfolding standing_to
  standing-numbers zero b = tt
  standing-numbers (suc n) b = all_append StandNumbers (standing_to s n) (stands_at s n (get_or s.layout.orientation n 0)) (standing-numbers n (omega arith))
      (stands-numbers n (get_or s.layout.orientation n 0) (omega arith) (us n))

whole-number : (n : ℕ) → n ≤ 5000 → Number (from_int n)
whole-number n b = (int_num binary64 n (le_trans b (lit≤ tt))).0

-- a position: whole numbers and a place
record PositionNumbers (p : Position) : Type 0 where
  kind : p.kind ≤ 5000
  copy : p.copy ≤ 5000
  orientation : p.orientation ≤ 5000
  x : Number p.x
  y : Number p.y
  gap : Number p.gap

of_kind : (k n : ℕ) (cs : List Standing) → k ≤ 64 → n + length cs ≤ 5000 → All StandNumbers cs → All PositionNumbers (positions_of_kind k n cs)
unfolding positions_of_kind
of_kind k n [] b l h = tt
of_kind k n (c ∷ cs) b l h = go (eqb c.copy.kind k) (of_kind k (suc n) cs b (omega arith) h.1) (of_kind k n cs b (omega arith) h.1)
  where
    go : (t : Bool) → All PositionNumbers (positions_of_kind k (suc n) cs) → All PositionNumbers (positions_of_kind k n cs)
        → All PositionNumbers (elim t [
          | true ↦ record { kind = k; copy = n; orientation = c.orientation; x = c.x; y = c.y; gap = c.gap } ∷ positions_of_kind k
              (suc n) cs
          | false ↦ positions_of_kind k n cs
        ])
    go true a d =
        let f = h.0 in
        (record { kind = omega arith; copy = omega arith; orientation = le_trans f.orientation (lit≤ tt); x = f.x; y = f.y; gap = f.gap }, a)
    go false a d = d

kinds-positions : (cs : List Standing) → length cs ≤ 5000 → All StandNumbers cs → (n c : ℕ) → c + n ≤ 64 → All PositionNumbers
    (flat_map (λ k. positions_of_kind k 0 cs) (up_from n c))
unfolding flat_map up_from
kinds-positions cs l h zero c b = tt
kinds-positions cs l h (suc n) c b = all_append PositionNumbers (positions_of_kind c 0 cs) (flat_map (λ k. positions_of_kind k 0 cs) (up_from n (suc c)))
    (of_kind c 0 cs (omega arith) (omega arith) h) (kinds-positions cs l h n (suc c) (omega arith))

sheet-numbers : (f : Frame) (ps : List Position) → All PositionNumbers ps → All PositionNumbers (map (on_sheet f) ps)
unfolding on_sheet place_on_sheet
sheet-numbers f [] h = tt
sheet-numbers f (p ∷ ps) h =
    let a = h.0 in
    let q = from-number f (record { x = p.x; y = p.y }) (finite a.x) (finite a.y) in
    (record { kind = a.kind; copy = a.copy; orientation = a.orientation; x = q.0; y = q.1; gap = a.gap }, sheet-numbers f ps h.1)

positions-numbers : (j : Job) (cs : List Standing) → length j.kinds ≤ 64 → length cs ≤ 5000 → All StandNumbers cs → All PositionNumbers (positions j cs)
unfolding positions framed_positions
positions-numbers j cs b l h =
    sheet-numbers (frame_of j.header) (framed_positions j cs) (kinds-positions cs l h (length j.kinds) 0 (omega arith))

flat-numbers : (ps : List Position) → All PositionNumbers ps → Numbers (flat_positions ps)
unfolding flat_positions
flat-numbers [] h = tt
flat-numbers (p ∷ ps) h =
    let f = h.0 in (
      whole-number p.kind f.kind,
      (
        whole-number p.copy f.copy,
        (
          whole-number p.orientation f.orientation,
          (f.x, (f.y, (f.gap, flat-numbers ps h.1))),
        ),
      ),
    )

-- ---- a filling

-- what a filling answers
pub record PlanNumbers (p : Plan) : Type 0 where
  pub right : Number p.right
  pub unplaced_area : Number p.unplaced_area
  pub offcut : Number p.offcut
  pub offcut_not_below : le pos_zero p.offcut ≡ true

no_plan_lem : PlanNumbers no_plan
unfolding no_plan le
no_plan_lem = record { right = zero_is; unplaced_area = zero_is; offcut = zero_is; offcut_not_below = refl }

pub not_planned_lem : (r : Refusal) (l : Lent) → PlanNumbers (not_planned r l).plan × LentNumbers (not_planned r l).lent
unfolding not_planned
not_planned_lem r l = (no_plan_lem, only_positions_lem l [] tt)

-- a job's standing strips in a state
abbrev pub strips : Job → State → List Float
strips j s = standing_strips (planner_of j) (standing_of s)

-- the offcut is a number, never minus zero and never below zero; it is at most what right leaves of the sheet; the x1 of every standing strip is at
-- most what is taken from the sheet's right edge
pub record OffcutBounds (j : Job) (s : State) : Type 0 where
  pub number : Number (offcut_of (planner_of j) s)
  pub not_below : le pos_zero (offcut_of (planner_of j) s) ≡ true
  pub not_above : le (offcut_of (planner_of j) s) (not_below_zero (s.tables.sheet_bounds.right ⊖ s.layout.right)) ≡ true
  pub covers : (i : ℕ) → i < capacity (strips j s) → le (strip_at (strips j s) i).x1 (reach_of s.layout.right (strips j s)) ≡ true

module _ (bytes : List ℕ) (j : Job) (e : read_job bytes ≡ accepted j) (order : List ℕ) (s : State) (w : Rooms) (q : Plain) (h : Held bytes j e order s w q) where
  ends-number : (i : ℕ) → i < capacity (strips j s) → Number (strip_at (strips j s) i).x1
  unfolding strip_at capacity
  ends-number i b = number_at (strips j s) (6 * i + 1) nan (standing_all bytes j e order s w q h) (omega arith)

  reached : Reaches s.layout.right (strips j s)
  reached = reaches s.layout.right (strips j s) h.sound.right.num ends-number

  edge_is : s.tables.sheet_bounds ≡ (planner_of j).bounds
  unfolding planner_at
  edge_is = ap (λ p. p.bounds) h.own.kept.linked.plan

  edge : Small 100000 s.tables.sheet_bounds.right
  edge = subst (λ (b : Rect). Small 100000 b.right) (sym edge_is) (framed j (job_good bytes j e).good).right

  -- the offcut (document 02, W2)
  pub offcut-bounds : OffcutBounds j s
  unfolding offcut_of
  offcut-bounds =
      let R = h.sound.right in
      record {
        number = left-number edge R reached.num reached.first;
        not_below = left-from edge R reached.num reached.first;
        not_above = left_upto edge R reached.num reached.first;
        covers = reached.covers;
      }

  pub planned_numbers : (l : Lent) (improvements : ℕ) → PlanNumbers (planned_with j l s improvements).plan × LentNumbers (planned_with j l s improvements).lent
  unfolding planned_with plan_of
  planned_numbers l improvements =
      let N = h.sound.numbers in
      let z = sized bytes j e in
      let t : s.taken ≤ 4096 = (let a = h.own.few in let b = z.few in omega arith) in
      let c : length (standing_of s) ≤ 5000 = unfold standing_of in (let a = stands-few s s.taken in omega arith) in
      let d : All StandNumbers (standing_of s) = unfold standing_of in standing-numbers s N h.own.kept.linked.xs h.own.kept.linked.ys
      h.own.kept.linked.gaps h.sound.orientations s.taken t in (
        record { right = N.right; unplaced_area = N.unplaced_area; offcut = offcut-bounds.number; offcut_not_below = offcut-bounds.not_below },
        only_positions_lem l (flat_positions (positions j (standing_of s))) (flat-numbers (positions j (standing_of s))
            (positions-numbers j (standing_of s) z.kinds c d)),
      )

-- the state at the end of a filling, with its rooms
pub fill-held : (bytes order : List ℕ) (l : Lent) (j : Job) (e : read_job bytes ≡ accepted j) → start_verdict j order l ≡ Ok tt
    → (s : State) → fill_order j l order ≡ filled s → (w : Rooms) × Held bytes j e order s w
    (plain_calls (planner_of j) (replicate (length order) take_next) (replicate (length order) false) (plain_start (planner_of j) order))
unfolding fill_order
fill-held bytes order l j e v s d =
    fill_keeps j (Held bytes j e order) (λ s w q h. h.own.kept.linked) (held-took bytes j e order) l.intervals (length order)
    (first_state (planner_of j) order) s (first_rooms (planner_of j) l.rooms) (plain_start (planner_of j) order) (held_start bytes j e order l v) d

-- the offcut of a filling that is not refused
pub fill-offcut : (bytes order : List ℕ) (l : Lent) (j : Job) → read_job bytes ≡ accepted j → start_verdict j order l ≡ Ok tt
    → (s : State) → fill_order j l order ≡ filled s → OffcutBounds j s
fill-offcut bytes order l j e v s d = let k = fill-held bytes order l j e v s d in offcut-bounds bytes j e order s k.0 _ k.1

filling_left : (bytes order : List ℕ) (l : Lent) (j : Job) → read_job bytes ≡ accepted j → start_verdict j order l ≡ Ok tt → (f : Filling) → fill_order j l
    order ≡ f → PlanNumbers (planned_by j l f).plan × LentNumbers (planned_by j l f).lent
unfolding planned_by
filling_left bytes order l j e v (stopped r) d = not_planned_lem r l
filling_left bytes order l j e v (filled s) d = let k = fill-held bytes order l j e v s d in planned_numbers bytes j e order s k.0 _ k.1 l 0

-- whatever the bytes, the order and the rooms
pub fill-numbers : (bytes order : List ℕ) (l : Lent) → PlanNumbers (fill_of bytes order l).plan × LentNumbers (fill_of bytes order l).lent
unfolding fill_of
fill-numbers bytes order l = go (read_job bytes) refl
  where
    made : (j : Job) → read_job bytes ≡ accepted j → (v : Result (Unit {0}) Refusal) → start_verdict j order l ≡ v → PlanNumbers (fill_job j order l).plan × LentNumbers
        (fill_job j order l).lent
    made j d (Ok tt) a = unfold fill_job in rw (a, fill_job) (filling_left bytes order l j d a (fill_order j l order) refl)
    made j d (Err r) a = unfold fill_job in rw (a, fill_job) (not_planned_lem r l)

    go : (a : Answer) → read_job bytes ≡ a → PlanNumbers (fill_given a order l).plan × LentNumbers (fill_given a order l).lent
    go (refused k) d = unfold fill_given in not_planned_lem (Why.Job k) l
    go (accepted j) d = unfold fill_given in made j d (start_verdict j order l) refl
