-- Document 01, "Refused because of the input" and "Refused because of the state": the lines that a call meets, in their order.
-- Definitions only. Assumes nothing.
use Rattle.std.specs.Prelude.{Result, Ok, ℕ, zero, suc, Bool, true, false, not, List, [], ◌∷◌, ◌++◌, length, get_or, drop, ltb, Float}
use Rattle.trapezoid.specs.Strip.{capacity}
use Rattle.index.specs.Buckets.{standing_capacity}
use Rattle.job.specs.Jobs.{Job, Answer, accepted, refused}
use Rattle.filling.specs.declared.State.{State}
use Rattle.filling.specs.declared.Refusal.{Refusal}
use Rattle.filling.specs.declared.Refusal.TheVariants as Why
use Rattle.filling.specs.Refusals.{refuse_if}
use Rattle.filling.specs.Shapes.{Planner, planner_of, Shape, Standing}
use Rattle.filling.specs.Search.{Found, Track, search_all}
use Rattle.filling.specs.Choice.{Choice, choices, best}
use Rattle.filling.specs.Rooms.{Rooms, Lent, interval_capacity, position_capacity}
use Rattle.filling.specs.Order.{rearranged}
use Rattle.filling.specs.State.{planner_at, order_of, tracks_of}
use Rattle.filling.specs.Consistent.{entries_for, placed_strips_of, consistent}
use Rattle.filling.specs.Start.{apart_strips_of, inset_strips, first_state, first_rooms}
use Rattle.filling.specs.NextCopy.{interval_counts, any_above, new_strips, core_step}
use Rattle.filling.specs.Withdraw.{standing_here}

-- a line of the tables: whether it holds for a call, and its refusal
pub record Line : Type 0 where
  pub holds : Bool
  pub refusal : Refusal

-- "A call is refused exactly where a line of the tables holds for it, with the number first met"
unfoldable pub first_met : List Line → Result (Unit {0}) Refusal
first_met [] = Ok tt
first_met (l ∷ ls) = refuse_if l.holds l.refusal (first_met ls)

-- 1 to 8: a job that is refused has its own line alone, an accepted one those of the call
unfoldable pub given_lines : Answer → (Job → List Line) → List Line
given_lines (refused k) lines = record { holds = true; refusal = Why.Job k } ∷ []
given_lines (accepted j) lines = lines j

-- ---- a start

-- 30: "the position room holds fewer copies than the job has"
unfoldable pub position_line : Job → Lent → Line
position_line j l = record { holds = ltb (position_capacity l.positions) j.copies; refusal = Why.PositionRoom }

-- "Then come the sheet's strips (20) and entries (21), the shapes' strips by kind and orientation, apart before inset (20)"
unfoldable pub prepare_lines : Planner → Rooms → List Line
prepare_lines p w =
    record { holds = ltb (standing_capacity w.sheet w.sheet_firsts) (capacity p.sheet); refusal = Why.StripRoom }
    ∷ record { holds = ltb (length w.sheet_entries) (length (entries_for p.bounds p.sheet)); refusal = Why.EntryRoom }
    ∷ record { holds = ltb (capacity w.shapes) (capacity (apart_strips_of p ++ inset_strips p)); refusal = Why.StripRoom }
    ∷ []

-- "10 right after 30": "a given order is not a rearrangement of the job's copies"
unfoldable pub start_lines : Job → List ℕ → Lent → List Line
start_lines j order l =
    position_line j l ∷ record { holds = not (rearranged j order); refusal = Why.WrongOrder } ∷ prepare_lines (planner_of j) l.rooms

-- ---- a single step

-- for a copy of kind k, whose strips would be these: 22, and "20 is tested before 21, for a whole copy"
unfoldable pub copy_lines : Planner → Rooms → List Float → ℕ → List Float → List Shape → List Track → List Found → List Choice → List Line
copy_lines p w iv k st ss ts fs [] = record { holds = any_above (interval_capacity iv) (interval_counts p st ss ts fs); refusal = Why.IntervalRoom } ∷ []
copy_lines p w iv k st ss ts fs (a ∷ as') =
    let strips = st ++ new_strips p k (best a as') in
    record { holds = any_above (interval_capacity iv) (interval_counts p st ss ts fs); refusal = Why.IntervalRoom }
    ∷ record { holds = ltb (standing_capacity w.placed w.placed_firsts) (capacity strips); refusal = Why.StripRoom }
    ∷ record { holds = ltb (length w.placed_entries) (length (entries_for p.bounds strips)); refusal = Why.EntryRoom }
    ∷ []

-- 23 where the order is used up: "next copy asked for, order used up"
unfoldable pub next_lines : Job → State → Rooms → List Float → List ℕ → List Line
next_lines j s w iv [] = record { holds = true; refusal = Why.OrderUsedUp } ∷ []
next_lines j s w iv (k ∷ ks) =
    let p = planner_at j s.tables w in
    let st = placed_strips_of s w in
    let ss = get_or p.shapes k [] in
    let ts = get_or (tracks_of j s) k [] in
    copy_lines p w iv k st ss ts (search_all p st ss ts) (choices p 0 ss (search_all p st ss ts))

-- "31 before all else in a step"
unfoldable pub step_lines : Job → State → Rooms → List Float → List Line
step_lines j s w iv = record { holds = not (consistent j s w); refusal = Why.Inconsistent } ∷ next_lines j s w iv (drop s.taken (order_of j s))

-- ---- a withdrawal

-- 24: "a copy that is not standing"
unfoldable pub none_stands : List Standing → Bool
none_stands [] = true
none_stands (c ∷ cs) = false

-- document 02, W4: "It refuses with 31 .., then a copy that is not standing with 24"
unfoldable pub withdraw_lines : Job → State → Rooms → ℕ → List Line
withdraw_lines j s w n =
    record { holds = not (consistent j s w); refusal = Why.Inconsistent } ∷ record { holds = none_stands (standing_here s n); refusal = Why.NotStanding } ∷ []

-- ---- a filling

-- "In a filling the first met is given": the lines of n copies more, each in the state and the rooms that the one before left
unfoldable pub copies_lines : Job → List Float → ℕ → State → Rooms → List Line
copies_lines j iv zero s w = []
copies_lines j iv (suc n) s w =
    let r = core_step j s w iv in
    next_lines j s w iv (drop s.taken (order_of j s)) ++ copies_lines j iv n r.state r.rooms

-- the lines of one filling in an order, from the start's state and rooms
unfoldable pub order_lines : Job → Lent → List ℕ → List Line
order_lines j l order =
    let p = planner_of j in
    copies_lines j l.intervals (length order) (first_state p order) (first_rooms p l.rooms)

-- "A filling in a given order and a start .. count as whole plans, 10 right after 30. Then come .., and the filling."
unfoldable pub fill_lines : Job → List ℕ → Lent → List Line
fill_lines j order l = start_lines j order l ++ order_lines j l order
