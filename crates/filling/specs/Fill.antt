-- Document 01, the filling in a given order: start, then the core step once for every copy. Definitions only. Assumes nothing.
use Rattle.std.specs.Prelude.{Result, Ok, Err, ℕ, zero, suc, List, [], length, Float}
use Rattle.job.specs.Jobs.{Job, Answer, accepted, refused, read_job}
use Rattle.filling.specs.declared.State.{State}
use Rattle.filling.specs.declared.Plan.{Plan}
use Rattle.filling.specs.declared.Refusal.{Refusal}
use Rattle.filling.specs.declared.Refusal.TheVariants as Why
use Rattle.filling.specs.Shapes.{planner_of}
use Rattle.filling.specs.Rooms.{Rooms, Lent, only_positions}
use Rattle.filling.specs.State.{standing_of}
use Rattle.filling.specs.Start.{start_verdict, first_state, first_rooms}
use Rattle.filling.specs.NextCopy.{core_step}
use Rattle.filling.specs.Accounts.{positions, flat_positions, plan_of, no_plan}

-- the state at the end, or the refusal first met
pub data Filling : Type 0 where
  filled : State → Filling
  stopped : Refusal → Filling

-- "In a filling the first met is given": n copies more
unfoldable pub fill_from : Job → List Float → ℕ → State → Rooms → Filling
fill_from j intervals zero s w = filled s
fill_from j intervals (suc n) s w =
    let r = core_step j s w intervals in
    elim r.verdict [ Ok tt ↦ fill_from j intervals n r.state r.rooms | Err k ↦ stopped k ]

-- nesting.rs's fill: from the start's state and rooms, one step for each copy of the order
unfoldable pub fill_order : Job → Lent → List ℕ → Filling
fill_order j l order =
    let p = planner_of j in
    fill_from j l.intervals (length order) (first_state p order) (first_rooms p l.rooms)

-- ---- the reply of a whole plan

-- what a filling or a whole plan answers, and its rooms after
pub record Planned : Type 0 where
  pub verdict : Result (Unit {0}) Refusal
  pub plan : Plan
  pub lent : Lent

-- "A refused whole plan returns only the number and zeros every lent room"
unfoldable pub not_planned : Refusal → Lent → Planned
not_planned r l = record { verdict = Err r; plan = no_plan; lent = only_positions l [] }

-- "an accepted one leaves its positions, with zeros after them and in the work rooms"
unfoldable pub planned_with : Job → Lent → State → ℕ → Planned
planned_with j l s improvements =
    record { verdict = Ok tt; plan = plan_of j s improvements; lent = only_positions l (flat_positions (positions j (standing_of s))) }

-- of a filling, with no improvements
unfoldable pub planned_by : Job → Lent → Filling → Planned
planned_by j l (filled s) = planned_with j l s 0
planned_by j l (stopped r) = not_planned r l

-- "A filling in a given order and a start .. count as whole plans, 10 right after 30."
unfoldable pub fill_job : Job → List ℕ → Lent → Planned
fill_job j order l = elim (start_verdict j order l) [ Ok tt ↦ planned_by j l (fill_order j l order) | Err r ↦ not_planned r l ]

-- a job that is refused: its number
unfoldable pub fill_given : Answer → List ℕ → Lent → Planned
fill_given (refused k) order l = not_planned (Why.Job k) l
fill_given (accepted j) order l = fill_job j order l

-- the public operation `fill`
unfoldable pub fill_of : List ℕ → List ℕ → Lent → Planned
fill_of bytes order l = fill_given (read_job bytes) order l
