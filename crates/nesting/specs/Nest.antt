-- Document 01, the whole plan: reply and every lent room after. Definitions only. Assumes nothing.
use Rattle.std.specs.Prelude.{Result, Ok, Err, List, ℕ, ltb}
use Rattle.filling.specs.declared.Refusal.{Refusal}
use Rattle.job.specs.Jobs.{Job, Answer, accepted, refused, read_job}
use Rattle.filling.specs.declared.Refusal.TheVariants as Why
use Rattle.filling.specs.Refusals.{refuse_if}
use Rattle.filling.specs.Shapes.{planner_of}
use Rattle.filling.specs.Rooms.{Lent, position_capacity}
use Rattle.filling.specs.Start.{prepare_verdict}
use Rattle.filling.specs.Fill.{Planned, not_planned, planned_with}
use Rattle.nesting.specs.Rounds.{Swaps, kept, ended, swap_search}

-- "30 is tested as soon as the job is accepted", then "the sheet's strips (20) and entries (21), the shapes' strips (20), and the filling"
unfoldable pub nest_verdict : Job → Lent → Result (Unit {0}) Refusal
nest_verdict j l = refuse_if (ltb (position_capacity l.positions) j.copies) Why.PositionRoom (prepare_verdict (planner_of j) l.rooms)

-- the plan that is kept, or the refusal met
unfoldable pub nested : Job → Lent → Swaps → Planned
nested j l (ended r) = not_planned r l
nested j l (kept q) = planned_with j l q.state q.improvements

-- the whole plan of an accepted job
unfoldable pub nest_job : Job → Lent → Planned
nest_job j l = elim (nest_verdict j l) [ Ok tt ↦ nested j l (swap_search j l) | Err r ↦ not_planned r l ]

-- a job that is refused: its number
unfoldable pub nest_given : Answer → Lent → Planned
nest_given (refused k) l = not_planned (Why.Job k) l
nest_given (accepted j) l = nest_job j l

-- the public operation `nest`: the whole plan
unfoldable pub nest_of : List ℕ → Lent → Planned
nest_of bytes l = nest_given (read_job bytes) l
