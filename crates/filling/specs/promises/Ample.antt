-- Demand 1, "a plan, or the refusal for the kind of lent room it overran": rooms that are not overrun. Definitions only. Assumes nothing.
use Rattle.std.specs.Prelude.{ℕ, ◌+◌, ◌*◌, ◌≤◌, List, [], ◌∷◌, ◌++◌, length, Float}
use Rattle.trapezoid.specs.Strip.{capacity}
use Rattle.index.specs.Buckets.{standing_capacity}
use Rattle.job.specs.Jobs.{Job}
use Rattle.filling.specs.Shapes.{planner_of, shape_of}
use Rattle.filling.specs.Rooms.{Rooms, Lent, interval_capacity, position_capacity}
use Rattle.filling.specs.Consistent.{entries_for}
use Rattle.filling.specs.Start.{apart_strips_of, inset_strips}
use Rattle.filling.specs.Calls.{Call, next_copy}

-- rooms that hold what a start stores
pub record AmpleStart (j : Job) (l : Lent) : Type 0 where
  pub positions : j.copies ≤ position_capacity l.positions
  pub sheet : capacity (planner_of j).sheet ≤ standing_capacity l.rooms.sheet l.rooms.sheet_firsts
  pub sheet_entries : length (entries_for (planner_of j).bounds (planner_of j).sheet) ≤ length l.rooms.sheet_entries
  pub shapes : capacity (apart_strips_of (planner_of j) ++ inset_strips (planner_of j)) ≤ capacity l.rooms.shapes

-- rooms that hold whatever the copies of a job need, where an orientation has at most m apart strips and n inset strips
pub record Ample (j : Job) (m n : ℕ) (w : Rooms) : Type 0 where
  pub apart : (k o : ℕ) → capacity (shape_of (planner_of j) k o).apart ≤ m
  pub inset : (k o : ℕ) → capacity (shape_of (planner_of j) k o).inset ≤ n
  pub placed : j.copies * m ≤ standing_capacity w.placed w.placed_firsts
  pub placed_entries : 512 * (j.copies * m) ≤ length w.placed_entries

-- an interval room that holds whatever a look at a copy of the job can count
abbrev pub AmpleIntervals : Job → ℕ → ℕ → List Float → Type 0
AmpleIntervals j m n intervals = n * capacity (planner_of j).sheet + m * (j.copies * m) ≤ interval_capacity intervals

-- the interval room of every call of a list suffices
pub data AmpleCalls (j : Job) (m n : ℕ) : List Call → Type 0 where
  no_call : AmpleCalls j m n []
  and_call : {iv : List Float} {cs : List Call} → AmpleIntervals j m n iv → AmpleCalls j m n cs → AmpleCalls j m n (next_copy iv ∷ cs)
