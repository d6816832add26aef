-- For inner functions' contracts only: what a step of an accepted job is given once refusals 31 and 23 are past, and what it answers.
-- Definitions only. Assumes nothing.
use Rattle.std.specs.Prelude.{Result, Ok, Err, ℕ, ◌+◌, ◌*◌, ◌<◌, ◌≤◌, ◌≡◌, true, List, set, take, Float}
use Rattle.filling.specs.declared.Refusal.{Refusal}
use Rattle.trapezoid.specs.Strip.{capacity}
use Rattle.index.specs.inner.Listing.{Laid, FirstBuckets}
use Rattle.job.specs.Jobs.{Job}
use Rattle.job.proofs.Accepted.{GoodJob}
use Rattle.filling.specs.declared.State.{State}
use Rattle.filling.specs.Rooms.{Rooms}
use Rattle.filling.specs.Consistent.{sheet_index, consistent}
use Rattle.filling.specs.NextCopy.{Step}
use Rattle.accounts.specs.tables.inner.Tabled.{Tabled}
use Rattle.rooms.specs.tracks.inner.Tracks.{next_columns, look_counts_from}
use Rattle.place.specs.declared.Step as Place
use Rattle.place.specs.inner.Placing.{orientation_number, outcome_x, y_of, gap_of}
use Rattle.step.specs.declared.Stepped.{Stepped}

abbrev pub rooms : List Float → List Float → List Float → List ℕ → List ℕ → List ℕ → List ℕ → Rooms
rooms shapes sheet placed sheet_entries entries sheet_firsts firsts =
    record {
      shapes = shapes;
      sheet = sheet;
      placed = placed;
      sheet_entries = sheet_entries;
      placed_entries = entries;
      sheet_firsts = sheet_firsts;
      placed_firsts = firsts;
    }

-- the tables of a job, a state and rooms that 31 lets pass, the starts of their buckets, and a copy to come
pub record Going (j : Job) (s : State) (w : Rooms) (rows : List ℕ) (areas : List Float) (sheet_starts starts : List ℕ) : Type 0 where
  pub tabled : Tabled j rows areas
  pub good : GoodJob j
  pub few : j.copies ≤ 4096
  pub passes : consistent j s w ≡ true
  pub left : s.taken < j.copies
  pub sheet_laid : Laid (sheet_index s.tables.sheet_bounds) (take (6 * s.tables.sheet_strips) w.sheet)
      (capacity (take (6 * s.tables.sheet_strips) w.sheet)) w.sheet_entries sheet_starts
  pub placed_laid : Laid (sheet_index s.tables.sheet_bounds) w.placed s.placed_strips w.placed_entries starts
  pub sheet_kept : FirstBuckets (sheet_index s.tables.sheet_bounds) (take (6 * s.tables.sheet_strips) w.sheet)
      (capacity (take (6 * s.tables.sheet_strips) w.sheet)) w.sheet_firsts
  pub placed_kept : FirstBuckets (sheet_index s.tables.sheet_bounds) w.placed s.placed_strips w.placed_firsts

-- a reply with the rooms after it
abbrev pub step_of : Stepped → Rooms → List Float → Step
step_of r w intervals = record { verdict = r.verdict; state = r.state; rooms = w; intervals = intervals }

-- the state after a copy that is taken, with n copies taken
abbrev pub taken_of : ℕ → State → Place.Step → List ℕ → State
taken_of n s r tracks =
    record {
      tables = s.tables;
      order = s.order;
      taken = n;
      next_column = next_columns tracks;
      look_counts = look_counts_from tracks;
      placed_strips = r.totals.placed_strips;
      layout = record {
        orientation = set s.layout.orientation s.taken (orientation_number r.outcome);
        x = set s.layout.x s.taken (outcome_x r.outcome);
        y = set s.layout.y s.taken (y_of r.outcome);
        gap = set s.layout.gap s.taken (gap_of r.outcome);
        unplaced_area = r.totals.unplaced_area;
        right = r.totals.right;
      };
    }

-- the answer by its verdict
abbrev pub answer_of : State → Place.Step → List ℕ → Result (Unit {0}) Refusal → Stepped
answer_of s r tracks (Ok tt) = record { verdict = Ok tt; state = taken_of (s.taken + 1) s r tracks }
answer_of s r tracks (Err k) = record { verdict = Err k; state = s }
