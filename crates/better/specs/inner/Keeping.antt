-- For inner functions' contracts only: the filling that is kept, as it lies in two tables. Definitions only. Assumes nothing.
use Rattle.std.specs.Prelude.{Result, Ok, Err, ℕ, ◌*◌, List, length, take, drop, Float}
use Rattle.filling.specs.declared.Refusal.{Refusal}
use Rattle.filling.specs.Shapes.{Planner}
use Rattle.rooms.specs.tracks.inner.Tracks.{next_columns, look_counts_from, orientations, xs, ys, gaps, track_numbers, spot_numbers}
use Rattle.filling_laws.specs.fill_laws.inner.Prepared.{state_by}
use Rattle.nesting.specs.Rounds.{Kept, Swaps, kept, ended}
use Rattle.better.specs.declared.Best.{Best}

-- what is kept so far
abbrev pub kept_by : Best → Planner → List ℕ → List ℕ → List ℕ → List ℕ → List Float → List Float → List Float → Kept
kept_by b p order next looks orientation x y gap =
    record {
      random = b.random;
      order = order;
      state = state_by p order (length order) next looks b.totals orientation x y gap;
      improvements = b.improvements;
    }

-- half h of a table with w numbers to a half
unfoldable pub half : {A : Type 0} → ℕ → ℕ → List A → List A
half w h table = take w (drop (w * h) table)

-- the tracks and the spots that are kept
abbrev pub kept_tracks : Best → List ℕ → List ℕ
kept_tracks b tracks = half track_numbers b.kept tracks

abbrev pub kept_spots : Best → List Float → List Float
kept_spots b spots = half spot_numbers b.kept spots

-- the same in the two tables
abbrev pub kept_in : Best → Planner → List ℕ → List ℕ → List Float → Kept
kept_in b p order tracks spots =
    kept_by b p order (next_columns (kept_tracks b tracks)) (look_counts_from (kept_tracks b tracks)) (orientations (kept_tracks b tracks))
    (xs (kept_spots b spots)) (ys (kept_spots b spots)) (gaps (kept_spots b spots))

-- what is kept, or the refusal that ends the rounds
abbrev pub swaps_in : Result Best Refusal → Planner → List ℕ → List ℕ → List Float → Swaps
swaps_in (Ok b) p order tracks spots = kept (kept_in b p order tracks spots)
swaps_in (Err k) p order tracks spots = ended k
