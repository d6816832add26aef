-- For inner functions' contracts only: how a filling lies in two tables, its tracks and its spots. Definitions only. Assumes nothing.
use Rattle.std.specs.Prelude.{ℕ, ◌+◌, ◌*◌, List, map, get_or, Float}
use Rattle.std.specs.Float.{nan}
use Rattle.index.specs.Buckets.{up_from}

-- number r of each of the first n rows of a table with k to a row; d where the table ends
unfoldable pub field : {A : Type 0} → A → ℕ → ℕ → ℕ → List A → List A
field d k r n table = map (λ i. get_or table (k * i + r) d) (up_from n 0)

-- tracks: next column and look count of each of 1,024 slots, then a number for each of 4,096 places: 0 for none, else 1 + orientation
abbrev pub slot_numbers : ℕ
slot_numbers = 2048

abbrev pub track_numbers : ℕ
track_numbers = 6144

abbrev pub next_columns : List ℕ → List ℕ
next_columns tracks = field 0 2 0 1024 tracks

abbrev pub look_counts_from : List ℕ → List ℕ
look_counts_from tracks = field 0 2 1 1024 tracks

abbrev pub orientations : List ℕ → List ℕ
orientations tracks = field 0 1 2048 4096 tracks

-- spots: x, y and gap of each of 4,096 places
abbrev pub spot_numbers : ℕ
spot_numbers = 12288

abbrev pub xs : List Float → List Float
xs spots = field nan 3 0 4096 spots

abbrev pub ys : List Float → List Float
ys spots = field nan 3 1 4096 spots

abbrev pub gaps : List Float → List Float
gaps spots = field nan 3 2 4096 spots
