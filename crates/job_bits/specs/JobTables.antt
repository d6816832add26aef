-- Document 02, W9, "The office edits jobs": a job as the tables that the writer is given. Definitions only. Assumes nothing.
use Rattle.std.specs.Prelude.{ℕ, ◌-◌, length, Float}
use mathlib.Core.List.{List, [], ◌∷◌, ◌++◌, map, flat_map}
use Rattle.kinds.specs.sets.Sets.{Set}
use Rattle.kinds.specs.Kinds.{Orientation, Kind}
use Rattle.job.specs.Jobs.{Job}
use Rattle.job_bits.specs.JobBits.{head_of}

-- each loop's points
unfoldable pub loop_counts : ℕ → List ℕ → List ℕ
loop_counts before [] = []
loop_counts before (e ∷ es) = (e - before) ∷ loop_counts e es

unfoldable pub set_counts : Set → List ℕ
set_counts s = length s.ends ∷ loop_counts 0 s.ends

unfoldable pub orientation_counts : Orientation → List ℕ
orientation_counts o = set_counts o.apart ++ set_counts o.inset

unfoldable pub orientation_points : Orientation → List Float
orientation_points o = o.apart.points ++ o.inset.points

unfoldable pub kind_counts : Kind → List ℕ
kind_counts k = flat_map orientation_counts k.orientations

unfoldable pub kind_points : Kind → List Float
kind_points k = flat_map orientation_points k.orientations

-- the four tables: counts and coordinates of all sets in the job's order, four numbers and the area of each kind
unfoldable pub counts_of : Job → List ℕ
counts_of j = set_counts j.sheet ++ flat_map kind_counts j.kinds

unfoldable pub coordinates_of : Job → List Float
coordinates_of j = j.sheet.points ++ flat_map kind_points j.kinds

unfoldable pub rows_of : List Kind → List ℕ
rows_of [] = []
rows_of (k ∷ ks) = (head_of k).quantity ∷ (head_of k).fill ∷ (head_of k).priority ∷ (head_of k).orientations ∷ rows_of ks

unfoldable pub areas_of : List Kind → List Float
areas_of ks = map (λ k. k.area) ks
