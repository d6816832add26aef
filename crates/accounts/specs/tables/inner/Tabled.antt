-- For inner functions' contracts only: the tables that a job's kinds were read into say what the job says. Definitions only. Assumes nothing.
use Rattle.std.specs.Prelude.{◌≡◌, ℕ, ◌+◌, ◌*◌, ◌<◌, ◌≤◌, false, List, map, length, pos, ◌==◌, slice_index, slice_index_or, Float}
use Rattle.std.specs.Float.{nan}
use Rattle.numbers.specs.Numbers.{pos_zero}
use Rattle.kinds.specs.Kinds.{signed}
use Rattle.job.specs.Jobs.{Job}
use Rattle.filling.specs.State.{orientation_counts}

-- kind k's quantity, fill, priority (32 bits) and number of orientations stand in rows from 4 k on, its area in areas at k
pub record Tabled (j : Job) (rows : List ℕ) (areas : List Float) : Type 0 where
  pub few : length j.kinds ≤ 64
  pub rows_long : 256 ≤ length rows
  pub areas_long : 64 ≤ length areas
  pub quantity : (k : ℕ) → k < length j.kinds → slice_index (map (λ a. a.quantity) j.kinds) k ≡ slice_index rows (4 * k)
  pub fill : (k : ℕ) → k < length j.kinds → slice_index_or (map (λ a. a.fill) j.kinds) k false ≡ (slice_index rows (4 * k + 1) == 1)
  pub priority : (k : ℕ) → k < length j.kinds → slice_index_or (map (λ a. a.priority) j.kinds) k (pos 0) ≡ signed (slice_index rows (4 * k + 2))
  pub orientations : (k : ℕ) → k < length j.kinds → slice_index (orientation_counts j) k ≡ slice_index rows (4 * k + 3)
  pub area : (k : ℕ) → k < length j.kinds → slice_index_or (map (λ a. a.area) j.kinds) k pos_zero ≡ slice_index_or areas k nan
