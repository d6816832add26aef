-- For inner functions' contracts only: counts by kind against the quantities of a job's table. Definitions only. Assumes nothing.
use Rattle.std.specs.Prelude.{ℕ, zero, suc, ◌*◌, Bool, true, ◌&&◌, List, ◌==◌, slice_index}

-- of the n kinds from k on
unfoldable pub in_quantity : List ℕ → List ℕ → ℕ → ℕ → Bool
in_quantity counts rows zero k = true
in_quantity counts rows (suc n) k = slice_index counts k == slice_index rows (4 * k) && in_quantity counts rows n (suc k)
