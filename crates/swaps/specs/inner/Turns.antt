-- For inner functions' contracts only: the swap search from a given order on. Definitions only. Assumes nothing.
use Rattle.std.specs.Prelude.{ℕ, true, false, List, length, leb}
use Rattle.job.specs.Jobs.{Job}
use Rattle.filling.specs.Rooms.{Lent}
use Rattle.filling.specs.Fill.{fill_order}
use Rattle.nesting.specs.Rounds.{Swaps, rounds, first_kept}

-- "With two or more copies, each round .."
abbrev pub rounds_for : ℕ → ℕ → ℕ
rounds_for copies n = elim (leb 2 copies) [ true ↦ n | false ↦ 0 ]

-- what is kept of so many rounds from the first filling on
abbrev pub searched : Job → Lent → List ℕ → ℕ → Swaps
searched j l order n = rounds j l (rounds_for (length order) n) (first_kept j order (fill_order j l order))
