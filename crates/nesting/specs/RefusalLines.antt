-- Document 01, "Refused because of the state": the lines that a whole plan meets, in their order. Definitions only. Assumes nothing.
use Rattle.std.specs.Prelude.{ℕ, zero, suc, ◌%◌, true, false, List, [], ◌∷◌, ◌++◌, length, get_or, leb}
use Rattle.random.specs.SplitMix64.{next_state, mixed}
use Rattle.job.specs.Jobs.{Job}
use Rattle.filling.specs.Shapes.{planner_of}
use Rattle.filling.specs.Rooms.{Lent}
use Rattle.filling.specs.Fill.{fill_order}
use Rattle.filling.specs.RefusalLines.{Line, position_line, prepare_lines, order_lines}
use Rattle.nesting.specs.CopyOrder.{copy_order}
use Rattle.nesting.specs.Rounds.{Kept, Swaps, kept, ended, swappable, swapped, one_round, first_kept}

-- "each round draws i, then j .. the round ends, both draws spent. Else they are swapped and filled anew": the lines of that filling
unfoldable pub round_lines : Job → Lent → Kept → List Line
round_lines j l q =
    let first = next_state q.random in
    let second = next_state first in
    let a = mixed first % length q.order in
    let b = mixed second % length q.order in
    elim (swappable j.kinds (get_or q.order a 0) (get_or q.order b 0)) [
      | true ↦ order_lines j l (swapped a b q.order)
      | false ↦ []
    ]

-- so many rounds, each with what the one before kept
unfoldable pub rounds_lines : Job → Lent → ℕ → Swaps → List Line
rounds_lines j l zero q = []
rounds_lines j l (suc n) (ended r) = []
rounds_lines j l (suc n) (kept q) = round_lines j l q ++ rounds_lines j l n (one_round j l q)

-- "and the filling": in the copy order, then "With two or more copies, each round .."
unfoldable pub search_lines : Job → Lent → List Line
search_lines j l =
    let order = copy_order j in
    let q = first_kept j order (fill_order j l order) in
    order_lines j l order ++ elim (leb 2 (length order)) [ true ↦ rounds_lines j l j.header.rounds q | false ↦ [] ]

-- "30 is tested as soon as the job is accepted .. Then come the sheet's strips (20) and entries (21), the shapes' strips .. (20), and the filling."
unfoldable pub nest_lines : Job → Lent → List Line
nest_lines j l = position_line j l ∷ (prepare_lines (planner_of j) l.rooms ++ search_lines j l)
