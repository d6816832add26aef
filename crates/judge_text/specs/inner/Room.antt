-- For inner functions' contracts only: the room that the program lends for a list's numbers. Definitions only. Assumes nothing.
use Rattle.std.specs.Prelude.{ℕ, ◌*◌, List, replicate}
use Rattle.judge_text.specs.Judging.{most_lines}

-- four numbers to a line
unfoldable pub number_room : List ℕ
number_room = replicate (4 * most_lines) 0
