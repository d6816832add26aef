-- For inner functions' contracts only: a line's numbers, and a list's, stored in a room. Definitions only. Assumes nothing.
use Rattle.std.specs.Prelude.{ℕ, ◌+◌, ◌*◌, ◌/◌, ◌≡◌, List, ◌++◌, length, take, drop}
use Rattle.put_lines.specs.declared.Line.{Line}
use Rattle.put_lines.specs.PutLines.{line_numbers, PutList, put_list}

-- the line's numbers stand after those of n lines, and nothing else has changed
pub record Stored (before : List ℕ) (n : ℕ) (l : Line) (after : List ℕ) : Type 0 where
  pub long : length after ≡ length before
  pub front : take (4 * n + 4) after ≡ take (4 * n) before ++ line_numbers l
  pub back : drop (4 * n + 4) after ≡ drop (4 * n + 4) before

-- a list's numbers in a room, which holds the whole lines that fit
unfoldable pub list_in : List ℕ → List ℕ → PutList
list_in bytes room =
    let l = put_list (length room / 4) bytes in
    record { found = l.found; numbers = l.numbers ++ drop (length l.numbers) room }
