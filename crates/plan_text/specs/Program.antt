-- Document 01, "The printed plan" and 11: what the program prints for its input. Definitions only. Assumes nothing.
use Rattle.std.specs.Prelude.{ℕ, ◌*◌, true, false, List, [], ◌∷◌, length, replicate, ltb, Float}
use Rattle.numbers.specs.Numbers.{pos_zero}
use Rattle.filling.specs.Rooms.{Lent, laid, zeros}
use Rattle.nesting.specs.Text.{decimal, line, no_word, printed}
use Rattle.plan_text.specs.Told.{buffer_length}

-- 11 "the program alone: job over 65,536 bytes, tested first"
abbrev pub longest_job : ℕ
longest_job = 65536

-- the table's number for a job that is longer
abbrev pub overlong_number : ℕ
overlong_number = 11

-- "lends rooms of 1,365 strips each (shapes, sheet, placed)": six doubles to a strip
unfoldable pub strip_room : List Float
strip_room = replicate (6 * 1365) pos_zero

-- "16,384 entries each (sheet, placed)"
unfoldable pub entry_room : List ℕ
entry_room = replicate 16384 0

-- "rooms of 1,365 strips each": a number to a strip (document 02, W3)
unfoldable pub first_room : List ℕ
first_room = replicate 1365 0

-- "4,096 intervals": two doubles to an interval
unfoldable pub interval_room : List Float
interval_room = replicate (2 * 4096) pos_zero

-- "and 4,096 positions": six doubles to a position
unfoldable pub position_room : List Float
position_room = replicate (6 * 4096) pos_zero

-- all that the program lends
unfoldable pub program_rooms : Lent
program_rooms =
    record {
      rooms = record {
        shapes = strip_room;
        sheet = strip_room;
        placed = strip_room;
        sheet_entries = entry_room;
        placed_entries = entry_room;
        sheet_firsts = first_room;
        placed_firsts = first_room;
      };
      intervals = interval_room;
      positions = position_room;
    }

-- "A refusal prints `no` and the number": 11 first, else the text of the whole plan
unfoldable pub program_text : List ℕ → List ℕ
program_text bytes = elim (ltb longest_job (length bytes)) [ true ↦ line no_word (decimal overlong_number ∷ []) | false ↦ printed bytes program_rooms ]

-- where a text ends, and the buffer after
pub record Buffered : Type 0 where
  pub end : ℕ
  pub out : List ℕ

-- a text at the buffer's beginning, zeros after it
unfoldable pub text_in : List ℕ → List ℕ → Buffered
text_in text out = record { end = length text; out = laid text (zeros 0 out) }

-- the program's text in a buffer; a shorter one than every plan's text needs is left as it was
unfoldable pub program_answer : List ℕ → List ℕ → Buffered
program_answer bytes out = elim (ltb (length out) buffer_length) [ true ↦ record { end = 0; out = out } | false ↦ text_in (program_text bytes) out ]
