-- Document 02, W6: case 4 of document 01's "Sheets tried by hand": lists of its plates, and what is answered. Definitions only. Assumes nothing.
use Rattle.std.specs.Prelude.{ℕ, List, [], ◌∷◌, ◌++◌, map}
use Rattle.job.specs.Jobs.{Job}
use Rattle.filling.specs.Refusals.{verdict_number}
use Rattle.filling.specs.Rooms.{Rooms}
use Rattle.nesting.specs.Case4.{case4}
use Rattle.nesting.specs.Sheets.{rectangle, job_in, job_of, rooms_sized, rooms_bits}
use Rattle.nesting.specs.Cases.{Case, nothing}
use Rattle.layouts.specs.declared.Judgement.{Judgement}
use Rattle.layouts.specs.Layouts.{lines_of, layout_job, Judged, layout_of}

-- the verdict's number, and the line
unfoldable pub judged_numbers : Judgement → List ℕ
judged_numbers r = verdict_number r.verdict ∷ r.line ∷ []

-- and the rooms after
unfoldable pub judged_bits : Judged → List (List ℕ)
judged_bits q = judged_numbers q.judgement ∷ rooms_bits q.rooms

-- what is answered for a list of case 4's plates in these rooms, and for a list of another job's
unfoldable pub plate_answer : Rooms → List ℕ → List ℕ
plate_answer w given = judged_numbers (layout_of case4 given w).judgement

unfoldable pub job_answer : Job → List ℕ → List ℕ
job_answer j given = judged_numbers (layout_job j (lines_of given) (rooms_sized 12 24 1100))

-- ---- lines: kind, orientation, and the bits of x and y

-- 1
abbrev d1 : ℕ
d1 = 0x3ff0000000000000

-- 2
abbrev d2 : ℕ
d2 = 0x4000000000000000

-- 3
abbrev d3 : ℕ
d3 = 0x4008000000000000

-- 4
abbrev d4 : ℕ
d4 = 0x4010000000000000

-- 6
abbrev d6 : ℕ
d6 = 0x4018000000000000

-- 7
abbrev d7 : ℕ
d7 = 0x401c000000000000

-- a NaN
abbrev no_number : ℕ
no_number = 0x7ff8000000000000

-- a plate at x, y
unfoldable pub plate : ℕ → ℕ → List ℕ
plate x y = 0 ∷ 0 ∷ x ∷ y ∷ []

-- the four plates of the plan, in filling order
unfoldable pub four_lines : List ℕ
four_lines = plate 0 0 ++ (plate 0 d3 ++ (plate d4 0 ++ plate d4 d3))

-- ---- the cases

-- zeros in every room
unfoldable pub emptied : List (List ℕ)
emptied = nothing 12 ∷ nothing 7 ∷ nothing 24 ∷ nothing 1 ∷ nothing 822 ∷ nothing 1 ∷ nothing 4 ∷ []

-- the plan's four plates, in rooms that are exact, whatever they hold: accepted; one more on two of them: 27; "rooms are left as the whole plan leaves them"
unfoldable pub layout_plates : Case
layout_plates =
    record {
      got =
          judged_bits (layout_of case4 four_lines (rooms_sized 12 24 822))
          ++ judged_bits (layout_of case4 (four_lines ++ plate d6 d1) (rooms_sized 12 24 822));
      want = (0 ∷ 4 ∷ []) ∷ (emptied ++ ((27 ∷ 4 ∷ []) ∷ emptied));
    }

-- "A minus zero in the list is read as plus zero", and two numbers that are no line; the last column and the top; no line
unfoldable pub layout_accepted : Case
layout_accepted =
    record {
      got =
          map (plate_answer (rooms_sized 12 24 822))
          ((plate 0x8000000000000000 0x8000000000000000 ++ (0 ∷ 0 ∷ [])) ∷ plate d6 d3 ∷ [] ∷ []);
      want = (0 ∷ 1 ∷ []) ∷ (0 ∷ 1 ∷ []) ∷ (0 ∷ 0 ∷ []) ∷ [];
    }

-- "4 for a non-finite number" before "9 for a missing kind or orientation"; "26 outside the range": to its right, above it, and below it on another plate
unfoldable pub layout_refused : Case
layout_refused =
    record {
      got =
          map (plate_answer (rooms_sized 12 24 822))
          ((plate 0 0 ++ (1 ∷ 0 ∷ 0 ∷ no_number ∷ []))
          ∷ (1 ∷ 0 ∷ 0 ∷ 0 ∷ [])
          ∷ (0 ∷ 1 ∷ 0 ∷ 0 ∷ [])
          ∷ plate d7 0
          ∷ plate 0 d4
          ∷ (plate 0 0 ++ plate 0 0xbff0000000000000)
          ∷ []);
      want = (4 ∷ 1 ∷ []) ∷ (9 ∷ 0 ∷ []) ∷ (9 ∷ 0 ∷ []) ∷ (26 ∷ 0 ∷ []) ∷ (26 ∷ 0 ∷ []) ∷ (26 ∷ 1 ∷ []) ∷ [];
    }

-- "then 20 or 21 for that copy's strips or entries": a strip short, an entry short, both; "27 in the way" before 20; a shape's strip short
unfoldable pub layout_rooms : Case
layout_rooms =
    record {
      got =
          plate_answer (rooms_sized 12 23 822) four_lines
          ∷ plate_answer (rooms_sized 12 24 821) four_lines
          ∷ plate_answer (rooms_sized 12 23 821) four_lines
          ∷ plate_answer (rooms_sized 12 6 822) (plate 0 0 ++ plate d1 0)
          ∷ plate_answer (rooms_sized 11 24 822) four_lines
          ∷ [];
      want = (20 ∷ 3 ∷ []) ∷ (21 ∷ 3 ∷ []) ∷ (20 ∷ 3 ∷ []) ∷ (27 ∷ 1 ∷ []) ∷ (20 ∷ 0 ∷ []) ∷ [];
    }

-- "25 for too many copies" before 26: a second plate where the quantity is one; "positions go through `to`": the second table's own plates
unfoldable pub layout_others : Case
layout_others =
    record {
      got =
          job_answer (job_of 1 1 12 0 (rectangle 4 3 ∷ [])) (plate 0 0 ++ plate d7 0)
          ∷ job_answer (job_in 2 (record { corner = 1; axis = 0 }) 1 5 12 0 (rectangle 4 3 ∷ []))
          (plate d6 0 ++ (plate d2 0 ++ (plate d6 d3 ++ plate d2 d3)))
          ∷ [];
      want = (25 ∷ 1 ∷ []) ∷ (0 ∷ 4 ∷ []) ∷ [];
    }
