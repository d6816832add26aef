-- Document 01, "Sheets tried by hand": the starred cases as one list; `got` is what the definitions come to, `want` what the paper says.
-- The last four are 31 by a gap (document 02, W7), case 4 on the second table (W1) and case 4 with a copy taken back (W4), twice.
-- Definitions only. Assumes nothing.
use Rattle.std.specs.Prelude.{ℕ, suc, ◌*◌, ◌%◌, ◌^◌, true, false, take, set, replicate, Float}
use mathlib.Core.List.{List, [], ◌∷◌, ◌++◌, map, flat_map}
use Rattle.std.specs.Float.{binary64}
use Rattle.std.specs.Float.Ieee.{of_bits}
use Rattle.numbers.specs.Numbers.{from_int}
use Rattle.trapezoid.specs.Strip.{strip_at, heights_at}
use Rattle.index.specs.Buckets.{up_from}
use Rattle.kinds.specs.sets.Sets.{Set}
use Rattle.job.specs.Jobs.{Job}
use Rattle.filling.specs.declared.State.{State}
use Rattle.filling.specs.Refusals.{verdict_number}
use Rattle.filling.specs.Columns.{ranges, last_column, column_at}
use Rattle.filling.specs.Shapes.{set_bounds, set_strips}
use Rattle.filling.specs.Rooms.{Rooms, Lent}
use Rattle.filling.specs.State.{standing_of, without_of}
use Rattle.filling.specs.Start.{Start, start_of}
use Rattle.filling.specs.NextCopy.{next_copy_of}
use Rattle.filling.specs.Fill.{Planned, fill_of}
use Rattle.filling.specs.Calls.{Call, next_copy, withdraw, After, after_calls}
use Rattle.nesting.specs.Rounds.{Swaps, kept, ended, swap_search}
use Rattle.nesting.specs.Nest.{nest_job, nest_of}
use Rattle.nesting.specs.Text.{printed}
use Rattle.nesting.specs.Case4.{case4, case4_text}
use Rattle.nesting.specs.Sheets.{rectangle, triangle, clockwise, job_in, job_of, bits, room, rooms_sized, lent_sized, ample, rooms_bits, lent_bits}

-- a case: what the definitions come to, and what the paper says
pub record Case : Type 0 where
  pub got : List (List ℕ)
  pub want : List (List ℕ)

-- ---- what is compared

-- the verdict's number; placed, without a place, improvements; by kind; the first two slots' look counts; right, area, offcut
unfoldable pub plan_bits : Planned → List (List ℕ)
plan_bits r =
    let p = r.plan in
    (verdict_number r.verdict ∷ p.placed ∷ p.unplaced ∷ p.improvements ∷ [])
    ∷ (take 2 p.placed_of ++ take 2 p.unplaced_of)
    ∷ take 2 p.look_counts
    ∷ bits (p.right ∷ p.unplaced_area ∷ p.offcut ∷ [])
    ∷ []

-- a plan of a job, and the beginning of the position room
unfoldable pub job_bits : Job → List (List ℕ)
job_bits j = let r = nest_job j ample in plan_bits r ++ (bits (take 25 r.lent.positions) ∷ [])

-- a plan, and every room after it
unfoldable pub planned_bits : Planned → List (List ℕ)
planned_bits r = plan_bits r ++ lent_bits r.lent

-- "six draws": the state of the draws at the end
unfoldable pub draws_of : Swaps → ℕ
draws_of (kept q) = q.random
draws_of (ended r) = 0

-- the standing copies, those without a place, copies taken, placed strips, right and area, remembered columns and look counts
unfoldable pub state_bits : State → List (List ℕ)
state_bits s =
    flat_map (λ c. c.copy.place ∷ c.copy.kind ∷ c.orientation ∷ bits (c.x ∷ c.y ∷ c.gap ∷ [])) (standing_of s)
    ∷ flat_map (λ c. c.place ∷ c.kind ∷ []) (without_of s)
    ∷ (s.taken ∷ s.placed_strips ∷ bits (s.layout.right ∷ s.layout.unplaced_area ∷ []))
    ∷ (take 2 s.next_column ++ take 2 s.look_counts)
    ∷ []

-- what some calls answered and left
unfoldable pub after_bits : After → List (List ℕ)
after_bits a = map verdict_number a.verdicts ∷ (state_bits a.state ++ rooms_bits a.rooms)

-- the x's of the columns of a part at a resolution
unfoldable pub column_bits : ℕ → Set → List ℕ
column_bits resolution s =
    let r = ranges (set_bounds (rectangle 10 6)) (set_bounds s) in
    bits (map (column_at (from_int resolution) r) (up_from (suc (last_column (from_int resolution) r)) 0))

-- ---- calls of case 4

-- n next copies with an interval room of four
unfoldable pub next_copies : ℕ → List Call
next_copies n = replicate n (next_copy (room 4))

-- some calls after a start
unfoldable pub called_bits : List Call → Start → List (List ℕ)
called_bits calls r =
    (verdict_number r.verdict ∷ [])
    ∷ (after_bits (after_calls case4 calls r.state r.lent.rooms) ++ (bits r.lent.intervals ∷ bits r.lent.positions ∷ []))

-- "five copies": the one order of case 4
unfoldable pub five_copies : List ℕ
five_copies = 0 ∷ 0 ∷ 0 ∷ 0 ∷ 0 ∷ []

-- a state with another gap at place n
unfoldable pub gapped : State → ℕ → Float → State
gapped s n g =
    let l = s.layout in
    record {
      tables = s.tables;
      order = s.order;
      taken = s.taken;
      next_column = s.next_column;
      look_counts = s.look_counts;
      placed_strips = s.placed_strips;
      layout = record { orientation = l.orientation; x = l.x; y = l.y; gap = set l.gap n g; unplaced_area = l.unplaced_area; right = l.right };
    }

-- what the next call of case 4 answers where the gap at place n has these bits
unfoldable pub gap_number : State → Rooms → ℕ → ℕ → ℕ
gap_number s w n g = verdict_number (next_copy_of case4 (gapped s n (of_bits binary64 g)) w (room 4)).verdict

-- the first copy's gap minus zero, 1,000,000, the doubles next to the range, a NaN; the second's a NaN
unfoldable pub gap_numbers : After → List (List ℕ)
gap_numbers a =
    map (gap_number a.state a.rooms 0)
    (0x8000000000000000 ∷ 0x412e848000000000 ∷ 0x8000000000000001 ∷ 0x412e848000000001 ∷ 0x7ff8000000000000 ∷ [])
    ∷ (gap_number a.state a.rooms 1 0x7ff8000000000000 ∷ [])
    ∷ []

-- after a start and one call
unfoldable pub gaps_judged : Start → List (List ℕ)
gaps_judged r = gap_numbers (after_calls case4 (next_copy (room 4) ∷ []) r.state r.lent.rooms)

-- ---- numbers of the paper, as the bits of doubles

-- 2
abbrev d2 : ℕ
d2 = 0x4000000000000000

-- 3
abbrev d3 : ℕ
d3 = 0x4008000000000000

-- 4
abbrev d4 : ℕ
d4 = 0x4010000000000000

-- 6
abbrev d6 : ℕ
d6 = 0x4018000000000000

-- 8
abbrev d8 : ℕ
d8 = 0x4020000000000000

-- 10
abbrev d10 : ℕ
d10 = 0x4024000000000000

-- 12
abbrev d12 : ℕ
d12 = 0x4028000000000000

-- n zeros
unfoldable pub nothing : ℕ → List ℕ
nothing n = replicate n 0

-- kind 0's first four copies in case 4: kind, copy, orientation, x, y, gap; "In case 4 the first plate's gap is 3 and the second's 0."
unfoldable pub four_plates : List ℕ
four_plates = bits (map from_int (0 ∷ 0 ∷ 0 ∷ 0 ∷ 0 ∷ 3 ∷ 0 ∷ 1 ∷ 0 ∷ 0 ∷ 3 ∷ 0 ∷ 0 ∷ 2 ∷ 0 ∷ 4 ∷ 0 ∷ 3 ∷ 0 ∷ 3 ∷ 0 ∷ 4 ∷ 3 ∷ 0 ∷ []))

-- the strips of the 4 × 3 rectangle, apart and inset; of the four plates that stand; their entries: 0 and 1 in buckets 0 to 203, all four
-- in bucket 204, 2 and 3 in buckets 205 to 409
unfoldable pub plate_strips : List ℕ
plate_strips = 0 ∷ d4 ∷ 0 ∷ 0 ∷ d3 ∷ d3 ∷ 0 ∷ d4 ∷ 0 ∷ 0 ∷ d3 ∷ d3 ∷ []

-- the strips of the four plates that stand
unfoldable pub four_strips : List ℕ
four_strips =
    0 ∷ d4 ∷ 0 ∷ 0 ∷ d3 ∷ d3 ∷
    0 ∷ d4 ∷ d3 ∷ d3 ∷ d6 ∷ d6 ∷
    d4 ∷ d8 ∷ 0 ∷ 0 ∷ d3 ∷ d3 ∷
    d4 ∷ d8 ∷ d3 ∷ d3 ∷ d6 ∷ d6 ∷ []

-- their entries
unfoldable pub four_entries : List ℕ
four_entries = flat_map (λ b. 0 ∷ 1 ∷ []) (up_from 204 0) ++ ((0 ∷ 1 ∷ 2 ∷ 3 ∷ []) ++ flat_map (λ b. 2 ∷ 3 ∷ []) (up_from 205 0))

-- the bucket of each plate's x0: 4 on a sheet of 10 is in bucket 204
unfoldable pub four_firsts : List ℕ
four_firsts = 0 ∷ 0 ∷ 204 ∷ 204 ∷ []

-- the rooms after the four plates are placed, with one strip, a remainder of one double, one entry and one number to spare
unfoldable pub rooms_left : List (List ℕ)
rooms_left =
    (plate_strips ++ nothing 7)
    ∷ nothing 7
    ∷ (four_strips ++ nothing 7)
    ∷ (0 ∷ [])
    ∷ (four_entries ++ (0 ∷ []))
    ∷ (0 ∷ [])
    ∷ (four_firsts ++ (0 ∷ []))
    ∷ nothing 5
    ∷ nothing 31
    ∷ []

-- the same with the second plate's strip last
unfoldable pub rooms_again : List (List ℕ)
rooms_again =
    (plate_strips ++ nothing 7)
    ∷ nothing 7
    ∷ ((0 ∷ d4 ∷ 0 ∷ 0 ∷ d3 ∷ d3 ∷ d4 ∷ d8 ∷ 0 ∷ 0 ∷ d3 ∷ d3 ∷ d4 ∷ d8 ∷ d3 ∷ d3 ∷ d6 ∷ d6 ∷ 0 ∷ d4 ∷ d3 ∷ d3 ∷ d6 ∷ d6 ∷ []) ++ nothing 7)
    ∷ (0 ∷ [])
    ∷ (flat_map (λ b. 0 ∷ 3 ∷ []) (up_from 204 0) ++ ((0 ∷ 1 ∷ 2 ∷ 3 ∷ []) ++ (flat_map (λ b. 1 ∷ 2 ∷ []) (up_from 205 0) ++ (0 ∷ []))))
    ∷ (0 ∷ [])
    ∷ (0 ∷ 204 ∷ 204 ∷ 0 ∷ 0 ∷ [])
    ∷ nothing 5
    ∷ nothing 31
    ∷ []

-- the four plates by place and kind, orientation, x, y and gap
unfoldable pub four_standing : List ℕ
four_standing = 0 ∷ 0 ∷ 0 ∷ 0 ∷ 0 ∷ d3 ∷ 1 ∷ 0 ∷ 0 ∷ 0 ∷ d3 ∷ 0 ∷ 2 ∷ 0 ∷ 0 ∷ d4 ∷ 0 ∷ d3 ∷ 3 ∷ 0 ∷ 0 ∷ d4 ∷ d3 ∷ 0 ∷ []

-- case 4's reply: number and counts, by kind, look counts, right, area, offcut
unfoldable pub case4_plan : List (List ℕ)
case4_plan = (0 ∷ 4 ∷ 1 ∷ 0 ∷ []) ∷ (4 ∷ 0 ∷ 1 ∷ 0 ∷ []) ∷ (11 ∷ 0 ∷ []) ∷ (d8 ∷ d12 ∷ d2 ∷ []) ∷ []

-- every room exact, but one position and a remainder to spare: zeros after the positions and in the work rooms
unfoldable pub exact : Lent
exact = lent_sized (rooms_sized 12 24 822) 4 37

-- the rooms after case 4
unfoldable pub case4_rooms : List (List ℕ)
case4_rooms = nothing 12 ∷ nothing 7 ∷ nothing 24 ∷ nothing 1 ∷ nothing 822 ∷ nothing 1 ∷ nothing 4 ∷ nothing 4 ∷ (four_plates ++ nothing 13) ∷ []

-- ---- the cases

-- 1*. "one strip, 0..4, low 0 0, high 4 0; at 1 the high is 3"
unfoldable pub starred1 : Case
starred1 =
    let s = set_strips false triangle in
    record { got = bits s ∷ bits ((heights_at (strip_at s 0) (from_int 1)).high ∷ []) ∷ []; want = (0 ∷ d4 ∷ 0 ∷ 0 ∷ d4 ∷ 0 ∷ []) ∷ (d3 ∷ []) ∷ [] }

-- 2*. "no strip"
unfoldable pub starred2 : Case
starred2 = record { got = bits (set_strips false clockwise) ∷ []; want = [] ∷ [] }

-- 3*. "The sheet: no strip."
unfoldable pub starred3 : Case
starred3 = record { got = bits (set_strips true (rectangle 10 6)) ∷ []; want = [] ∷ [] }

-- 4*. "4 × 3, area 12, five copies, one orientation, no rounds: as printed above; 11 looks = 6 + 1 + 4": a start and six calls,
-- the sixth refused with 23
unfoldable pub starred4 : Case
starred4 =
    record {
      got = called_bits (next_copies 6) (start_of case4 five_copies (lent_sized (rooms_sized 19 31 823) 5 31));
      want =
          (0 ∷ []) ∷ (0 ∷ 0 ∷ 0 ∷ 0 ∷ 0 ∷ 23 ∷ []) ∷ four_standing ∷ (4 ∷ 0 ∷ []) ∷ (5 ∷ 4 ∷ d8 ∷ d12 ∷ []) ∷ (0 ∷ 1 ∷ 11 ∷ 0 ∷ []) ∷ rooms_left;
    }

-- a filling, the whole plan, and its text
unfoldable pub starred4_fill : Case
starred4_fill = record { got = planned_bits (fill_of case4 five_copies exact); want = case4_plan ++ case4_rooms }

-- the whole plan
unfoldable pub starred4_plan : Case
starred4_plan = record { got = planned_bits (nest_of case4 exact); want = case4_plan ++ case4_rooms }

-- "as printed above"
unfoldable pub starred4_text : Case
starred4_text = record { got = printed case4 exact ∷ []; want = case4_text ∷ [] }

-- 5*. "The first four only: 8 looks = 4 + 4.": a job of four, and four calls of case 4's
unfoldable pub starred5 : Case
starred5 =
    record {
      got = job_bits (job_of 1 4 12 0 (rectangle 4 3 ∷ []));
      want = (0 ∷ 4 ∷ 0 ∷ 0 ∷ []) ∷ (4 ∷ 0 ∷ 0 ∷ 0 ∷ []) ∷ (8 ∷ 0 ∷ []) ∷ (d8 ∷ 0 ∷ d2 ∷ []) ∷ (four_plates ++ nothing 1) ∷ [];
    }

-- four calls of case 4's job
unfoldable pub starred5_calls : Case
starred5_calls =
    record {
      got = called_bits (next_copies 4) (start_of case4 five_copies (lent_sized (rooms_sized 19 31 823) 5 31));
      want = (0 ∷ []) ∷ (0 ∷ 0 ∷ 0 ∷ 0 ∷ []) ∷ four_standing ∷ [] ∷ (4 ∷ 4 ∷ d8 ∷ 0 ∷ []) ∷ (5 ∷ 1 ∷ 8 ∷ 0 ∷ []) ∷ rooms_left;
    }

-- 6*. "Resolution 4, width 4: columns at 0, 4, 6."
unfoldable pub starred6 : Case
starred6 = record { got = column_bits 4 (rectangle 4 3) ∷ []; want = (0 ∷ d4 ∷ d6 ∷ []) ∷ [] }

-- 7*. "Resolution 3: 0, 3, 6, no extra."
unfoldable pub starred7 : Case
starred7 = record { got = column_bits 3 (rectangle 4 3) ∷ []; want = (0 ∷ d3 ∷ d6 ∷ []) ∷ [] }

-- 8*. "10 × 6, two copies: (0,0), then none; 2 looks."
unfoldable pub starred8 : Case
starred8 =
    record {
      got = job_bits (job_of 1 2 60 0 (rectangle 10 6 ∷ []));
      want = (0 ∷ 1 ∷ 1 ∷ 0 ∷ []) ∷ (1 ∷ 0 ∷ 1 ∷ 0 ∷ []) ∷ (2 ∷ 0 ∷ []) ∷ (d10 ∷ 0x404e000000000000 ∷ 0 ∷ []) ∷ nothing 25 ∷ [];
    }

-- 9*. "11 × 1: no look, unplaced."
unfoldable pub starred9 : Case
starred9 =
    record {
      got = job_bits (job_of 1 1 11 0 (rectangle 11 1 ∷ []));
      want = (0 ∷ 0 ∷ 1 ∷ 0 ∷ []) ∷ (0 ∷ 0 ∷ 1 ∷ 0 ∷ []) ∷ (0 ∷ 0 ∷ []) ∷ (0 ∷ 0x4026000000000000 ∷ d10 ∷ []) ∷ nothing 25 ∷ [];
    }

-- 10*. "4 × 3 or 3 × 4: the second, at (0,0)."
unfoldable pub starred10 : Case
starred10 =
    record {
      got = job_bits (job_of 1 1 12 0 (rectangle 4 3 ∷ rectangle 3 4 ∷ []));
      want =
          (0 ∷ 1 ∷ 0 ∷ 0 ∷ []) ∷ (1 ∷ 0 ∷ 0 ∷ 0 ∷ []) ∷ (1 ∷ 1 ∷ []) ∷ (d3 ∷ 0 ∷ 0x401c000000000000 ∷ [])
          ∷ ((0 ∷ 0 ∷ 0x3ff0000000000000 ∷ 0 ∷ 0 ∷ d2 ∷ []) ++ nothing 19) ∷ [];
    }

-- 11*. "One kind, two copies, three rounds: six draws, no improvement."
unfoldable pub starred11 : Case
starred11 =
    let j = job_of 1 2 12 3 (rectangle 4 3 ∷ []) in
    record {
      got = job_bits j ++ ((draws_of (swap_search j ample) ∷ []) ∷ []);
      want =
          (0 ∷ 2 ∷ 0 ∷ 0 ∷ []) ∷ (2 ∷ 0 ∷ 0 ∷ 0 ∷ []) ∷ (2 ∷ 0 ∷ []) ∷ (d4 ∷ 0 ∷ d6 ∷ [])
          ∷ ((0 ∷ 0 ∷ 0 ∷ 0 ∷ 0 ∷ d3 ∷ 0 ∷ 0x3ff0000000000000 ∷ 0 ∷ 0 ∷ d3 ∷ 0 ∷ []) ++ nothing 13)
          ∷ ((6 * 0x9e3779b97f4a7c15 % 2 ^ 64) ∷ [])
          ∷ [];
    }

-- document 02, W7: "a state's gap not in 0..1,000,000 is 31"; that of a copy to come is not judged
unfoldable pub starred_gap : Case
starred_gap =
    record {
      got = gaps_judged (start_of case4 five_copies (lent_sized (rooms_sized 19 31 823) 5 31));
      want = (0 ∷ 0 ∷ 31 ∷ 31 ∷ 31 ∷ []) ∷ (0 ∷ []) ∷ [];
    }

-- the plates of case 4 on the second table: at (6,0), (2,0), (6,3), (2,3)
unfoldable pub second_plates : List ℕ
second_plates = bits (map from_int (0 ∷ 0 ∷ 0 ∷ 6 ∷ 0 ∷ 6 ∷ 0 ∷ 1 ∷ 0 ∷ 2 ∷ 0 ∷ 2 ∷ 0 ∷ 2 ∷ 0 ∷ 6 ∷ 3 ∷ 6 ∷ 0 ∷ 3 ∷ 0 ∷ 2 ∷ 3 ∷ 2 ∷ []))

-- document 02, W1: "The second table has its stop at lower right and advances upward." Case 4 there: 8 looks = 2 + 4 + 1 + 1, right 6, no offcut
unfoldable pub starred_frame : Case
starred_frame =
    record {
      got = job_bits (job_in 2 (record { corner = 1; axis = 0 }) 1 5 12 0 (rectangle 4 3 ∷ []));
      want = (0 ∷ 4 ∷ 1 ∷ 0 ∷ []) ∷ (4 ∷ 0 ∷ 1 ∷ 0 ∷ []) ∷ (8 ∷ 0 ∷ []) ∷ (d6 ∷ 0x4028000000000000 ∷ 0 ∷ []) ∷ (second_plates ++ nothing 1) ∷ [];
    }

-- document 02, W4: case 4, the second copy taken back: later ones close up. The copy at place 3 then has no place: 24. The next copy stands where the second
-- stood: one look, for every remembered column has returned to 0
unfoldable pub starred_back : Case
starred_back =
    record {
      got =
          called_bits (next_copies 5 ++ (withdraw 1 ∷ withdraw 3 ∷ next_copies 1)) (start_of case4 five_copies (lent_sized (rooms_sized 19 31 823) 5 31));
      want =
          (0 ∷ []) ∷ (0 ∷ 0 ∷ 0 ∷ 0 ∷ 0 ∷ 0 ∷ 24 ∷ 0 ∷ [])
          ∷ (0 ∷ 0 ∷ 0 ∷ 0 ∷ 0 ∷ d3 ∷ 1 ∷ 0 ∷ 0 ∷ d4 ∷ 0 ∷ d3 ∷ 2 ∷ 0 ∷ 0 ∷ d4 ∷ d3 ∷ 0 ∷ 4 ∷ 0 ∷ 0 ∷ 0 ∷ d3 ∷ 0 ∷ [])
          ∷ (3 ∷ 0 ∷ []) ∷ (5 ∷ 4 ∷ d8 ∷ d12 ∷ []) ∷ (1 ∷ 1 ∷ 1 ∷ 0 ∷ [])
          ∷ rooms_again;
    }

-- the third copy taken back after three: right is 4 again, zeros where its strip, its entries and its bucket number were
unfoldable pub starred_freed : Case
starred_freed =
    record {
      got = called_bits (next_copies 3 ++ (withdraw 2 ∷ [])) (start_of case4 five_copies (lent_sized (rooms_sized 19 31 823) 5 31));
      want =
          (0 ∷ []) ∷ nothing 4 ∷ take 12 four_standing ∷ [] ∷ (2 ∷ 2 ∷ d4 ∷ 0 ∷ []) ∷ (1 ∷ 1 ∷ 0 ∷ 0 ∷ [])
          ∷ (plate_strips ++ nothing 7) ∷ nothing 7 ∷ (take 12 four_strips ++ nothing 19)
          ∷ nothing 1 ∷ (flat_map (λ b. 0 ∷ 1 ∷ []) (up_from 205 0) ++ nothing 413) ∷ nothing 1 ∷ nothing 5 ∷ nothing 5 ∷ nothing 31 ∷ [];
    }

-- the starred cases
unfoldable pub starred : List Case
starred =
    starred1 ∷ starred2 ∷ starred3 ∷ starred4 ∷ starred4_fill ∷ starred4_plan ∷ starred4_text ∷ starred5 ∷ starred5_calls ∷ starred6 ∷ starred7
    ∷ starred8 ∷ starred9 ∷ starred10 ∷ starred11 ∷ starred_gap ∷ starred_frame ∷ starred_back ∷ starred_freed ∷ []
