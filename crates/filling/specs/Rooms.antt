-- Document 01, "What must change shape" and the tables: the lent rooms, and what is laid into them. Definitions only. Assumes nothing.
use Rattle.std.specs.Prelude.{ℕ, ◌/◌, List, ◌++◌, length, drop, replicate, Float}
use Rattle.numbers.specs.Numbers.{pos_zero}

-- "lent slices of doubles, six to a strip; buckets become entry rooms": "rooms of .. strips each (shapes, sheet, placed), .. entries each (sheet, placed)";
-- document 02, W3: the bucket numbers of sheet and placed strips, "beside the doubles in a lent room of 16-bit numbers"
pub record Rooms : Type 0 where
  pub shapes : List Float
  pub sheet : List Float
  pub placed : List Float
  pub sheet_entries : List ℕ
  pub placed_entries : List ℕ
  pub sheet_firsts : List ℕ
  pub placed_firsts : List ℕ

-- ", 4,096 intervals and 4,096 positions": all that a whole plan is lent
pub record Lent : Type 0 where
  pub rooms : Rooms
  pub intervals : List Float
  pub positions : List Float

-- the rooms of strips, entries and bucket numbers with these contents
abbrev pub rooms_of : List Float → List Float → List Float → List ℕ → List ℕ → List ℕ → List ℕ → Rooms
rooms_of shapes sheet placed sheet_entries placed_entries sheet_firsts placed_firsts =
    record {
      shapes = shapes;
      sheet = sheet;
      placed = placed;
      sheet_entries = sheet_entries;
      placed_entries = placed_entries;
      sheet_firsts = sheet_firsts;
      placed_firsts = placed_firsts;
    }

-- all nine rooms with these contents
abbrev pub lent_of : List Float → List Float → List Float → List ℕ → List ℕ → List ℕ → List ℕ → List Float → List Float → Lent
lent_of shapes sheet placed sheet_entries placed_entries sheet_firsts placed_firsts intervals positions =
    record {
      rooms = rooms_of shapes sheet placed sheet_entries placed_entries sheet_firsts placed_firsts;
      intervals = intervals;
      positions = positions;
    }

-- an interval is two doubles, a position six: kind, copy, orientation, x, y, gap
abbrev pub interval_capacity : List Float → ℕ
interval_capacity room = length room / 2

-- how many positions a room holds
abbrev pub position_capacity : List Float → ℕ
position_capacity room = length room / 6

-- the room with xs at its beginning, the rest as it was
unfoldable pub laid {ℓ} : {A : Type ℓ} → List A → List A → List A
laid xs room = xs ++ drop (length xs) room

-- "zeros every lent room": every slot of it, those of a remainder too
unfoldable pub zeros {ℓ} : {A : Type ℓ} → A → List A → List A
zeros z room = replicate (length room) z

-- "zeros every lent room": the rooms of strips, entries and bucket numbers
unfoldable pub zero_rooms : Rooms → Rooms
zero_rooms w =
    record {
      shapes = zeros pos_zero w.shapes;
      sheet = zeros pos_zero w.sheet;
      placed = zeros pos_zero w.placed;
      sheet_entries = zeros 0 w.sheet_entries;
      placed_entries = zeros 0 w.placed_entries;
      sheet_firsts = zeros 0 w.sheet_firsts;
      placed_firsts = zeros 0 w.placed_firsts;
    }

-- "A refused whole plan .. zeros every lent room; an accepted one leaves its positions, with zeros after them and in the work rooms."
unfoldable pub only_positions : Lent → List Float → Lent
only_positions l ps =
    record { rooms = zero_rooms l.rooms; intervals = zeros pos_zero l.intervals; positions = laid ps (zeros pos_zero l.positions) }
