-- Document 01, "Sheets tried by hand": the sheets, parts, jobs and lent rooms of the cases. Definitions only. Assumes nothing.
use Rattle.std.specs.Prelude.{ℕ, ◌/◌, false, List, [], ◌∷◌, ◌++◌, map, replicate, pos, Float}
use Rattle.std.specs.Float.{binary64}
use Rattle.std.specs.Float.Ieee.{to_bits}
use Rattle.numbers.specs.Numbers.{from_int}
use Rattle.kinds.specs.sets.Sets.{Set}
use Rattle.kinds.specs.Kinds.{Orientation}
use Rattle.frames.specs.declared.Frame.{Frame}
use Rattle.frames.specs.Frames.{lower_left}
use Rattle.job.specs.Jobs.{Job}
use Rattle.filling.specs.Rooms.{Rooms, Lent}

-- "rectangles from (0,0), counter-clockwise"
unfoldable pub rectangle : ℕ → ℕ → Set
rectangle a b = record { points = map from_int (0 ∷ 0 ∷ a ∷ 0 ∷ a ∷ b ∷ 0 ∷ b ∷ []); ends = 4 ∷ [] }

-- "Loop (0,0),(4,0),(0,4)"
unfoldable pub triangle : Set
triangle = record { points = map from_int (0 ∷ 0 ∷ 4 ∷ 0 ∷ 0 ∷ 4 ∷ []); ends = 3 ∷ [] }

-- "A 4 × 3 rectangle drawn clockwise"
unfoldable pub clockwise : Set
clockwise = record { points = map from_int (0 ∷ 0 ∷ 0 ∷ 3 ∷ 4 ∷ 3 ∷ 4 ∷ 0 ∷ []); ends = 4 ∷ [] }

-- "apart and inset sets equal"
unfoldable pub both : Set → Orientation
both s = record { apart = s; inset = s }

-- "Sheet 10 × 6": n copies of one kind, in a frame
unfoldable pub job_in : ℕ → Frame → ℕ → ℕ → ℕ → ℕ → List Set → Job
job_in version f resolution n area rounds os =
    record {
      header = record { version = version; corner = f.corner; axis = f.axis; kinds = 1; rounds = rounds; seed = 0; resolution = from_int resolution };
      sheet = rectangle 10 6;
      kinds = record { quantity = n; fill = false; priority = pos 0; area = from_int area; orientations = map both os } ∷ [];
      copies = n;
    }

-- at the lower left
unfoldable pub job_of : ℕ → ℕ → ℕ → ℕ → List Set → Job
job_of resolution n area rounds os = job_in 1 lower_left resolution n area rounds os

-- ---- rooms, with something in them, and lengths that are no multiple of a record

-- doubles by their bits
unfoldable pub bits : List Float → List ℕ
bits l = map (to_bits binary64) l

-- a room of n sevens
unfoldable pub room : ℕ → List Float
room n = replicate n (from_int 7)

-- rooms of strips, entries and bucket numbers, of these as many as strips
unfoldable pub rooms_sized : ℕ → ℕ → ℕ → Rooms
rooms_sized shapes placed entries =
    record {
      shapes = room shapes;
      sheet = room 7;
      placed = room placed;
      sheet_entries = 9 ∷ [];
      placed_entries = replicate entries 9;
      sheet_firsts = 9 ∷ [];
      placed_firsts = replicate (placed / 6) 9;
    }

-- all nine rooms
unfoldable pub lent_sized : Rooms → ℕ → ℕ → Lent
lent_sized w intervals positions = record { rooms = w; intervals = room intervals; positions = room positions }

-- more than the cases need
unfoldable pub ample : Lent
ample = lent_sized (rooms_sized 25 31 1100) 9 31

-- what lies in the rooms of strips, entries and bucket numbers
unfoldable pub rooms_bits : Rooms → List (List ℕ)
rooms_bits w =
    bits w.shapes ∷ bits w.sheet ∷ bits w.placed ∷ w.sheet_entries ∷ w.placed_entries ∷ w.sheet_firsts ∷ w.placed_firsts ∷ []

-- what lies in all nine rooms
unfoldable pub lent_bits : Lent → List (List ℕ)
lent_bits l = rooms_bits l.rooms ++ (bits l.intervals ∷ bits l.positions ∷ [])
