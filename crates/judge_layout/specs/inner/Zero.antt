-- For inner functions' contracts only: rooms that are all zero. Definitions only. Assumes nothing.
use Rattle.std.specs.Prelude.{ℕ, List, [], Float}
use Rattle.filling.specs.Rooms.{Rooms, Lent}
use Rattle.report.specs.readied.inner.Zeroed.{Zeroed}

-- rooms alone: a whole plan's without intervals and positions
abbrev pub rooms_alone : Rooms → Lent
rooms_alone w = record { rooms = w; intervals = []; positions = [] }

-- the rooms are those that were lent, all zero
abbrev pub ZeroRooms : Rooms → List Float → List Float → List Float → List ℕ → List ℕ → List ℕ → List ℕ → Type 0
ZeroRooms w shapes sheet placed sheet_entries placed_entries sheet_firsts placed_firsts =
    Zeroed (rooms_alone w) shapes sheet placed sheet_entries placed_entries [] [] sheet_firsts placed_firsts
