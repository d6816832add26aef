-- For inner functions' contracts only: positions in their room, six doubles each, back on the sheet. Definitions only. Assumes nothing.
use Rattle.std.specs.Prelude.{ℕ, zero, suc, ◌+◌, ◌*◌, List, get_or, set, Float}
use Rattle.std.specs.Float.{nan}
use Rattle.frames.specs.declared.Frame.{Frame}
use Rattle.frames.specs.declared.Point.{Point}
use Rattle.frames.specs.Frames.{from}

-- where position i lies on the sheet
unfoldable pub place_at : Frame → List Float → ℕ → Point
place_at f room i = from f (record { x = get_or room (6 * i + 3) nan; y = get_or room (6 * i + 4) nan })

-- position i goes back
unfoldable pub back_at : Frame → List Float → ℕ → List Float
back_at f room i = set (set room (6 * i + 3) (place_at f room i).x) (6 * i + 4) (place_at f room i).y

-- the first n of them
unfoldable pub back_to : Frame → List Float → ℕ → List Float
back_to f room zero = room
back_to f room (suc n) = back_at f (back_to f room n) n
