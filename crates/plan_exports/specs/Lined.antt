-- What C is told of a judged layout. Definitions only. Assumes nothing.
use Rattle.std.specs.Prelude.{ℕ, List, set}
use Rattle.filling.specs.Refusals.{verdict_number}
use Rattle.filling.specs.Rooms.{Rooms}
use Rattle.layouts.specs.Layouts.{Judged, layout_of}

-- a number, the room of the line's number and the rooms after
pub record LinedRooms : Type 0 where
  pub number : ℕ
  pub line : List ℕ
  pub rooms : Rooms

-- the tables' number of a refused layout, 0 of an accepted one; the line's number in the first place
unfoldable pub lined_reply : List ℕ → Judged → LinedRooms
lined_reply line r =
    record { number = verdict_number r.judgement.verdict; line = set line 0 r.judgement.line; rooms = r.rooms }

-- of the judged layout
unfoldable pub lined_layout : List ℕ → List ℕ → List ℕ → Rooms → LinedRooms
lined_layout bytes given line w = lined_reply line (layout_of bytes given w)
