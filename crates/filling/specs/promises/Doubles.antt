-- Demand 1, "with no number left non-finite": the doubles of a reply and of the lent rooms. Definitions only. Assumes nothing.
use Rattle.std.specs.Prelude.{zero, suc, Bool, true, false, List, [], ◌∷◌, ◌++◌, Float}
use Rattle.std.specs.Float.{nan, inf, fin}
use Rattle.strips.specs.declared.Rect.{Rect}
use Rattle.filling.specs.declared.State.{State}
use Rattle.filling.specs.declared.Plan.{Plan}
use Rattle.filling.specs.Rooms.{Rooms, Lent}

-- finite, and not minus zero
unfoldable pub is_number : Float → Bool
is_number nan = false
is_number (inf s) = false
is_number (fin false m e) = true
is_number (fin true zero e) = false
is_number (fin true (suc m) e) = true

-- of a rectangle: b0 to b3
unfoldable pub rect_doubles : Rect → List Float
rect_doubles b = b.left ∷ b.bottom ∷ b.right ∷ b.top ∷ []

-- of a state
unfoldable pub state_doubles : State → List Float
state_doubles s =
    s.tables.resolution ∷ s.layout.right ∷ s.layout.unplaced_area
    ∷ (rect_doubles s.tables.sheet_bounds ++ (s.tables.inset_bounds ++ (s.layout.x ++ (s.layout.y ++ s.layout.gap))))

-- of the strip rooms; entries are whole numbers
unfoldable pub room_doubles : Rooms → List Float
room_doubles w = w.shapes ++ (w.sheet ++ w.placed)

-- of all rooms that are lent
unfoldable pub lent_doubles : Lent → List Float
lent_doubles l = room_doubles l.rooms ++ (l.intervals ++ l.positions)

-- of a plan
unfoldable pub plan_doubles : Plan → List Float
plan_doubles p = p.right ∷ p.unplaced_area ∷ p.offcut ∷ []
