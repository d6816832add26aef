-- What is left, as the list of its doubles: each is finite and not minus zero. Assumes nothing.
use Prim.Native.Nat.{zero, suc}
use mathlib.Core.Path.{◌≡◌, refl}
use mathlib.Core.Bool.{true, false}
use mathlib.Core.List.{List, [], ◌∷◌, ◌++◌}
use lib.Ieee.{Float, nan, inf, fin}
use Rattle.numbers.proofs.Doubles.{Number}
use Rattle.slabs.proofs.Merging.{all_append}
use Rattle.strips.specs.declared.Rect.{Rect}
use Rattle.filling.specs.declared.State.{State}
use Rattle.filling.specs.declared.Plan.{Plan}
use Rattle.filling.specs.Rooms.{Rooms, Lent}
use Rattle.filling.specs.Consistent.{every}
use Rattle.filling.specs.promises.Doubles.{is_number, rect_doubles, state_doubles, room_doubles, lent_doubles, plan_doubles}
use Rattle.filling.proofs.promises.Numbers.{Numbers, RectNumbers, StateNumbers, RoomNumbers, LentNumbers}
use Rattle.filling.proofs.promises.Left.{PlanNumbers}

pub number_is : (x : Float) → Number x → is_number x ≡ true
unfolding is_number
number_is nan n = absurd n.is_finite
number_is (inf s) n = absurd n.is_finite
number_is (fin false m e) n = refl
number_is (fin true zero e) n = absurd n.plus
number_is (fin true (suc m) e) n = refl

numbers_are : (l : List Float) → Numbers l → every is_number l ≡ true
unfolding every
numbers_are [] h = refl
numbers_are (a ∷ l) h = rw (number_is a h.0, numbers_are l h.1)

rect_all : (b : Rect) → RectNumbers b → Numbers (rect_doubles b)
unfolding rect_doubles
rect_all b h = (h.left, (h.bottom, (h.right, (h.top, tt))))

room_all : (w : Rooms) → RoomNumbers w → Numbers (room_doubles w)
unfolding room_doubles
room_all w h = all_append Number w.shapes (w.sheet ++ w.placed) h.shapes (all_append Number w.sheet w.placed h.sheet h.placed)

pub state_doubles_lem : (s : State) → StateNumbers s → every is_number (state_doubles s) ≡ true
unfolding state_doubles
state_doubles_lem s h =
    let heights = all_append Number s.layout.y s.layout.gap h.ys h.gaps in
    let places = all_append Number s.layout.x (s.layout.y ++ s.layout.gap) h.xs heights in
    let insets = all_append Number s.tables.inset_bounds (s.layout.x ++ (s.layout.y ++ s.layout.gap)) h.inset_bounds places in
    let bounds =
    all_append Number (rect_doubles s.tables.sheet_bounds) (s.tables.inset_bounds ++ (s.layout.x ++ (s.layout.y ++ s.layout.gap)))
    (rect_all s.tables.sheet_bounds h.sheet_bounds) insets
    in
    numbers_are (state_doubles s) (h.resolution, (h.right, (h.unplaced_area, bounds)))

pub room_doubles_lem : (w : Rooms) → RoomNumbers w → every is_number (room_doubles w) ≡ true
room_doubles_lem w h = numbers_are (room_doubles w) (room_all w h)

pub lent_doubles_lem : (l : Lent) → LentNumbers l → every is_number (lent_doubles l) ≡ true
unfolding lent_doubles
lent_doubles_lem l h =
    numbers_are (lent_doubles l) (all_append Number (room_doubles l.rooms) (l.intervals ++ l.positions) (room_all l.rooms h.rooms)
    (all_append Number l.intervals l.positions h.intervals h.positions))

pub plan_doubles_lem : (p : Plan) → PlanNumbers p → every is_number (plan_doubles p) ≡ true
unfolding plan_doubles
plan_doubles_lem p h = numbers_are (plan_doubles p) (h.right, (h.unplaced_area, (h.offcut, tt)))
