-- Document 01, "Refused because of the input" and "Refused because of the state": the numbers. Definitions only. Assumes nothing.
use Rattle.std.specs.Prelude.{Result, Ok, Err, ℕ, Bool, true, false}
use Rattle.bits.specs.Reading as Reading
use Rattle.index.specs.declared.Overrun.{Overrun}
use Rattle.index.specs.declared.Overrun.TheVariants as Room
use Rattle.filling.specs.declared.Refusal.{Refusal}
use Rattle.filling.specs.declared.Refusal.TheVariants.{Job, MissingShape, WrongOrder, StripRoom, EntryRoom, IntervalRoom, OrderUsedUp, NotStanding}
use Rattle.filling.specs.declared.Refusal.TheVariants.{TooManyOfKind, OutsideRange, InTheWay, PositionRoom, Inconsistent}

-- the tables' numbers
unfoldable pub number_of : Refusal → ℕ
-- 1 to 8
number_of (Job k) = Reading.job_refusal_number k
-- "a kind or orientation asked for that the job lacks"
number_of MissingShape = 9
-- "a given order is not a rearrangement of the job's copies"
number_of WrongOrder = 10
-- "strips to be stored exceed the lent strip room"
number_of StripRoom = 20
-- "bucket entries exceed their room"
number_of EntryRoom = 21
-- "a look's counted intervals exceed their room"
number_of IntervalRoom = 22
-- "next copy asked for, order used up"
number_of OrderUsedUp = 23
-- document 02, W4: "a copy that is not standing"
number_of NotStanding = 24
-- document 02, W6: "25 for too many copies"
number_of TooManyOfKind = 25
-- "26 outside the range"
number_of OutsideRange = 26
-- "27 in the way"
number_of InTheWay = 27
-- "the position room holds fewer copies than the job has"
number_of PositionRoom = 30
-- "a single step's state and rooms disagree"
number_of Inconsistent = 31

-- 20, 21 and 22 by the room that is overrun
abbrev pub refusal_of : Overrun → Refusal
refusal_of Room.StripRoom = StripRoom
refusal_of Room.EntryRoom = EntryRoom
refusal_of Room.IntervalRoom = IntervalRoom

-- a call's number, 0 for one that is not refused
unfoldable pub verdict_number : Result (Unit {0}) Refusal → ℕ
verdict_number (Ok tt) = 0
verdict_number (Err r) = number_of r

-- whether a call was refused
unfoldable pub is_refused : Result (Unit {0}) Refusal → Bool
is_refused (Ok tt) = false
is_refused (Err r) = true

-- "In a filling the first met is given": r where the test holds, else what is met later
unfoldable pub refuse_if : Bool → Refusal → Result (Unit {0}) Refusal → Result (Unit {0}) Refusal
refuse_if t r later = elim t [ true ↦ Err r | false ↦ later ]
