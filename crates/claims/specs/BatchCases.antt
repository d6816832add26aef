-- Document 02, W5: case 4 of document 01's "Sheets tried by hand", its copies called for at once. Definitions only. Assumes nothing.
use Rattle.std.specs.Prelude.{ℕ, List, [], ◌∷◌, ◌++◌, take}
use Rattle.filling.specs.Refusals.{verdict_number}
use Rattle.filling.specs.Start.{Start, start_of}
use Rattle.nesting.specs.Case4.{case4}
use Rattle.nesting.specs.Sheets.{bits, room, rooms_sized, lent_sized, rooms_bits}
use Rattle.nesting.specs.Cases.{Case, state_bits, five_copies, nothing, four_standing, rooms_left}
use Rattle.batch.specs.NextCopies.{Batch, next_copies_of}

-- copies taken and the verdict's number; state, rooms and interval room after
unfoldable pub batch_bits : Batch → List (List ℕ)
batch_bits q = (q.took ∷ verdict_number q.verdict ∷ []) ∷ (state_bits q.state ++ (rooms_bits q.rooms ++ (bits q.intervals ∷ [])))

-- the next n copies after a start
unfoldable pub asked_bits : ℕ → Start → List (List ℕ)
asked_bits n r = batch_bits (next_copies_of case4 n r.state r.lent.rooms (room 4))

-- the same after the five copies of case 4: four stand and one has no place, as after single calls
unfoldable pub all_taken : List (List ℕ)
all_taken =
    four_standing ∷ (4 ∷ 0 ∷ []) ∷ (5 ∷ 4 ∷ 0x4020000000000000 ∷ 0x4028000000000000 ∷ []) ∷ (0 ∷ 1 ∷ 11 ∷ 0 ∷ []) ∷ (take 7 rooms_left ++ (nothing 4 ∷ []))

-- five are called for: all are taken, the one without a place included
unfoldable pub batch_five : Case
batch_five = record { got = asked_bits 5 (start_of case4 five_copies (lent_sized (rooms_sized 19 31 823) 5 31)); want = (5 ∷ 0 ∷ []) ∷ all_taken }

-- six are called for: the sixth is refused with 23, those before it remain
unfoldable pub batch_six : Case
batch_six = record { got = asked_bits 6 (start_of case4 five_copies (lent_sized (rooms_sized 19 31 823) 5 31)); want = (5 ∷ 23 ∷ []) ∷ all_taken }
