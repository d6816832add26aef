-- Document 02, W5, a stack in one call: the next n copies. Definitions only. Assumes nothing.
use Rattle.std.specs.Prelude.{Result, Ok, Err, ℕ, zero, suc, true, false, List, ltb, Float}
use Rattle.filling.specs.declared.Refusal.{Refusal}
use Rattle.numbers.specs.Numbers.{pos_zero}
use Rattle.bits.specs.declared.Refusal.TheVariants as Input
use Rattle.filling.specs.declared.State.{State}
use Rattle.filling.specs.declared.Refusal.TheVariants as Why
use Rattle.filling.specs.Rooms.{Rooms, zeros}
use Rattle.filling.specs.NextCopy.{next_copy_of}

-- "It answers how many copies it took, those without a place included. If one is refused, .. the answer gives that refusal too"; state and rooms after
pub record Batch : Type 0 where
  pub took : ℕ
  pub verdict : Result (Unit {0}) Refusal
  pub state : State
  pub rooms : Rooms
  pub intervals : List Float

-- none is taken, with this verdict
unfoldable pub none_taken : Result (Unit {0}) Refusal → State → Rooms → List Float → Batch
none_taken v s w intervals = record { took = 0; verdict = v; state = s; rooms = w; intervals = intervals }

-- one copy more, before those
unfoldable pub one_more : Batch → Batch
one_more q = record { took = suc q.took; verdict = q.verdict; state = q.state; rooms = q.rooms; intervals = q.intervals }

-- "The outcome equals n single calls, state, rooms and looks included. .. If one is refused, those before it remain"
unfoldable pub batch_from : List ℕ → ℕ → State → Rooms → List Float → Batch
batch_from bytes zero s w intervals = none_taken (Ok tt) s w intervals
batch_from bytes (suc n) s w intervals =
    let r = next_copy_of bytes s w intervals in
    elim r.verdict [
      | Ok tt ↦ one_more (batch_from bytes n r.state r.rooms r.intervals)
      | Err k ↦ none_taken (Err k) r.state r.rooms r.intervals
    ]

-- the public operation `next_copies`: "n up to 4,096"; "n = 0 answers 0, and n above 4,096 is refused with 6; both change nothing but the interval
-- room, left at zeros"
unfoldable pub next_copies_of : List ℕ → ℕ → State → Rooms → List Float → Batch
next_copies_of bytes n s w intervals =
    elim (ltb 4096 n) [
      | true ↦ none_taken (Err (Why.Job Input.CountOutOfRange)) s w (zeros pos_zero intervals)
      | false ↦ batch_from bytes n s w (zeros pos_zero intervals)
    ]
