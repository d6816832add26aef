-- Document 02, W5: a batch as a list of next-copy calls, so that what is promised of lists of calls speaks of it. Definitions only. Assumes nothing.
use Rattle.std.specs.Prelude.{Result, Ok, Err, ℕ, zero, suc, true, false, List, [], ◌∷◌, ◌++◌, ltb, Float}
use Rattle.filling.specs.declared.Refusal.{Refusal}
use Rattle.numbers.specs.Numbers.{pos_zero}
use Rattle.filling.specs.declared.State.{State}
use Rattle.filling.specs.Rooms.{Rooms, zeros}
use Rattle.filling.specs.NextCopy.{next_copy_of}
use Rattle.filling.specs.Calls.{Call, next_copy, call_step}
use Rattle.batch.specs.NextCopies.{next_copies_of}

-- the calls that a batch makes: up to the first that is refused
unfoldable pub batch_calls : List ℕ → ℕ → State → Rooms → List Float → List Call
batch_calls bytes zero s w intervals = []
batch_calls bytes (suc n) s w intervals =
    let r = next_copy_of bytes s w intervals in
    next_copy intervals ∷ elim r.verdict [ Ok tt ↦ batch_calls bytes n r.state r.rooms r.intervals | Err k ↦ [] ]

-- the refusal, if the verdict is one
unfoldable pub refusal_in : Result (Unit {0}) Refusal → List (Result (Unit {0}) Refusal)
refusal_in (Ok tt) = []
refusal_in (Err k) = Err k ∷ []

-- ---- single calls and batches

-- a single call, or the next n copies with what they are lent
pub data Operation : Type 0 where
  single : Call → Operation
  several : ℕ → List Float → Operation

-- what is left after some of them
pub record Rest : Type 0 where
  pub state : State
  pub rooms : Rooms

-- after one: the definitions that the contracts cite
unfoldable pub after_operation : List ℕ → Operation → State → Rooms → Rest
after_operation bytes (single c) s w = let r = call_step bytes c s w in record { state = r.state; rooms = r.rooms }
after_operation bytes (several n intervals) s w = let q = next_copies_of bytes n s w intervals in record { state = q.state; rooms = q.rooms }

-- each given the state and rooms that the one before returned or left
unfoldable pub after_operations : List ℕ → List Operation → State → Rooms → Rest
after_operations bytes [] s w = record { state = s; rooms = w }
after_operations bytes (o ∷ os) s w = let a = after_operation bytes o s w in after_operations bytes os a.state a.rooms

-- the calls that one makes; a batch of more than 4,096 makes none
unfoldable pub operation_calls : List ℕ → Operation → State → Rooms → List Call
operation_calls bytes (single c) s w = c ∷ []
operation_calls bytes (several n intervals) s w = elim (ltb 4096 n) [ true ↦ [] | false ↦ batch_calls bytes n s w (zeros pos_zero intervals) ]

-- the calls that they make, in order
unfoldable pub operations_calls : List ℕ → List Operation → State → Rooms → List Call
operations_calls bytes [] s w = []
operations_calls bytes (o ∷ os) s w = let a = after_operation bytes o s w in operation_calls bytes o s w ++ operations_calls bytes os a.state a.rooms
