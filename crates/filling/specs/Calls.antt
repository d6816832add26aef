-- Demand 3 and document 02, W4: a list of next copies and withdrawals after a start, what its state says, and what the plain planner says.
-- Definitions only. Assumes nothing.
use Rattle.std.specs.Prelude.{Result, ℕ, Bool, List, [], ◌∷◌, map, Float}
use Rattle.filling.specs.declared.Refusal.{Refusal}
use Rattle.job.specs.Jobs.{Job}
use Rattle.filling.specs.declared.State.{State}
use Rattle.filling.specs.Refusals.{is_refused}
use Rattle.filling.specs.Shapes.{Planner, planner_of, Copy, Standing}
use Rattle.filling.specs.Rooms.{Rooms}
use Rattle.filling.specs.State.{standing_of, without_of}
use Rattle.filling.specs.NextCopy.{Step, next_copy_of}
use Rattle.filling.specs.Withdraw.{Reply, withdraw_of}
use Rattle.filling.specs.Accounts.{look_counts_of}
use Rattle.filling.specs.Plain.{Request, take_next, take_back, Plain, plain_planner, plain_look_counts}

-- a call: the next copy, with what it alone is lent, "whatever interval room"; or the withdrawal of the copy at a place of the order
pub data Call : Type 0 where
  next_copy : List Float → Call
  withdraw : ℕ → Call

-- what it asks for
unfoldable pub request_of : Call → Request
request_of (next_copy intervals) = take_next
request_of (withdraw n) = take_back n

-- what is left after some calls, and what each of them answered
pub record After : Type 0 where
  pub verdicts : List (Result (Unit {0}) Refusal)
  pub state : State
  pub rooms : Rooms

-- what a next copy answers and leaves, but for its interval room
unfoldable pub step_reply : Step → Reply
step_reply r = record { verdict = r.verdict; state = r.state; rooms = r.rooms }

-- one call: the very definitions that the contracts of next copy and withdrawal cite
unfoldable pub call_step : List ℕ → Call → State → Rooms → Reply
call_step bytes (next_copy intervals) s w = step_reply (next_copy_of bytes s w intervals)
call_step bytes (withdraw n) s w = withdraw_of bytes s w n

-- "each given the same job, whatever interval room, and the state, strips and entries that the call before returned or left"
unfoldable pub after_calls : List ℕ → List Call → State → Rooms → After
after_calls bytes [] s w = record { verdicts = []; state = s; rooms = w }
after_calls bytes (c ∷ cs) s w =
    let r = call_step bytes c s w in
    let a = after_calls bytes cs r.state r.rooms in
    record { verdicts = r.verdict ∷ a.verdicts; state = a.state; rooms = a.rooms }

-- "whether each call was refused"
unfoldable pub refusals : List (Result (Unit {0}) Refusal) → List Bool
refusals vs = map is_refused vs

-- what demand 3 compares: "the copies standing, with orientation, x and y, and those without a place", and "each orientation's look count"
pub record Outcome : Type 0 where
  pub standing : List Standing
  pub without : List Copy
  pub look_counts : List (List ℕ)

-- what a state says
unfoldable pub state_outcome : Job → State → Outcome
state_outcome j s = record { standing = standing_of s; without = without_of s; look_counts = look_counts_of j s }

-- "searches and finds the plain planner's"
unfoldable pub plain_outcome : Planner → Plain → Outcome
plain_outcome p q = record { standing = q.standing; without = q.without; look_counts = plain_look_counts p p.shapes q.searches }

-- the plain planner, "fed job, order and whether each call was refused", and what each asked for
unfoldable pub plain_after : Job → List ℕ → List Request → List Bool → Outcome
plain_after j order asked refused = let p = planner_of j in plain_outcome p (plain_planner p order asked refused)
