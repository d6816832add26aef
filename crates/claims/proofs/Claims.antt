-- What the planner promises, each claim with its whole statement, in the words of specs/. Every proof is a citation. Assumes nothing.
-- That the code does what the definitions say stands in the contracts of the public operations: one equation each, for every input.
use Rattle.std.specs.Prelude.{Ok, Err}
use Prim.Native.Nat.{ℕ, ◌+◌, ◌*◌, ◌≤◌, ◌<◌}
use mathlib.Core.Path.{◌≡◌}
use mathlib.Core.Logic.{◌⊎◌}
use mathlib.Core.Bool.{true, false, not, ◌&&◌}
use mathlib.Core.List.{List, [], ◌∷◌, ◌++◌, map, Memᴰ}
use lib.ListN.{length, get_or, replicate}
use lib.Dec.{ltb}
use lib.Ieee.{Float, binary64, le, lt, of_bits}
use lib.Ieee.Scale.{finite}
use Rattle.numbers.specs.Numbers.{◌⊖◌, ◌⊘◌, from_int, plus_zero, pos_zero}
use Rattle.trapezoid.specs.Strip.{strip_at, capacity}
use Rattle.index.specs.declared.Interval.{Interval}
use Rattle.index.specs.Buckets.{bucket_in, standing_capacity}
use Rattle.look.specs.height.Smallest.{outside, next_bottom, height_of}
use Rattle.bits.specs.declared.Refusal as Input
use Rattle.bits.specs.declared.Refusal.TheVariants as Wrong
use Rattle.bits.specs.Bits.{field_at}
use Rattle.bits.specs.Reading.{ok, bad, bits}
use Rattle.bits.specs.Fields.{Field, count, Range, number}
use Rattle.job.specs.Jobs.{Job, a_job, frame_of, ended, framed_width, accepted, refused, read_job}
use Rattle.filling.specs.declared.State.{State}
use Rattle.filling.specs.declared.Refusal.{Refusal}
use Rattle.filling.specs.declared.Refusal.TheVariants as Why
use Rattle.filling.specs.Refusals.{number_of, verdict_number}
use Rattle.filling.specs.RefusalLines.{Line, first_met, given_lines, start_lines, step_lines, withdraw_lines, fill_lines}
use Rattle.filling.specs.Shapes.{Planner, planner_of, standing_strips}
use Rattle.filling.specs.Choice.{Choice}
use Rattle.filling.specs.Rooms.{Rooms, Lent, laid, zeros}
use Rattle.filling.specs.Order.{rearranged}
use Rattle.filling.specs.State.{planner_at, standing_of}
use Rattle.filling.specs.Consistent.{every, bounded, planner_fits, gaps_fit, sheet_index, sheet_strips_of, placed_strips_of, firsts_for, firsts_fit}
use Rattle.filling.specs.Consistent.{copies_fit, consistent}
use Rattle.filling.specs.Start.{start_verdict, no_start, good_start, start_job, start_of}
use Rattle.filling.specs.NextCopy.{new_strips, no_step, step_job, next_copy_of}
use Rattle.filling.specs.Withdraw.{right_of, no_withdrawal, withdraw_job, withdraw_of}
use Rattle.filling.specs.Plain.{take_next}
use Rattle.filling.specs.Accounts.{reach_of, not_below_zero, offcut_of}
use Rattle.filling.specs.Fill.{filled, fill_order, not_planned, planned_with, fill_job, fill_of}
use Rattle.filling.specs.Calls.{Call, request_of, after_calls, refusals, state_outcome, plain_after}
use Rattle.filling.specs.Reports.{Reports}
use Rattle.filling.proofs.Demand3 as Proved3
use Rattle.filling.proofs.Never31 as ProvedNever
use Rattle.filling.proofs.Refused as ProvedRefused
use Rattle.filling.proofs.RightFound as ProvedRight
use Rattle.filling.proofs.FirstBuckets as ProvedFirsts
use Rattle.filling.proofs.FirstsKept as KeptFirsts
use Rattle.filling.proofs.WithinBounds.{jobs_within}
use Rattle.nesting.specs.CopyOrder.{copy_order}
use Rattle.nesting.specs.Rounds.{Kept, kept, swap_search}
use Rattle.nesting.specs.Nest.{nest_verdict, nest_job, nest_of}
use Rattle.nesting.specs.RefusalLines.{nest_lines}
use Rattle.nesting.specs.Cases.{starred}
use Rattle.nesting.proofs.Cases as ProvedCases
use Rattle.copy_order.proofs.Rearranged.{accepted-rearranged}
use Rattle.filling.specs.promises.Ample.{Ample, AmpleIntervals, AmpleStart, AmpleCalls}
use Rattle.filling.specs.promises.Doubles.{is_number, state_doubles, room_doubles, lent_doubles, plan_doubles}
use Rattle.filling.proofs.promises.Suffice as ProvedSuffice
use Rattle.filling.proofs.promises.Left as ProvedLeft
use Rattle.filling.proofs.promises.Doubles.{state_doubles_lem, room_doubles_lem, lent_doubles_lem, plan_doubles_lem}
use Rattle.claims.specs.plan_promises.RefusalNumbers.{one_of}
use Rattle.claims.proofs.plan_promises.Demand1 as Proved1
use Rattle.claims.proofs.plan_promises.Refused as ProvedPlan
use Rattle.claims.proofs.plan_promises.Replies as ProvedReplies
use Rattle.claims.specs.JobNumbers.{job_within}
use Rattle.claims.proofs.Within.{job-within}
use Rattle.claims.specs.FramedJobs.{framed_job, planned_on_sheet}
use Rattle.claims.proofs.FramedPlan as ProvedFrames
use Rattle.claims.specs.LookNumbers.{is_finite, ends_finite}
use Rattle.claims.proofs.Gaps as ProvedGaps
use Rattle.claims.proofs.Copies as ProvedCopies
use Rattle.claims.proofs.ExactLines as ProvedLines
use Rattle.claims.proofs.Reader as ProvedReader
use Rattle.look.specs.declared.height.Look.TheVariants.{Free}

-- ---- Demand 1. "A job within document 01's limits gets a plan, or the refusal for the kind of lent room it overran. Every other job, and every call
-- ---- made at the wrong moment, is refused by its number in document 01, with no number left non-finite and the lent rooms left as stated there."

-- a job that is refused: its own number, 1 to 8, of every whole plan ("A filling in a given order and a start .. count as whole plans")
pub refused-job : (bytes order : List ℕ) (l : Lent) (k : Input.Refusal) → read_job bytes ≡ refused k
    → (((start_of bytes order l).verdict ≡ Err (Why.Job k))
    × ((fill_of bytes order l).verdict ≡ Err (Why.Job k))
    × ((nest_of bytes l).verdict ≡ Err (Why.Job k)))
    × (one_of (number_of (Why.Job k)) (1 ∷ 2 ∷ 3 ∷ 4 ∷ 5 ∷ 6 ∷ 7 ∷ 8 ∷ []) ≡ true)
refused-job bytes order l k e = (Proved1.refused-number bytes order l k e, Proved1.input_number k)

-- an accepted job's whole plan: a plan, or 20, 21, 22 or 30; a plan where the rooms suffice
pub demand-1_plan : (bytes : List ℕ) (l : Lent) (j : Job) → read_job bytes ≡ accepted j
    → (one_of (verdict_number (nest_of bytes l).verdict) (0 ∷ 20 ∷ 21 ∷ 22 ∷ 30 ∷ []) ≡ true)
    × ((m n : ℕ) → AmpleStart j l → Ample j m n l.rooms → AmpleIntervals j m n l.intervals → (nest_of bytes l).verdict ≡ Ok tt)
demand-1_plan bytes l j e = (Proved1.nest_number bytes l j e, Proved1.nest_suffices bytes l j e)

-- its filling in a given order: a plan, or 10, 20, 21, 22 or 30; a plan where the order is the job's and the rooms suffice
pub demand-1_filling : (bytes order : List ℕ) (l : Lent) (j : Job) → read_job bytes ≡ accepted j
    → (one_of (verdict_number (fill_of bytes order l).verdict) (0 ∷ 10 ∷ 20 ∷ 21 ∷ 22 ∷ 30 ∷ []) ≡ true)
    × (rearranged j order ≡ true
    → (m n : ℕ) → AmpleStart j l → Ample j m n l.rooms → AmpleIntervals j m n l.intervals → (fill_of bytes order l).verdict ≡ Ok tt)
demand-1_filling bytes order l j e =
    (Proved1.fill-number bytes order l j e, λ r m n f a. (ProvedSuffice.rooms_suffice bytes j e order r m n l f a).2)

-- its start: a state, or 10, 20, 21 or 30; a state where the order is the job's and the rooms suffice
pub demand-1_start : (bytes order : List ℕ) (l : Lent) (j : Job) → read_job bytes ≡ accepted j
    → (one_of (verdict_number (start_of bytes order l).verdict) (0 ∷ 10 ∷ 20 ∷ 21 ∷ 30 ∷ []) ≡ true)
    × (rearranged j order ≡ true → AmpleStart j l → (start_of bytes order l).verdict ≡ Ok tt)
demand-1_start bytes order l j e = (Proved1.start-number bytes order l j e, Proved1.start_suffices bytes order l j e)

-- after it every call up to the last copy is accepted, where the rooms suffice
pub rooms_suffice : (bytes order : List ℕ) (l : Lent) (j : Job) → read_job bytes ≡ accepted j → rearranged j order ≡ true
    → (m n : ℕ) → AmpleStart j l → Ample j m n l.rooms → (cs : List Call) → AmpleCalls j m n cs → length cs ≤ j.copies
    → (after_calls bytes cs (start_of bytes order l).state (start_of bytes order l).lent.rooms).verdicts ≡ replicate (length cs) (Ok tt)
rooms_suffice bytes order l j e r m n f a = (ProvedSuffice.rooms_suffice bytes j e order r m n l f a).1

-- ---- "A call is refused exactly where a line of the tables holds for it, with the number first met"

pub met_exactly : (ls : List Line)
    → (first_met ls ≡ Ok tt → every (λ (x : Line). not x.holds) ls ≡ true) × (every (λ (x : Line). not x.holds) ls ≡ true → first_met ls ≡ Ok tt)
met_exactly = ProvedLines.met_exactly

pub start-refused : (bytes order : List ℕ) (l : Lent) → (start_of bytes order l).verdict ≡ first_met (given_lines (read_job bytes) (λ j. start_lines j order l))
start-refused = ProvedRefused.start-refused_where

pub filling_refused : (bytes order : List ℕ) (l : Lent) → (fill_of bytes order l).verdict ≡ first_met (given_lines (read_job bytes) (λ j. fill_lines j order l))
filling_refused = ProvedRefused.fill-refused_where

pub plan-refused : (bytes : List ℕ) (l : Lent) → (nest_of bytes l).verdict ≡ first_met (given_lines (read_job bytes) (λ j. nest_lines j l))
plan-refused = ProvedPlan.nest_refused_where

pub next-copy-refused : (bytes : List ℕ) (s : State) (w : Rooms) (iv : List Float)
    → (next_copy_of bytes s w iv).verdict ≡ first_met (given_lines (read_job bytes) (λ j. step_lines j s w iv))
next-copy-refused = ProvedRefused.next-copy-refused

-- document 02, W4: "It refuses with 31 .., then a copy that is not standing with 24"
pub withdraw-refused : (bytes : List ℕ) (s : State) (w : Rooms) (n : ℕ)
    → (withdraw_of bytes s w n).verdict ≡ first_met (given_lines (read_job bytes) (λ j. withdraw_lines j s w n))
withdraw-refused = ProvedRefused.withdraw-refused

-- after an accepted start no call is refused with 31, whatever the list of next copies and withdrawals and whatever interval rooms
pub never-31 : (bytes order : List ℕ) (l : Lent) → (start_of bytes order l).verdict ≡ Ok tt → (calls : List Call)
    → Memᴰ (Err Why.Inconsistent) (after_calls bytes calls (start_of bytes order l).state (start_of bytes order l).lent.rooms).verdicts → ⊥
never-31 = ProvedNever.never-31

-- ---- the lent rooms

-- "A refused whole plan returns only the number and zeros every lent room"; "a start (it leaves strips and entries for single steps)"
pub start_leaves : (bytes order : List ℕ) (l : Lent)
    → ((k : Refusal) → (start_of bytes order l).verdict ≡ Err k → start_of bytes order l ≡ no_start k l)
    × ((start_of bytes order l).verdict ≡ Ok tt → (j : Job) × (read_job bytes ≡ accepted j) × (start_of bytes order l ≡ good_start (planner_of j) order l))
start_leaves = ProvedReplies.start_replies

-- "an accepted one leaves its positions, with zeros after them and in the work rooms": the filling's, or the kept filling's
pub filling_leaves : (bytes order : List ℕ) (l : Lent)
    → ((k : Refusal) → (fill_of bytes order l).verdict ≡ Err k → fill_of bytes order l ≡ not_planned k l)
    × ((fill_of bytes order l).verdict ≡ Ok tt
    → (j : Job) × (s : State) × (read_job bytes ≡ accepted j) × (fill_order j l order ≡ filled s) × (fill_of bytes order l ≡ planned_with j l s 0))
filling_leaves = ProvedReplies.fill_replies

pub plan_leaves : (bytes : List ℕ) (l : Lent)
    → ((k : Refusal) → (nest_of bytes l).verdict ≡ Err k → nest_of bytes l ≡ not_planned k l)
    × ((nest_of bytes l).verdict ≡ Ok tt
    → (j : Job) × (q : Kept) × (read_job bytes ≡ accepted j) × (swap_search j l ≡ kept q) × (nest_of bytes l ≡ planned_with j l q.state q.improvements))
plan_leaves = ProvedReplies.nest_replies

-- "A refused single step returns state, strip and entry rooms unchanged; every single step leaves zeros in the interval room."
pub next-copy_leaves : (bytes : List ℕ) (s : State) (w : Rooms) (iv : List Float)
    → ((next_copy_of bytes s w iv).intervals ≡ zeros pos_zero iv)
    × ((k : Refusal) → (next_copy_of bytes s w iv).verdict ≡ Err k → ((next_copy_of bytes s w iv).state ≡ s) × ((next_copy_of bytes s w iv).rooms ≡ w))
next-copy_leaves = ProvedRefused.next-copy_leaves

-- document 02, W4: a refused withdrawal leaves "state and rooms unchanged"
pub withdraw-rests : (bytes : List ℕ) (s : State) (w : Rooms) (n : ℕ) (k : Refusal) → (withdraw_of bytes s w n).verdict ≡ Err k
    → ((withdraw_of bytes s w n).state ≡ s) × ((withdraw_of bytes s w n).rooms ≡ w)
withdraw-rests = ProvedRefused.withdraw-rests

-- ---- "with no number left non-finite", and none minus zero; of states that no start gave, `step-makes` of step_promises

pub start-numbers : (bytes order : List ℕ) (l : Lent)
    → (every is_number (state_doubles (start_of bytes order l).state) ≡ true) × (every is_number (lent_doubles (start_of bytes order l).lent) ≡ true)
start-numbers bytes order l = let h = ProvedLeft.start-numbers bytes order l in (state_doubles_lem _ h.0, lent_doubles_lem _ h.1)

pub calls_numbers : (bytes order : List ℕ) (l : Lent) (j : Job) → read_job bytes ≡ accepted j → (start_of bytes order l).verdict ≡ Ok tt → (calls : List Call)
    → let r = after_calls bytes calls (start_of bytes order l).state (start_of bytes order l).lent.rooms in
    (every is_number (state_doubles r.state) ≡ true) × (every is_number (room_doubles r.rooms) ≡ true)
calls_numbers bytes order l j e v calls =
    let h = ProvedLeft.calls_numbers bytes order l j e v calls in (state_doubles_lem _ h.0, room_doubles_lem _ h.1)

-- document 02, W2, of the offcut: "zero if that is below zero"
pub filling_numbers : (bytes order : List ℕ) (l : Lent)
    → (every is_number (plan_doubles (fill_of bytes order l).plan) ≡ true) × (every is_number (lent_doubles (fill_of bytes order l).lent) ≡ true)
    × (le pos_zero (fill_of bytes order l).plan.offcut ≡ true)
filling_numbers bytes order l =
    let h = ProvedLeft.fill-numbers bytes order l in (plan_doubles_lem _ h.0, lent_doubles_lem _ h.1, h.0.offcut_not_below)

pub plan-numbers : (bytes : List ℕ) (l : Lent)
    → (every is_number (plan_doubles (nest_of bytes l).plan) ≡ true) × (every is_number (lent_doubles (nest_of bytes l).lent) ≡ true)
    × (le pos_zero (nest_of bytes l).plan.offcut ≡ true)
plan-numbers bytes l = let h = Proved1.nest_numbers bytes l in (plan_doubles_lem _ h.0, lent_doubles_lem _ h.1, h.0.offcut_not_below)

-- the offcut is at most what right leaves, and begins where the spacing of every placed copy has ended: "the larger of right and the largest x1 of a
-- placed apart strip"
pub filling_offcut : (bytes order : List ℕ) (l : Lent) (j : Job) → read_job bytes ≡ accepted j → start_verdict j order l ≡ Ok tt
    → (s : State) → fill_order j l order ≡ filled s
    → let strips = standing_strips (planner_of j) (standing_of s) in
    (le (offcut_of (planner_of j) s) (not_below_zero (s.tables.sheet_bounds.right ⊖ s.layout.right)) ≡ true)
    × ((i : ℕ) → i < capacity strips → le (strip_at strips i).x1 (reach_of s.layout.right strips) ≡ true)
filling_offcut bytes order l j e v s d = let h = ProvedLeft.fill-offcut bytes order l j e v s d in (h.not_above, h.covers)

pub plan-offcut : (bytes : List ℕ) (l : Lent) (j : Job) → read_job bytes ≡ accepted j → nest_verdict j l ≡ Ok tt
    → (q : Kept) → swap_search j l ≡ kept q
    → let strips = standing_strips (planner_of j) (standing_of q.state) in
    (le (offcut_of (planner_of j) q.state) (not_below_zero (q.state.tables.sheet_bounds.right ⊖ q.state.layout.right)) ≡ true)
    × ((i : ℕ) → i < capacity strips → le (strip_at strips i).x1 (reach_of q.state.layout.right strips) ≡ true)
plan-offcut bytes l j e v q d = let h = Proved1.nest_offcut bytes j e l v q d in (h.not_above, h.covers)

-- ---- Demand 3. "take every list of next-copy calls, refused ones included .. After it the copies standing, with orientation, x and y, and those without
-- ---- a place are exactly those of document 01's plain planner .. Each orientation's look count equals its last found column plus its finds .. For one
-- ---- filling in a given order that is not refused, all this holds as after one call for every copy of that order, none refused." Gaps (W7) are compared too.
-- ---- Document 02, W4: "Demand 3 then takes lists of both calls, and the plain planner moves an accepted withdrawal's copy from those standing to the end
-- ---- of those to come and forgets all searches and finds; the look equation speaks of those since."
pub demand-3 : (bytes order : List ℕ) (l : Lent) (j : Job) → read_job bytes ≡ accepted j
    → ((start_of bytes order l).verdict ≡ Ok tt
    → (calls : List Call)
    → let r = after_calls bytes calls (start_of bytes order l).state (start_of bytes order l).lent.rooms in
    state_outcome j r.state ≡ plain_after j order (map request_of calls) (refusals r.verdicts))
    × ((fill_of bytes order l).verdict ≡ Ok tt
    → Reports j l (fill_of bytes order l) (plain_after j order (replicate (length order) take_next) (replicate (length order) false)))
demand-3 = Proved3.demand-3

-- ---- Document 02, W4

-- "31, which now covers a standing copy with an orientation its kind lacks, a position .., or strips that are not its orientation's moved to its position":
-- one test for both calls, of every accepted job, state and rooms unchanged
pub copies-refused : (bytes : List ℕ) (j : Job) → read_job bytes ≡ accepted j → (s : State) (w : Rooms)
    → copies_fit j (planner_at j s.tables w) (standing_of s) (placed_strips_of s w) ≡ false
    → ((iv : List Float) → next_copy_of bytes s w iv ≡ no_step Why.Inconsistent s w iv) × ((n : ℕ) → withdraw_of bytes s w n ≡ no_withdrawal Why.Inconsistent s w)
copies-refused bytes j e s w f = (ProvedCopies.step-refused j s w f bytes e, ProvedCopies.back-refused j s w f bytes e)

-- "right is found anew from the standing copies": after an accepted start, whatever the calls, it is the largest x + b2 of the standing copies, from s0
pub right-found : (bytes order : List ℕ) (l : Lent) (j : Job) → read_job bytes ≡ accepted j → (start_of bytes order l).verdict ≡ Ok tt → (calls : List Call)
    → let s = (after_calls bytes calls (start_of bytes order l).state (start_of bytes order l).lent.rooms).state in
    s.layout.right ≡ right_of (planner_of j) (planner_of j).bounds.left (standing_of s)
right-found = ProvedRight.right-found

-- "Strip room is short exactly when standing plus new strips exceed it": what the next copy's 20 tests, of every state and rooms that 31 lets pass
pub strips-together : (j : Job) (s : State) (w : Rooms) → consistent j s w ≡ true → (p : Planner) (k : ℕ) (c : Choice)
    → let room = standing_capacity w.placed w.placed_firsts in
    ltb room (capacity (placed_strips_of s w ++ new_strips p k c)) ≡ ltb room (s.placed_strips + capacity (new_strips p k c))
strips-together = ProvedRefused.strips-together

-- ---- Document 02, W1: "Loops go through `to`, reversed where the frame reverses, positions back through `from` .. "Left" and "lower" in the placement
-- ---- rule are meant in the framed sheet, as are right and offcut, and what is proved speaks of all eight frames by one argument."

-- the argument, of every job: planner, start, next copy and withdrawal are those of the job with its sets in its frame, planned at the lower left; a
-- filling and the whole plan are that job's, counts, looks, right, area, offcut and refusals too, with the positions back through `from`
pub framed-plan : (j : Job)
    → (planner_of j ≡ planner_of (framed_job j))
    × ((order : List ℕ) (l : Lent) → start_job j order l ≡ start_job (framed_job j) order l)
    × ((s : State) (w : Rooms) (iv : List Float) → step_job j s w iv ≡ step_job (framed_job j) s w iv)
    × ((s : State) (w : Rooms) (n : ℕ) → withdraw_job j s w n ≡ withdraw_job (framed_job j) s w n)
    × ((order : List ℕ) (l : Lent) → fill_job j order l ≡ planned_on_sheet (frame_of j.header) (fill_job (framed_job j) order l))
    × ((l : Lent) → nest_job j l ≡ planned_on_sheet (frame_of j.header) (nest_job (framed_job j) l))
framed-plan j = (
  ProvedFrames.planner_framed j,
  ProvedFrames.start-framed j,
  ProvedFrames.step-framed j,
  ProvedFrames.withdraw-framed j,
  ProvedFrames.fill-framed j,
  ProvedFrames.nest_framed j,
)

-- ---- Document 02, W3: "The strip record gets that bucket number, beside the doubles in a lent room of 16-bit numbers, worked out on entry and true for
-- ---- every standing strip after every operation that is given true ones. Sheet and placed strips share the record. .. a false bucket number is 31."

-- true numbers: for each strip that the state counts, of the sheet and of the placed copies, the bucket of its x0; so exactly where `firsts_fit` holds
pub firsts_mean : (s : State) (w : Rooms)
    → let ix = sheet_index s.tables.sheet_bounds in
    let sheet = sheet_strips_of s w in
    let placed = placed_strips_of s w in
    (firsts_fit s w ≡ true
    → ((capacity sheet ≤ length w.sheet_firsts) × ((i : ℕ) → i < capacity sheet → get_or w.sheet_firsts i 0 ≡ bucket_in ix (strip_at sheet i).x0))
    × ((capacity placed ≤ length w.placed_firsts) × ((i : ℕ) → i < capacity placed → get_or w.placed_firsts i 0 ≡ bucket_in ix (strip_at placed i).x0)))
    × ((capacity sheet ≤ length w.sheet_firsts) × ((i : ℕ) → i < capacity sheet → get_or w.sheet_firsts i 0 ≡ bucket_in ix (strip_at sheet i).x0)
    → (capacity placed ≤ length w.placed_firsts) × ((i : ℕ) → i < capacity placed → get_or w.placed_firsts i 0 ≡ bucket_in ix (strip_at placed i).x0)
    → firsts_fit s w ≡ true)
firsts_mean s w =
    let h = ProvedFirsts.firsts_mean s w in (
      λ t. (((h.0 t).0.long, (h.0 t).0.right), ((h.0 t).1.long, (h.0 t).1.right)),
      λ a b. h.1 (record { long = a.0; right = a.1 }) (record { long = b.0; right = b.1 }),
    )

-- the claim, whatever else an operation is given and whatever it answers: a start, a next copy, every list of next copies and withdrawals, with a start
-- before them or not; a filling and a whole plan leave no standing strip, and zeros in both rooms
pub firsts_true : (bytes : List ℕ)
    → ((order : List ℕ) (l : Lent) → firsts_fit (start_of bytes order l).state (start_of bytes order l).lent.rooms ≡ true)
    × ((s : State) (w : Rooms) (iv : List Float) → firsts_fit s w ≡ true → firsts_fit (next_copy_of bytes s w iv).state (next_copy_of bytes s w iv).rooms ≡ true)
    × ((calls : List Call) (s : State) (w : Rooms) → firsts_fit s w ≡ true
    → let r = after_calls bytes calls s w in firsts_fit r.state r.rooms ≡ true)
    × ((calls : List Call) (order : List ℕ) (l : Lent)
    → let r = after_calls bytes calls (start_of bytes order l).state (start_of bytes order l).lent.rooms in firsts_fit r.state r.rooms ≡ true)
    × ((order : List ℕ) (l : Lent)
    → ((fill_of bytes order l).lent.rooms.sheet_firsts ≡ zeros 0 l.rooms.sheet_firsts)
    × ((fill_of bytes order l).lent.rooms.placed_firsts ≡ zeros 0 l.rooms.placed_firsts))
    × ((l : Lent)
    → ((nest_of bytes l).lent.rooms.sheet_firsts ≡ zeros 0 l.rooms.sheet_firsts)
    × ((nest_of bytes l).lent.rooms.placed_firsts ≡ zeros 0 l.rooms.placed_firsts))
firsts_true bytes = (
  ProvedFirsts.start_firsts bytes,
  KeptFirsts.next-copy_firsts bytes,
  KeptFirsts.calls_firsts bytes,
  λ calls order l. KeptFirsts.calls_after-start bytes order l calls,
  ProvedFirsts.fill_firsts bytes,
  ProvedReplies.nest_firsts bytes,
)

-- and an accepted start's are the sheet's numbers, with zeros after them
pub firsts_started : (bytes order : List ℕ) (l : Lent) (j : Job) → read_job bytes ≡ accepted j → (start_of bytes order l).verdict ≡ Ok tt
    → (start_of bytes order l).lent.rooms.sheet_firsts ≡ laid (firsts_for (planner_of j).bounds (planner_of j).sheet) (zeros 0 l.rooms.sheet_firsts)
firsts_started = ProvedFirsts.accepted-start_firsts

-- "a false bucket number is 31": of every accepted job, state and rooms unchanged
pub false-first-refused : (bytes : List ℕ) (j : Job) → read_job bytes ≡ accepted j → (s : State) (w : Rooms) (iv : List Float) → firsts_fit s w ≡ false
    → (next_copy_of bytes s w iv ≡ no_step Why.Inconsistent s w iv) × (verdict_number (no_step Why.Inconsistent s w iv).verdict ≡ 31)
false-first-refused bytes j e s w iv f = (KeptFirsts.false-refused bytes j e s w iv f, KeptFirsts.number-31 s w iv)

-- ---- Document 02, W7: "A free look now answers its height and the clear height above it: the next counted interval's bottom at or above it, or y_high if
-- ---- none is below that, minus the height. .. a state's gap not in 0..1,000,000 is 31"

-- what it means: every height from the one answered up to that bottom lies in no interval
pub gap-clear : (y_low y_high : Float) (is : List Interval) → is_finite y_low ≡ true → is_finite y_high ≡ true → every ends_finite is ≡ true
    → (h g : Float) → height_of y_low y_high is ≡ Free h g
    → (g ≡ plus_zero (next_bottom y_high is h) ⊖ h)
    × ((z : Float) → is_finite z ≡ true → le h z ≡ true → le z (next_bottom y_high is h) ≡ true → outside is z ≡ true)
gap-clear y_low y_high is a b c h g e = (ProvedGaps.gap_is y_low y_high is a b c h g e, ProvedGaps.clear_to_next y_low y_high is a b c h g e)

-- height and gap do not depend on the intervals' order, nor on how often one is listed
pub gap-order : (y_low y_high : Float) (is js : List Interval) → is_finite y_low ≡ true → is_finite y_high ≡ true
    → every ends_finite is ≡ true → every ends_finite js ≡ true
    → ((i : Interval) → Memᴰ i is → Memᴰ i js) → ((i : Interval) → Memᴰ i js → Memᴰ i is)
    → height_of y_low y_high is ≡ height_of y_low y_high js
gap-order y_low y_high is js a b c d = ProvedGaps.any_order y_low y_high is a b c js d

-- a gap is finite, not minus zero and not below zero, of every look within 31's limits
pub gap-number : (y_low y_high : Float) (is : List Interval) → is_finite y_low ≡ true → is_finite y_high ≡ true → every ends_finite is ≡ true
    → bounded y_low ≡ true → bounded y_high ≡ true → (h g : Float) → height_of y_low y_high is ≡ Free h g → (is_number g ≡ true) × (le pos_zero g ≡ true)
gap-number y_low y_high is a b c l m h g e = ProvedGaps.gap-number y_low y_high is a b c h g e l m

-- every standing copy's gap is in 0..1,000,000 after an accepted start and every list of calls, a filling and the whole plan's kept filling
pub gaps_own : (bytes order : List ℕ) (l : Lent) (j : Job) → read_job bytes ≡ accepted j
    → ((start_of bytes order l).verdict ≡ Ok tt → (calls : List Call)
    → gaps_fit (after_calls bytes calls (start_of bytes order l).state (start_of bytes order l).lent.rooms).state ≡ true)
    × (start_verdict j order l ≡ Ok tt → (s : State) → fill_order j l order ≡ filled s → gaps_fit s ≡ true)
    × (nest_verdict j l ≡ Ok tt → (q : Kept) → swap_search j l ≡ kept q → gaps_fit q.state ≡ true)
gaps_own bytes order l j e = (ProvedGaps.calls_gaps bytes order l j e, ProvedGaps.fill-gaps bytes order l j e, Proved1.nest_gaps bytes j e l)

-- any other is 31: of every accepted job, state and rooms unchanged
pub gap-refused : (bytes : List ℕ) (j : Job) → read_job bytes ≡ accepted j → (s : State) (w : Rooms) (iv : List Float) → gaps_fit s ≡ false
    → (next_copy_of bytes s w iv ≡ no_step Why.Inconsistent s w iv) × (verdict_number (no_step Why.Inconsistent s w iv).verdict ≡ 31)
gap-refused bytes j e s w iv f = (ProvedGaps.gaps-refused bytes j e s w iv f, KeptFirsts.number-31 s w iv)

-- ---- what the job reader promises

-- 1: "bytes end inside a field"
pub bits-read : (w p : ℕ) (bytes : List ℕ)
    → (p + w ≤ 8 * length bytes → bits w bytes p ≡ ok (field_at bytes p w 0) (p + w)) × (8 * length bytes < p + w → bits w bytes p ≡ bad Wrong.Truncated)
bits-read = ProvedReader.bits-read

-- 6: "a count or quantity outside its range"
pub count-read : (f : Field) (bytes : List ℕ) (p : ℕ) → p + f.width ≤ 8 * length bytes
    → let n = field_at bytes p f.width 0 in
    (f.least ≤ n → n ≤ f.most → count f bytes p ≡ ok n (p + f.width)) × ((n < f.least) ⊎ (f.most < n) → count f bytes p ≡ bad Wrong.CountOutOfRange)
count-read = ProvedReader.count-read

-- 4: "not finite"; 5: outside its range; "A minus zero in a job becomes plus zero"
pub number_read : (r : Range) (bytes : List ℕ) (p : ℕ) → p + 64 ≤ 8 * length bytes
    → let x = of_bits binary64 (field_at bytes p 64 0) in
    (finite x ≡ false → number r bytes p ≡ bad Wrong.NonFinite)
    × (finite x ≡ true → le r.least (plus_zero x) && le (plus_zero x) r.most ≡ false → number r bytes p ≡ bad Wrong.OutOfRange)
    × (finite x ≡ true → le r.least (plus_zero x) && le (plus_zero x) r.most ≡ true → number r bytes p ≡ ok (plus_zero x) (p + 64))
number_read = ProvedReader.number_read

-- "after the last field 2, 7, 8": a job is accepted exactly if its fields are read and none of the three holds
pub job_read : (bytes : List ℕ) (j : Job)
    → (read_job bytes ≡ accepted j
    → (p : ℕ) × (a_job bytes 0 ≡ ok j p)
    × ((ended bytes p ≡ true) × (j.copies ≤ 4096) × (lt (from_int 1_000_000) (framed_width j ⊘ j.header.resolution) ≡ false)))
    × ((p : ℕ) → a_job bytes 0 ≡ ok j p
    → (ended bytes p ≡ true) × (j.copies ≤ 4096) × (lt (from_int 1_000_000) (framed_width j ⊘ j.header.resolution) ≡ false)
    → read_job bytes ≡ accepted j)
job_read = ProvedReader.job_read

-- every number of an accepted job is finite, not minus zero and within its range; the strips made of it are within 31's; its copy order is one of it
pub accepted-job : (bytes : List ℕ) (j : Job) → read_job bytes ≡ accepted j
    → (job_within j ≡ true) × (planner_fits (planner_of j) ≡ true) × (rearranged j (copy_order j) ≡ true)
accepted-job bytes j e = (job-within bytes j e, (jobs_within bytes j e).own, accepted-rearranged bytes j e)

-- ---- "The starred cases form one list, shown of the definitions by one claim"
pub starred_cases : map (λ c. c.got) starred ≡ map (λ c. c.want) starred
starred_cases = ProvedCases.starred-hold
