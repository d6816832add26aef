-- Document 02, W5, the next copies at once: what is promised, each claim with its whole statement, and its proof cited. Assumes nothing.
use Rattle.std.specs.Prelude.{Ok, Err}
use Prim.{⊥}
use Prim.Native.Nat.{ℕ, ◌≤◌, ◌<◌}
use native.Mathlib.Omega.{arith}
use mathlib.Core.Path.{◌≡◌, refl, sym, ap, subst, ◌∙◌}
use mathlib.Core.Logic.{inl, inr}
use mathlib.Core.List.{List, ◌++◌, map}
use lib.ListN.{replicate}
use lib.Ieee.{Float}
use Rattle.numbers.proofs.Truth.{below_or_not}
use Rattle.numbers.specs.Numbers.{pos_zero}
use Rattle.bits.specs.declared.Refusal.TheVariants as Wrong
use Rattle.job.specs.Jobs.{Job, accepted, read_job}
use Rattle.filling.specs.declared.State.{State}
use Rattle.filling.specs.declared.Refusal.TheVariants as Why
use Rattle.filling.specs.Refusals.{number_of, verdict_number}
use Rattle.filling.specs.Rooms.{Rooms, Lent, zeros}
use Rattle.filling.specs.Start.{start_of}
use Rattle.filling.specs.Calls.{request_of, after_calls, refusals, state_outcome, plain_after}
use Rattle.filling.proofs.Demand3 as Proved3
use Rattle.batch.specs.NextCopies.{Batch, none_taken, batch_from, next_copies_of}
use Rattle.batch.specs.BatchCalls.{batch_calls, refusal_in, Operation, Rest, after_operations, operations_calls}
use Rattle.claims.specs.BatchCases.{batch_five, batch_six}
use Rattle.batch.proofs.Taking.{copies_upto, copies_over}
use Rattle.batch.proofs.Batches as Proved
use Rattle.batch.proofs.Operations as ProvedLists
use Rattle.claims.proofs.BatchComputed as ProvedCases

-- "The outcome equals n single calls, state, rooms and looks included. .. If one is refused, those before it remain"
pub batch_calls_lem : (bytes : List ℕ) (n : ℕ) → n ≤ 4096 → (s : State) (w : Rooms) (iv : List Float)
    → let a = after_calls bytes (batch_calls bytes n s w (zeros pos_zero iv)) s w in
    let q = next_copies_of bytes n s w iv in (q.state ≡ a.state) × (q.rooms ≡ a.rooms)
batch_calls_lem bytes n h s w iv =
    let a = after_calls bytes (batch_calls bytes n s w (zeros pos_zero iv)) s w in
    subst (λ (q : Batch). (q.state ≡ a.state) × (q.rooms ≡ a.rooms)) (sym (copies_upto bytes n s w iv h))
    (Proved.batch_calls_lem bytes n s w (zeros pos_zero iv))

-- "It answers how many copies it took, those without a place included. .. the answer gives that refusal too", "the single call's numbers": those calls
-- answered so many times accepted, then the refusal if any; where none is refused, all n are taken
pub batch_verdicts : (bytes : List ℕ) (n : ℕ) → n ≤ 4096 → (s : State) (w : Rooms) (iv : List Float)
    → let q = next_copies_of bytes n s w iv in
    ((after_calls bytes (batch_calls bytes n s w (zeros pos_zero iv)) s w).verdicts ≡ replicate q.took (Ok tt) ++ refusal_in q.verdict)
    × (q.verdict ≡ Ok tt → q.took ≡ n)
batch_verdicts bytes n h s w iv =
    subst
    (λ (q : Batch). ((after_calls bytes (batch_calls bytes n s w (zeros pos_zero iv)) s w).verdicts ≡ replicate q.took (Ok tt) ++ refusal_in q.verdict)
    × (q.verdict ≡ Ok tt → q.took ≡ n)) (sym (copies_upto bytes n s w iv h))
    (Proved.batch_verdicts bytes n s w (zeros pos_zero iv), ProvedLists.batch_whole bytes n s w (zeros pos_zero iv))

-- "n = 0 answers 0, and n above 4,096 is refused with 6; both change nothing but the interval room, left at zeros"; whatever job, state and rooms
pub batch_limits : (bytes : List ℕ) (s : State) (w : Rooms) (iv : List Float)
    → (next_copies_of bytes 0 s w iv ≡ none_taken (Ok tt) s w (zeros pos_zero iv))
    × ((n : ℕ) → 4096 < n → next_copies_of bytes n s w iv ≡ none_taken (Err (Why.Job Wrong.CountOutOfRange)) s w (zeros pos_zero iv))
    × (verdict_number (Err (Why.Job Wrong.CountOutOfRange)) ≡ 6)
unfolding batch_from verdict_number number_of
batch_limits bytes s w iv = (copies_upto bytes 0 s w iv (omega arith), (λ n h. copies_over bytes n s w iv h), refl)

-- the interval room is left at zeros, whatever it held and whatever is answered
pub batch_intervals : (bytes : List ℕ) (n : ℕ) (s : State) (w : Rooms) (iv : List Float) → (next_copies_of bytes n s w iv).intervals ≡ zeros pos_zero iv
unfolding none_taken
batch_intervals bytes n s w iv = elim (below_or_not 4096 n) [
  | inl h ↦ ap (λ (q : Batch). q.intervals) (copies_over bytes n s w iv h)
  | inr h ↦ ap (λ (q : Batch). q.intervals) (copies_upto bytes n s w iv h) ∙ ProvedLists.batch_intervals bytes n s w iv
]

-- demand 3, of single calls and batches after an accepted start, refused ones included: as after the calls that they make
pub batch_demand-3 : (bytes order : List ℕ) (l : Lent) (j : Job) → read_job bytes ≡ accepted j → (start_of bytes order l).verdict ≡ Ok tt
    → (os : List Operation)
    → let s = (start_of bytes order l).state in
    let w = (start_of bytes order l).lent.rooms in
    let calls = operations_calls bytes os s w in
    state_outcome j (after_operations bytes os s w).state ≡ plain_after j order (map request_of calls) (refusals (after_calls bytes calls s w).verdicts)
batch_demand-3 bytes order l j e v os =
    let s = (start_of bytes order l).state in
    let w = (start_of bytes order l).lent.rooms in
    ap (λ (r : Rest). state_outcome j r.state) (ProvedLists.operations_calls_lem bytes os s w)
    ∙ (Proved3.demand-3 bytes order l j e).0 v (operations_calls bytes os s w)

-- after an accepted start, single calls and batches, a batch is never stopped by 31
pub batch-31 : (bytes order : List ℕ) (l : Lent) → (start_of bytes order l).verdict ≡ Ok tt → (os : List Operation) (n : ℕ) (iv : List Float)
    → let a = after_operations bytes os (start_of bytes order l).state (start_of bytes order l).lent.rooms in
    (next_copies_of bytes n a.state a.rooms iv).verdict ≡ Err Why.Inconsistent → ⊥
batch-31 bytes order l v os n iv =
    let s = (start_of bytes order l).state in
    let w = (start_of bytes order l).lent.rooms in
    subst (λ (a : Rest). (next_copies_of bytes n a.state a.rooms iv).verdict ≡ Err Why.Inconsistent → ⊥)
    (sym (ProvedLists.operations_calls_lem bytes os s w)) (ProvedLists.copies_pass bytes order l v (operations_calls bytes os s w) n iv)

-- case 4's copies called for at once: five are taken, of which four stand; the sixth is refused with 23
pub batch_cases : (batch_five.got ≡ batch_five.want) × (batch_six.got ≡ batch_six.want)
batch_cases = (ProvedCases.five_taken, ProvedCases.six-stopped)
