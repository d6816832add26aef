-- What every copy taken and every withdrawal keeps, every list of calls keeps; what every copy taken keeps, every filling that is not refused
-- keeps. Assumes nothing.
use Rattle.std.specs.Prelude.{Result, Ok, Err}
use mathlib.Core.Path.{◌≡◌, refl, sym, ap, ◌∙◌}
use mathlib.Core.Logic.{◌⊎◌, inl, inr}
use mathlib.Core.Bool.{Bool, true, false}
use mathlib.Core.List.{List, [], ◌∷◌, map}
use Prim.Native.Nat.{ℕ, zero, suc}
use native.Mathlib.Omega.{arith}
use lib.ListN.{replicate}
use lib.Ieee.{Float}
use Rattle.numbers.proofs.Truth.{either}
use Rattle.job.specs.Jobs.{Job, accepted, read_job}
use Rattle.filling.specs.declared.State.{State}
use Rattle.filling.specs.declared.Refusal.{Refusal}
use Rattle.filling.specs.declared.Refusal.TheVariants as Why
use Rattle.filling.specs.Refusals.{is_refused}
use Rattle.filling.specs.Shapes.{Planner, planner_of}
use Rattle.filling.specs.Plain.{Plain, Request, take_next, take_back, plain_take, plain_back, plain_call, plain_calls}
use Rattle.filling.specs.Rooms.{Rooms, Lent, only_positions}
use Rattle.filling.specs.Consistent.{consistent}
use Rattle.filling.specs.Start.{start_verdict}
use Rattle.filling.specs.NextCopy.{Step, no_step, core_step, step_job, step_given, next_copy_of}
use Rattle.filling.specs.Accounts.{plan_of}
use Rattle.filling.specs.Fill.{Filling, filled, stopped, fill_from, fill_order, not_planned, planned_with, planned_by, fill_job}
use Rattle.filling.specs.Reports.{Reports}
use Rattle.filling.specs.Withdraw.{Reply, withdraw_of}
use Rattle.filling.specs.Calls.{Call, next_copy, withdraw, request_of, step_reply, call_step, after_calls, refusals, Outcome, state_outcome}
use Rattle.filling.proofs.Steps as Steps
use Rattle.filling.proofs.Steps.{Linked, Took, unchanged, took, core_outcome, refused≢accepted}
use Rattle.filling.proofs.Withdrawn.{Went, Answered, stays, went, answered}

-- ---- what a call does

pub step-consistent : (j : Job) (s : State) (w : Rooms) (iv : List Float) → consistent j s w ≡ true → step_job j s w iv ≡ core_step j s w iv
unfolding step_job
step-consistent j s w iv e = rw (e, step_job)

pub step_inconsistent : (j : Job) (s : State) (w : Rooms) (iv : List Float) → consistent j s w ≡ false → step_job j s w iv ≡ no_step Why.Inconsistent s w iv
unfolding step_job
step_inconsistent j s w iv e = rw (e, step_job)

job_outcome : (j : Job) (s : State) (w : Rooms) → Linked j s w → (iv : List Float) → Steps.Outcome j s w (step_job j s w iv)
unfolding no_step
job_outcome j s w h iv = go (either (consistent j s w))
  where
    go : (consistent j s w ≡ true) ⊎ (consistent j s w ≡ false) → Steps.Outcome j s w (step_job j s w iv)
    go (inl e) = rw (step-consistent j s w iv e) (core_outcome j s w h iv)
    go (inr e) = rw (step_inconsistent j s w iv e) (unchanged Why.Inconsistent refl refl refl)

next_outcome : (bytes : List ℕ) (j : Job) → read_job bytes ≡ accepted j → (s : State) (w : Rooms) → Linked j s w → (iv : List Float) → Steps.Outcome j s w
    (next_copy_of bytes s w iv)
unfolding next_copy_of step_given
next_outcome bytes j e s w h iv = rw e (job_outcome j s w h iv)

-- the plain planner after one call, and after those behind it
plain_more : (p : Planner) (a : Request) (as' : List Request) (b : Bool) (bs : List Bool) (q : Plain) → plain_calls p as' bs (plain_calls p (a ∷ []) (b ∷ []) q) ≡
    plain_calls p (a ∷ as') (b ∷ bs) q
unfolding plain_calls
plain_more p a as' true bs q = refl
plain_more p a as' false bs q = refl

-- ---- K: what holds of state, rooms and the plain planner's state, and what a copy taken keeps of it

module _ (j : Job) (K : State → Rooms → Plain → Type 0) (linked : (s : State) (w : Rooms) (q : Plain) → K s w q → Linked j s w)
    (on : (s : State) (w : Rooms) (q : Plain) → K s w q → (r : Step) → Took j s w r → K r.state r.rooms (plain_take (planner_of j) q q.to_come_lem)) where
  -- a refused call changes nothing, any other takes the next copy
  step_keeps : (s : State) (w : Rooms) (q : Plain) → K s w q → (r : Step) → Steps.Outcome j s w r → K r.state r.rooms
      (plain_calls (planner_of j) (take_next ∷ []) (is_refused r.verdict ∷ []) q)
  unfolding is_refused plain_calls plain_call
  step_keeps s w q a r (unchanged k v b c) = rw (v, b, c) a
  step_keeps s w q a r (took t) = rw t.accepted (on s w q a r t)

  -- and what a withdrawal keeps of it
  module _ (back : (s : State) (w : Rooms) (q : Plain) → K s w q → (n : ℕ) (r : Reply) → Went j s w n r → K r.state r.rooms
      (plain_back (planner_of j) n q)) where
    back_keeps : (s : State) (w : Rooms) (q : Plain) → K s w q → (n : ℕ) (r : Reply) → Answered j s w n r → K r.state r.rooms
        (plain_calls (planner_of j) (take_back n ∷ []) (is_refused r.verdict ∷ []) q)
    unfolding is_refused plain_calls plain_call
    back_keeps s w q a n r (stays k v b c) = rw (v, b, c) a
    back_keeps s w q a n r (went t) = rw t.accepted (back s w q a n r t)

    pub call_keeps : (bytes : List ℕ) → read_job bytes ≡ accepted j → (c : Call) (s : State) (w : Rooms) (q : Plain) → K s w q
        → let r = call_step bytes c s w in K r.state r.rooms (plain_calls (planner_of j) (request_of c ∷ []) (is_refused r.verdict ∷ []) q)
    unfolding call_step step_reply request_of
    call_keeps bytes e (next_copy iv) s w q a = step_keeps s w q a (next_copy_of bytes s w iv) (next_outcome bytes j e s w (linked s w q a) iv)
    call_keeps bytes e (withdraw n) s w q a = back_keeps s w q a n (withdraw_of bytes s w n) (answered bytes j e s w (linked s w q a) n)

    pub calls_keep : (bytes : List ℕ) → read_job bytes ≡ accepted j → (cs : List Call) (s : State) (w : Rooms) (q : Plain) → K s w q
        → let r = after_calls bytes cs s w in K r.state r.rooms (plain_calls (planner_of j) (map request_of cs) (refusals r.verdicts) q)
    unfolding after_calls refusals plain_calls
    calls_keep bytes e [] s w q a = a
    calls_keep bytes e (c ∷ cs) s w q a =
        let r = call_step bytes c s w in
        let b = call_keeps bytes e c s w q a in
        let d = calls_keep bytes e cs r.state r.rooms (plain_calls (planner_of j) (request_of c ∷ []) (is_refused r.verdict ∷ []) q) b in
        rw (← plain_more (planner_of j) (request_of c) (map request_of cs) (is_refused r.verdict)
        (refusals (after_calls bytes cs r.state r.rooms).verdicts) q) d

  stopped≢filled : {s : State} {k : Refusal} → stopped k ≡ filled s → ⊥
  stopped≢filled e = let z : ◌≡◌ {A = ℕ} 0 1 = cc in omega arith

  -- one step for every copy, none refused
  pub fill_keeps : (iv : List Float) (n : ℕ) (s s' : State) (w : Rooms) (q : Plain) → K s w q → fill_from j iv n s w ≡ filled s' → (w' : Rooms) × K s' w'
      (plain_calls (planner_of j) (replicate n take_next) (replicate n false) q)
  unfolding fill_from plain_calls plain_call
  fill_keeps iv zero s s' w q a e = let i : s ≡ s' = cc in (w, rw (← i) a)
  fill_keeps iv (suc n) s s' w q a e =
      go (λ t. fill_keeps iv n (core_step j s w iv).state s' (core_step j s w iv).rooms (plain_take (planner_of j) q q.to_come_lem)
      (on s w q a (core_step j s w iv) t))
      (core_step j s w iv).verdict refl (core_outcome j s w (linked s w q a) iv) e
    where
      r : Step
      r = core_step j s w iv

      go : (Took j s w r → fill_from j iv n r.state r.rooms ≡ filled s' → (w' : Rooms) × K s' w'
          (plain_calls (planner_of j) (replicate n take_next) (replicate n false) (plain_take (planner_of j) q q.to_come_lem)))
          → (v : Result (Unit {0}) Refusal) → r.verdict ≡ v → Steps.Outcome j s w r
          → ◌≡◌ {A = Filling} (elim v [ Ok tt ↦ fill_from j iv n r.state r.rooms | Err k ↦ stopped k ]) (filled s') → (w' : Rooms) × K s' w'
          (plain_calls (planner_of j) (replicate n take_next) (replicate n false) (plain_take (planner_of j) q q.to_come_lem))
      go more (Err k) d o e = absurd (stopped≢filled e)
      go more (Ok tt) d (unchanged k v b c) e = absurd (refused≢accepted (sym v ∙ d))
      go more (Ok tt) d (took t) e = more t e

-- ---- what a filling's reply and position room say of an outcome

state_reports : (j : Job) (l : Lent) (s : State) (n : ℕ) → Reports j l (planned_with j l s n) (state_outcome j s)
unfolding planned_with plan_of only_positions state_outcome
state_reports j l s n = record { placed = refl; placed_of = refl; positions_are = refl; unplaced = refl; unplaced_of = refl; look_counts = refl }

module _ (j : Job) (order : List ℕ) (l : Lent) where
  pub fill-stopped : (k : Refusal) → start_verdict j order l ≡ Err k → fill_job j order l ≡ not_planned k l
  unfolding fill_job
  fill-stopped k e = rw (e, fill_job)

  pub fill-runs : start_verdict j order l ≡ Ok tt → fill_job j order l ≡ planned_by j l (fill_order j l order)
  unfolding fill_job
  fill-runs e = rw (e, fill_job)

module _ (j : Job) (order : List ℕ) (l : Lent) (o : Outcome) (is : start_verdict j order l ≡ Ok tt → (s : State) → fill_order j l order ≡ filled s →
    state_outcome j s ≡ o) where
  by_filling : start_verdict j order l ≡ Ok tt → (f : Filling) → fill_order j l order ≡ f → (planned_by j l f).verdict ≡ Ok tt → Reports j l (planned_by j l f)
      o
  unfolding planned_by not_planned
  by_filling v (stopped k) d e = absurd (refused≢accepted e)
  by_filling v (filled s) d e = rw (← is v s d) (state_reports j l s 0)

  pub fill_reports : (fill_job j order l).verdict ≡ Ok tt → Reports j l (fill_job j order l) o
  unfolding not_planned
  fill_reports e = go (start_verdict j order l) refl
    where
      go : (v : Result (Unit {0}) Refusal) → start_verdict j order l ≡ v → Reports j l (fill_job j order l) o
      go (Err k) d = absurd (refused≢accepted (sym (ap (λ r. r.verdict) (fill-stopped j order l k d)) ∙ e))
      go (Ok tt) d = rw (fill-runs j order l d) (by_filling d (fill_order j l order) refl (rw (fill-runs j order l d) at e))
