-- What a start, a filling and a whole plan reply and leave: the number alone and zeros, or the state, the filling, the plan that is kept. Assumes nothing.
use Rattle.std.specs.Prelude.{Result, Ok, Err}
use Prim.Native.Nat.{ℕ}
use mathlib.Core.Path.{◌≡◌, refl, sym, ap, ◌∙◌}
use mathlib.Core.List.{List}
use Rattle.job.specs.Jobs.{Job, Answer, accepted, refused, read_job}
use Rattle.filling.specs.declared.State.{State}
use Rattle.filling.specs.declared.Refusal.{Refusal}
use Rattle.filling.specs.declared.Refusal.TheVariants as Why
use Rattle.filling.specs.Shapes.{planner_of}
use Rattle.filling.specs.Rooms.{Lent, zeros, zero_rooms}
use Rattle.filling.specs.Start.{Start, start_verdict, no_start, good_start, start_job, start_given, start_of}
use Rattle.filling.specs.Fill.{Filling, filled, stopped, fill_order, Planned, not_planned, planned_with, planned_by, fill_job, fill_given, fill_of}
use Rattle.filling.proofs.Steps.{refused≢accepted, accepted≢refused, same-refusal}
use Rattle.filling.proofs.Begin.{start-refused, start-good}
use Rattle.filling.proofs.Runs.{fill-stopped, fill-runs}
use Rattle.filling.proofs.FirstBuckets.{planned_rooms, not_planned_rooms, zero-numbers}
use Rattle.nesting.specs.Rounds.{Kept, Swaps, kept, ended, swap_search}
use Rattle.nesting.specs.Nest.{nest_verdict, nested, nest_job, nest_given, nest_of}
use Rattle.claims.proofs.plan_promises.Demand1.{nest_stops, nest_runs}

-- ---- a start

-- what a start of the bytes replies
data StartIs (bytes order : List ℕ) (l : Lent) (r : Start) : Type 0 where
  start_no : (k : Refusal) → r ≡ no_start k l → StartIs bytes order l r
  start_yes : (j : Job) → read_job bytes ≡ accepted j → r ≡ good_start (planner_of j) order l → StartIs bytes order l r

start_is : (bytes order : List ℕ) (l : Lent) → StartIs bytes order l (start_of bytes order l)
unfolding start_of
start_is bytes order l = go (read_job bytes) refl
  where
    of_job : (j : Job) → read_job bytes ≡ accepted j → (v : Result (Unit {0}) Refusal) → start_verdict j order l ≡ v → StartIs bytes order l (start_job j order l)
    of_job j e (Ok tt) d = start_yes j e (start-good j order l d)
    of_job j e (Err k) d = start_no k (start-refused j order l k d)

    go : (a : Answer) → read_job bytes ≡ a → StartIs bytes order l (start_given a order l)
    go (refused k) e = start_no (Why.Job k) (unfold start_given in refl)
    go (accepted j) e = unfold start_given in of_job j e (start_verdict j order l) refl

-- "A refused whole plan returns only the number and zeros every lent room"; "a start (it leaves strips and entries for single steps)"
pub start_replies : (bytes order : List ℕ) (l : Lent)
    → ((k : Refusal) → (start_of bytes order l).verdict ≡ Err k → start_of bytes order l ≡ no_start k l)
    × ((start_of bytes order l).verdict ≡ Ok tt → (j : Job) × (read_job bytes ≡ accepted j) × (start_of bytes order l ≡ good_start (planner_of j) order l))
unfolding no_start good_start
start_replies bytes order l = go (start_of bytes order l) (start_is bytes order l)
  where
    go : (r : Start) → StartIs bytes order l r
        → ((k : Refusal) → r.verdict ≡ Err k → r ≡ no_start k l)
        × (r.verdict ≡ Ok tt → (j : Job) × (read_job bytes ≡ accepted j) × (r ≡ good_start (planner_of j) order l))
    go r (start_no i e) =
        let d : r.verdict ≡ Err i = ap (λ x. x.verdict) e in
        (λ k f. e ∙ ap (λ x. no_start x l) (same-refusal (sym d ∙ f)), λ f. absurd (refused≢accepted (sym d ∙ f)))
    go r (start_yes j g e) =
        let d : r.verdict ≡ Ok tt = ap (λ x. x.verdict) e in
        (λ k f. absurd (accepted≢refused (sym d ∙ f)), λ f. (j, g, e))

-- ---- a filling and a whole plan

-- a reply is the number alone, or one for which P holds
data PlanIs (l : Lent) (P : Planned → Type 0) (r : Planned) : Type 0 where
  plan_no : (k : Refusal) → r ≡ not_planned k l → PlanIs l P r
  plan_yes : r.verdict ≡ Ok tt → P r → PlanIs l P r

replies : (l : Lent) (P : Planned → Type 0) (r : Planned) → PlanIs l P r
    → ((k : Refusal) → r.verdict ≡ Err k → r ≡ not_planned k l) × (r.verdict ≡ Ok tt → P r)
unfolding not_planned
replies l P r (plan_no i e) =
    let d : r.verdict ≡ Err i = ap (λ x. x.verdict) e in
    (λ k f. e ∙ ap (λ x. not_planned x l) (same-refusal (sym d ∙ f)), λ f. absurd (refused≢accepted (sym d ∙ f)))
replies l P r (plan_yes d h) = (λ k f. absurd (accepted≢refused (sym d ∙ f)), λ f. h)

-- the plan of an accepted job's filling in the given order
abbrev pub FilledAs : List ℕ → List ℕ → Lent → Planned → Type 0
FilledAs bytes order l r = (j : Job) × (s : State) × (read_job bytes ≡ accepted j) × (fill_order j l order ≡ filled s) × (r ≡ planned_with j l s 0)

-- the plan of the filling that an accepted job's swap search keeps
abbrev pub KeptAs : List ℕ → Lent → Planned → Type 0
KeptAs bytes l r =
    (j : Job) × (q : Kept) × (read_job bytes ≡ accepted j) × (swap_search j l ≡ kept q) × (r ≡ planned_with j l q.state q.improvements)

fill_is : (bytes order : List ℕ) (l : Lent) → PlanIs l (FilledAs bytes order l) (fill_of bytes order l)
unfolding fill_of
fill_is bytes order l = go (read_job bytes) refl
  where
    found : (j : Job) → read_job bytes ≡ accepted j → (f : Filling) → fill_order j l order ≡ f → PlanIs l (FilledAs bytes order l) (planned_by j l f)
    found j e (filled s) d = plan_yes (unfold planned_by in (unfold planned_with in refl)) (j, s, e, d, unfold planned_by in refl)
    found j e (stopped k) d = plan_no k (unfold planned_by in refl)

    of_job : (j : Job) → read_job bytes ≡ accepted j → (v : Result (Unit {0}) Refusal) → start_verdict j order l ≡ v → PlanIs l (FilledAs bytes order l) (fill_job j order l)
    of_job j e (Ok tt) d = rw (fill-runs j order l d) (found j e (fill_order j l order) refl)
    of_job j e (Err k) d = plan_no k (fill-stopped j order l k d)

    go : (a : Answer) → read_job bytes ≡ a → PlanIs l (FilledAs bytes order l) (fill_given a order l)
    go (refused k) e = plan_no (Why.Job k) (unfold fill_given in refl)
    go (accepted j) e = unfold fill_given in of_job j e (start_verdict j order l) refl

nest_is : (bytes : List ℕ) (l : Lent) → PlanIs l (KeptAs bytes l) (nest_of bytes l)
unfolding nest_of
nest_is bytes l = go (read_job bytes) refl
  where
    found : (j : Job) → read_job bytes ≡ accepted j → (q : Swaps) → swap_search j l ≡ q → PlanIs l (KeptAs bytes l) (nested j l q)
    found j e (kept q) d = plan_yes (unfold nested in (unfold planned_with in refl)) (j, q, e, d, unfold nested in refl)
    found j e (ended k) d = plan_no k (unfold nested in refl)

    of_job : (j : Job) → read_job bytes ≡ accepted j → (v : Result (Unit {0}) Refusal) → nest_verdict j l ≡ v → PlanIs l (KeptAs bytes l) (nest_job j l)
    of_job j e (Ok tt) d = rw (nest_runs j l d) (found j e (swap_search j l) refl)
    of_job j e (Err k) d = plan_no k (nest_stops j l k d)

    go : (a : Answer) → read_job bytes ≡ a → PlanIs l (KeptAs bytes l) (nest_given a l)
    go (refused k) e = plan_no (Why.Job k) (unfold nest_given in refl)
    go (accepted j) e = unfold nest_given in of_job j e (nest_verdict j l) refl

-- "A refused whole plan returns only the number and zeros every lent room; an accepted one leaves its positions, with zeros after them and in the work
-- rooms."
pub fill_replies : (bytes order : List ℕ) (l : Lent)
    → ((k : Refusal) → (fill_of bytes order l).verdict ≡ Err k → fill_of bytes order l ≡ not_planned k l)
    × ((fill_of bytes order l).verdict ≡ Ok tt → FilledAs bytes order l (fill_of bytes order l))
fill_replies bytes order l = replies l (FilledAs bytes order l) (fill_of bytes order l) (fill_is bytes order l)

pub nest_replies : (bytes : List ℕ) (l : Lent)
    → ((k : Refusal) → (nest_of bytes l).verdict ≡ Err k → nest_of bytes l ≡ not_planned k l)
    × ((nest_of bytes l).verdict ≡ Ok tt → KeptAs bytes l (nest_of bytes l))
nest_replies bytes l = replies l (KeptAs bytes l) (nest_of bytes l) (nest_is bytes l)

-- a whole plan leaves zeros in every work room, whatever it answers
pub nest_rooms : (bytes : List ℕ) (l : Lent) → (nest_of bytes l).lent.rooms ≡ zero_rooms l.rooms
nest_rooms bytes l = go (nest_of bytes l) (nest_is bytes l)
  where
    go : (r : Planned) → PlanIs l (KeptAs bytes l) r → r.lent.rooms ≡ zero_rooms l.rooms
    go r (plan_no k e) = ap (λ (q : Planned). q.lent.rooms) e ∙ not_planned_rooms k l
    go r (plan_yes d h) = ap (λ (q : Planned). q.lent.rooms) h.4 ∙ planned_rooms h.0 l h.1.state h.1.improvements

-- no standing strip either: every bucket number is zero
pub nest_firsts : (bytes : List ℕ) (l : Lent)
    → ((nest_of bytes l).lent.rooms.sheet_firsts ≡ zeros 0 l.rooms.sheet_firsts)
    × ((nest_of bytes l).lent.rooms.placed_firsts ≡ zeros 0 l.rooms.placed_firsts)
nest_firsts bytes l = zero-numbers (nest_of bytes l).lent.rooms l.rooms (nest_rooms bytes l)
