-- The layout of a whole plan is accepted: what its rounds keep is a filling. Assumes nothing.
use Rattle.std.specs.Prelude.{Result, Ok, Err}
use Rattle.filling.specs.declared.Refusal.{Refusal}
use Prim.Native.Nat.{ℕ}
use mathlib.Core.Path.{◌≡◌, refl, sym, ap, ◌∙◌}
use mathlib.Core.Bool.{false}
use mathlib.Core.List.{List}
use lib.Dec.{ltb}
use Rattle.job.specs.Jobs.{Job, accepted, read_job}
use Rattle.filling.specs.declared.State.{State}
use Rattle.filling.specs.Shapes.{planner_of}
use Rattle.filling.specs.Rooms.{Lent, position_capacity}
use Rattle.filling.specs.Start.{prepare_verdict}
use Rattle.filling.specs.Fill.{Planned, not_planned}
use Rattle.filling.proofs.Steps.{refused≢accepted}
use Rattle.nesting.specs.Rounds.{Swaps, kept, ended, swap_search}
use Rattle.nesting.specs.Nest.{nest_verdict, nested, nest_job, nest_given, nest_of}
use Rattle.layouts.proofs.Made.{filled-accepted, Shown, planned_shown}
use Rattle.claims.proofs.plan_promises.Rounds.{RoomRefusal, begins, stopped_is, Sound, keeps, search-sound}
use Rattle.claims.proofs.plan_promises.Demand1.{nest_stops, nest_runs, tested}

module _ (bytes : List ℕ) (j : Job) (e : read_job bytes ≡ accepted j) (l : Lent) where
  kept_shown : (pos : ltb (position_capacity l.positions) j.copies ≡ false) (prep : prepare_verdict (planner_of j) l.rooms ≡ Ok tt) (q : Swaps)
      → Sound bytes j e l pos prep RoomRefusal q → (nested j l q).verdict ≡ Ok tt → (s : State) × Shown bytes j e l (nested j l q).lent.positions s
  unfolding nested not_planned
  kept_shown pos prep (kept q) (keeps h) v = (
    q.state,
    planned_shown bytes j e l q.state q.improvements
        (filled-accepted bytes j e l q.order (begins bytes j e l pos prep q.order h.rearranges) q.state h.fills),
  )
  kept_shown pos prep (ended r) s v = absurd (refused≢accepted v)

  -- a state whose copies are those of the plan's position room, and whose list is accepted
  pub nest_accepted : (nest_of bytes l).verdict ≡ Ok tt → (s : State) × Shown bytes j e l (nest_of bytes l).lent.positions s
  unfolding nest_of nest_given not_planned
  nest_accepted = rw e (λ v. go v (nest_verdict j l) refl)
    where
      go : (nest_job j l).verdict ≡ Ok tt → (u : Result (Unit {0}) Refusal) → nest_verdict j l ≡ u → (s : State) × Shown bytes j e l (nest_job j l).lent.positions s
      go v (Ok tt) d =
          let t = tested j l d in
          rw (nest_runs j l d)
          (kept_shown t.0 t.1 (swap_search j l) (search-sound bytes j e l t.0 t.1 RoomRefusal (stopped_is bytes j e l t.0 t.1))
          (rw (nest_runs j l d) at v))
      go v (Err r) d = absurd (refused≢accepted (sym (ap (λ (p : Planned). p.verdict) (nest_stops j l r d)) ∙ v))
