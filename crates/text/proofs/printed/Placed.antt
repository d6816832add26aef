-- How many positions a whole plan answers: at most 4,096, and no more than its room holds. Assumes nothing.
use Rattle.std.specs.Prelude.{Result, Ok, Err}
use Prim.Native.Nat.{ℕ, ◌*◌, ◌≤◌}
use native.Mathlib.Omega.{arith}
use mathlib.Core.Path.{◌≡◌, refl}
use mathlib.Core.Bool.{false}
use mathlib.Core.List.{List}
use lib.ListN.{length, length-append, length-drop}
use lib.Dec.{ltb}
use lib.Ieee.{Float}
use borrow.Author.Tests.{ltb-false}
use Rattle.numbers.specs.Numbers.{pos_zero}
use Rattle.job.specs.Jobs.{Job, Answer, accepted, refused, read_job}
use Rattle.filling.specs.declared.Refusal.{Refusal}
use Rattle.filling.specs.declared.Refusal.TheVariants as Why
use Rattle.filling.specs.Shapes.{planner_of}
use Rattle.filling.specs.Rooms.{Lent, position_capacity, laid, zeros, only_positions}
use Rattle.filling.specs.State.{standing_to, standing_of}
use Rattle.filling.specs.Start.{prepare_verdict}
use Rattle.filling.specs.Accounts.{positions, flat_positions, plan_of, no_plan}
use Rattle.filling.specs.Fill.{Planned, not_planned, planned_with}
use Rattle.filling.proofs.Reading.{length-zeros}
use Rattle.filling.proofs.Sizes.{sized}
use Rattle.filling.proofs.promises.Few.{stands-few}
use Rattle.nesting.specs.Rounds.{Swaps, kept, ended, swap_search}
use Rattle.nesting.specs.Nest.{nest_verdict, nested, nest_job, nest_given, nest_of}
use Rattle.claims.proofs.plan_promises.Rounds.{RoomRefusal, Sound, keeps, stopped_is, search-sound}
use Rattle.claims.proofs.plan_promises.Demand1.{nest_stops, nest_runs, tested}

-- what the lines of positions need
pub record Placed (p : Planned) : Type 0 where
  pub few : p.plan.placed ≤ 4096
  pub fit : 6 * p.plan.placed ≤ length p.lent.positions

-- a room of zeros with something laid into it is not shorter
laid_keeps : (xs room : List Float) → length room ≤ length (laid xs (zeros pos_zero room))
unfolding laid
laid_keeps xs room =
    let a = length-drop (length xs) (zeros pos_zero room) in
    let b = length-zeros pos_zero room in
    simp length-append (omega arith)

none-placed : (r : Refusal) (l : Lent) → Placed (not_planned r l)
unfolding not_planned no_plan
none-placed r l = record { few = omega arith; fit = omega arith }

module _ (bytes : List ℕ) (j : Job) (e : read_job bytes ≡ accepted j) (l : Lent) where
  found : (pos : ltb (position_capacity l.positions) j.copies ≡ false) (prep : prepare_verdict (planner_of j) l.rooms ≡ (Ok tt)) (q : Swaps) → Sound bytes j e l pos prep RoomRefusal q → Placed (nested j l q)
  unfolding nested planned_with plan_of only_positions standing_of
  found pos prep (kept q) (keeps h) =
      let a = stands-few q.state q.state.taken in
      let b = h.held.own.few in
      let c = (sized bytes j e).few in
      let d = ltb-false (position_capacity l.positions) j.copies pos in
      let f = laid_keeps (flat_positions (positions j (standing_to q.state q.state.taken))) l.positions in
      record { few = omega arith; fit = omega (arith, f) }
  found pos prep (ended r) s = none-placed r l

  of_job : (v : Result (Unit {0}) Refusal) → nest_verdict j l ≡ v → Placed (nest_job j l)
  of_job (Err r) d = rw (nest_stops j l r d) (none-placed r l)
  of_job (Ok tt) d = let t = tested j l d in rw (nest_runs j l d) (found t.0 t.1 (swap_search j l) (search-sound bytes j e l t.0 t.1 RoomRefusal (stopped_is bytes j e l t.0 t.1)))

-- whatever the bytes and the rooms
pub nest_placed : (bytes : List ℕ) (l : Lent) → Placed (nest_of bytes l)
unfolding nest_of
nest_placed bytes l = go (read_job bytes) refl
  where
    go : (a : Answer) → read_job bytes ≡ a → Placed (nest_given a l)
    go (refused k) d = unfold nest_given in none-placed (Why.Job k) l
    go (accepted j) d = unfold nest_given in of_job bytes j d l (nest_verdict j l) refl
