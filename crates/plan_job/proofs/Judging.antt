-- 30 of an accepted job, then what is prepared. Assumes nothing.
use Rattle.std.specs.Prelude.{Result, Err}
use Rattle.filling.specs.declared.Refusal.{Refusal}
use Prim.Native.Nat.{ℕ, ◌*◌, ◌/◌, ◌≤◌, ◌<◌}
use native.Mathlib.Omega.{arith}
use mathlib.Core.Path.{◌≡◌, refl, sym, ap, ◌∙◌}
use mathlib.Core.List.{List}
use lib.ListN.{length}
use lib.Ieee.{Float}
use Rattle.numbers.specs.Numbers.{pos_zero}
use Rattle.job.specs.Jobs.{Job}
use Rattle.filling.specs.declared.Refusal.TheVariants as Why
use Rattle.filling.specs.Shapes.{planner_of}
use Rattle.filling.specs.Rooms.{Lent, zeros}
use Rattle.filling.specs.Start.{prepare_verdict}
use Rattle.nesting.specs.Rounds.{swap_search}
use Rattle.nesting.specs.Nest.{nest_verdict, nested, nest_job}
use Rattle.filling.specs.declared.Plan.{Plan}
use Rattle.report.specs.inner.Replies.{reply, reply_of, planned_when}
use Rattle.report.proofs.readied.Judging.{when_is, wide, narrow, refused_so}

-- a whole plan by its verdict
pub nest_when : (j : Job) (l : Lent) → nest_job j l ≡ planned_when (nest_verdict j l) l (nested j l (swap_search j l))
unfolding nest_job
nest_when j l = when_is (nest_verdict j l) l (nested j l (swap_search j l))

-- six numbers for each copy
pub copies_many : (j : Job) (copies room : ℕ) → j.copies ≡ copies → copies ≤ room / 6 → 6 * j.copies ≤ room
copies_many j copies room e h = omega arith

module _ (j : Job) (l : Lent) (copies : ℕ) (n : j.copies ≡ copies) (room : List Float) (z : room ≡ zeros pos_zero l.positions) where
  by_verdict : (v : Result (Unit {0}) Refusal) (r : Result Plan Refusal) (after : List Float) → nest_verdict j l ≡ v
      → reply r after ≡ reply_of (planned_when v l (nested j l (swap_search j l))) → reply r after ≡ reply_of (nest_job j l)
  by_verdict v r after e f = f ∙ (ap (λ (u : Result (Unit {0}) Refusal). reply_of (planned_when u l (nested j l (swap_search j l)))) (sym e) ∙ ap reply_of (sym (nest_when j l)))

  -- 30
  pub no_positions : length room / 6 < copies → reply (Err Why.PositionRoom) room ≡ reply_of (nest_job j l)
  unfolding nest_verdict
  no_positions h =
      by_verdict (nest_verdict j l) (Err Why.PositionRoom) room refl
      (refused_so j l copies n room z Why.PositionRoom (nest_verdict j l) (nested j l (swap_search j l)) (narrow j l copies n room z _ h))

  -- room for all positions
  pub then-prepared : (r : Result Plan Refusal) (after : List Float) → copies ≤ length room / 6
      → reply r after ≡ reply_of (planned_when (prepare_verdict (planner_of j) l.rooms) l (nested j l (swap_search j l)))
      → reply r after ≡ reply_of (nest_job j l)
  unfolding nest_verdict
  then-prepared r after h f = by_verdict (prepare_verdict (planner_of j) l.rooms) r after (wide j l copies n room z _ h) f
