-- 30 and 10 of an accepted job, then what is prepared. Assumes nothing.
use Rattle.std.specs.Prelude.{Result, Err}
use Prim.Native.Nat.{ℕ, ◌/◌, ◌≤◌, ◌<◌}
use mathlib.Core.Path.{◌≡◌, refl, sym, ap, ◌∙◌}
use mathlib.Core.Bool.{true, false, not}
use mathlib.Core.List.{List}
use lib.ListN.{length}
use lib.Ieee.{Float}
use Rattle.numbers.specs.Numbers.{pos_zero}
use Rattle.job.specs.Jobs.{Job}
use Rattle.filling.specs.declared.Refusal.{Refusal}
use Rattle.filling.specs.declared.Refusal.TheVariants as Why
use Rattle.filling.specs.Refusals.{refuse_if}
use Rattle.filling.specs.Shapes.{planner_of}
use Rattle.filling.specs.Rooms.{Lent, zeros}
use Rattle.filling.specs.Order.{rearranged}
use Rattle.filling.specs.Start.{prepare_verdict, start_verdict}
use Rattle.filling.specs.Fill.{planned_by, fill_order, fill_job}
use Rattle.filling.proofs.Steps.{refuse_yes, refuse_no}
use Rattle.filling.specs.declared.Plan.{Plan}
use Rattle.report.specs.inner.Replies.{reply, reply_of, planned_when}
use Rattle.report.proofs.readied.Judging.{when_is, wide, narrow, refused_so}

-- a filling by its start's verdict
pub fill_when : (j : Job) (l : Lent) (order : List ℕ) → fill_job j order l ≡ planned_when (start_verdict j order l) l (planned_by j l (fill_order j l order))
unfolding fill_job
fill_when j l order = when_is (start_verdict j order l) l (planned_by j l (fill_order j l order))

module _ (j : Job) (l : Lent) (order : List ℕ) (copies : ℕ) (n : j.copies ≡ copies) (room : List Float) (z : room ≡ zeros pos_zero l.positions) where
  by_verdict : (v : Result (Unit {0}) Refusal) (r : Result Plan Refusal) (after : List Float) → start_verdict j order l ≡ v
      → reply r after ≡ reply_of (planned_when v l (planned_by j l (fill_order j l order))) → reply r after ≡ reply_of (fill_job j order l)
  by_verdict v r after e f =
      f ∙ (ap (λ (u : Result (Unit {0}) Refusal). reply_of (planned_when u l (planned_by j l (fill_order j l order)))) (sym e) ∙ ap reply_of (sym (fill_when j l order)))

  not-filled : (k : Refusal) → start_verdict j order l ≡ Err k → reply (Err k) room ≡ reply_of (fill_job j order l)
  not-filled k e =
      by_verdict (start_verdict j order l) (Err k) room refl
      (refused_so j l copies n room z k (start_verdict j order l) (planned_by j l (fill_order j l order)) e)

  -- 30
  pub no_positions : length room / 6 < copies → reply (Err Why.PositionRoom) room ≡ reply_of (fill_job j order l)
  unfolding start_verdict
  no_positions h = not-filled Why.PositionRoom (narrow j l copies n room z _ h)

  after-30 : copies ≤ length room / 6 → start_verdict j order l ≡ refuse_if (not (rearranged j order)) Why.WrongOrder (prepare_verdict (planner_of j) l.rooms)
  unfolding start_verdict
  after-30 h = wide j l copies n room z _ h

  -- 10
  pub wrong_order : copies ≤ length room / 6 → rearranged j order ≡ false → reply (Err Why.WrongOrder) room ≡ reply_of (fill_job j order l)
  wrong_order h e = not-filled Why.WrongOrder (after-30 h ∙ refuse_yes (not (rearranged j order)) Why.WrongOrder _ (ap not e))

  -- neither
  pub then-prepared : (r : Result Plan Refusal) (after : List Float) → copies ≤ length room / 6 → rearranged j order ≡ true
      → reply r after ≡ reply_of (planned_when (prepare_verdict (planner_of j) l.rooms) l (planned_by j l (fill_order j l order)))
      → reply r after ≡ reply_of (fill_job j order l)
  then-prepared r after h e f =
      by_verdict (prepare_verdict (planner_of j) l.rooms) r after
      (after-30 h ∙ refuse_no (not (rearranged j order)) Why.WrongOrder _ (ap not e)) f
