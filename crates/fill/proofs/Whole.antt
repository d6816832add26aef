-- A filling leaves the work rooms zero. Assumes nothing.
use mathlib.Core.Path.{sym, subst}
use mathlib.Core.List.{List}
use Prim.Native.Nat.{ℕ}
use Rattle.job.specs.Jobs.{Job, Answer, accepted, refused, read_job}
use Rattle.filling.specs.declared.Refusal.TheVariants as Why
use Rattle.filling.specs.Rooms.{Lent}
use Rattle.filling.specs.Start.{start_verdict}
use Rattle.filling.specs.Fill.{Filling, filled, stopped, planned_by, fill_order, fill_given, fill_of}
use Rattle.report.proofs.readied.Left.{WorkZero, refused-zero, planned_zero, when_zero}
use Rattle.plan_job.proofs.fill_job.Judging.{fill_when}

by_filling : (j : Job) (l : Lent) (f : Filling) → WorkZero l (planned_by j l f)
unfolding planned_by
by_filling j l (filled s) = planned_zero j l s 0
by_filling j l (stopped k) = refused-zero k l

by_answer : (g : Answer) (order : List ℕ) (l : Lent) → WorkZero l (fill_given g order l)
unfolding fill_given
by_answer (refused k) order l = refused-zero (Why.Job k) l
by_answer (accepted j) order l = subst (WorkZero l) (sym (fill_when j l order)) (when_zero (start_verdict j order l) l _ (by_filling j l (fill_order j l order)))

pub fill-zero : (bytes order : List ℕ) (l : Lent) → WorkZero l (fill_of bytes order l)
unfolding fill_of
fill-zero bytes order l = by_answer (read_job bytes) order l
