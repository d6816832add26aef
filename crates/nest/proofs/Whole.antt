-- A whole plan leaves the work rooms zero. Assumes nothing.
use mathlib.Core.Path.{sym, subst}
use mathlib.Core.List.{List}
use Prim.Native.Nat.{ℕ}
use Rattle.job.specs.Jobs.{Job, Answer, accepted, refused, read_job}
use Rattle.filling.specs.declared.Refusal.TheVariants as Why
use Rattle.filling.specs.Rooms.{Lent}
use Rattle.nesting.specs.Rounds.{Swaps, kept, ended, swap_search}
use Rattle.nesting.specs.Nest.{nest_verdict, nested, nest_given, nest_of}
use Rattle.report.proofs.readied.Left.{WorkZero, refused-zero, planned_zero, when_zero}
use Rattle.plan_job.proofs.Judging.{nest_when}

by_swaps : (j : Job) (l : Lent) (q : Swaps) → WorkZero l (nested j l q)
unfolding nested
by_swaps j l (kept q) = planned_zero j l q.state q.improvements
by_swaps j l (ended k) = refused-zero k l

by_answer : (g : Answer) (l : Lent) → WorkZero l (nest_given g l)
unfolding nest_given
by_answer (refused k) l = refused-zero (Why.Job k) l
by_answer (accepted j) l = subst (WorkZero l) (sym (nest_when j l)) (when_zero (nest_verdict j l) l _ (by_swaps j l (swap_search j l)))

pub nest_zero : (bytes : List ℕ) (l : Lent) → WorkZero l (nest_of bytes l)
unfolding nest_of
nest_zero bytes l = by_answer (read_job bytes) l
