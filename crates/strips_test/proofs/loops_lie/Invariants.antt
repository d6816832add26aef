use lib.ListN.{drop}
use Rattle.strips.specs.inner.Tables.{Loops}
use Rattle.strips_test.proofs.loops_lie.Given as goal

abbrev pub invariant-loop-x : goal.invariant-loop-x
invariant-loop-x l = Loops l.first (drop l.x-index l.ends) l.n → Loops 0 l.ends l.n
