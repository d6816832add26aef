use Rattle.store.proofs.Whole.{Counting}
use Rattle.store.proofs.entries_rest.Given as goal

abbrev pub invariant-loop-j : goal.invariant-loop-j
invariant-loop-j l = Counting l.ix l.apart l.x l.left l.rest l.j
