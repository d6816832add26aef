use Rattle.std.proofs.Common.{length}
use Rattle.accounts.proofs.order.Counting.{CountedTo}
use Rattle.accounts.proofs.order.count_kinds.Given as goal

abbrev pub invariant-loop-k : goal.invariant-loop-k
invariant-loop-k l = CountedTo l.order (length l.initial.counts) l.k-index l.counts
