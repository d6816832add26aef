use Rattle.bits.proofs.Taking.{Going}
use Rattle.bits.proofs.bits_at.Given as goal

abbrev pub invariant-loop-left : goal.invariant-loop-left
invariant-loop-left l = Going l.bytes l.at l.n l.acc l.p l.left

abbrev pub decreases-loop-left : goal.decreases-loop-left
decreases-loop-left l = l.left
