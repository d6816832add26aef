use Rattle.trapezoid.specs.Strip.{capacity}
use Rattle.placement.specs.inner.Pairs.{pair_at}
use Rattle.placement.proofs.Clearing.{Left}
use Rattle.placement.proofs.clear_of.Given as goal

abbrev pub invariant-loop-i : goal.invariant-loop-i
invariant-loop-i l = Left (pair_at l.standing l.m) l.y (capacity l.standing) l.i
