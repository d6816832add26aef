use Rattle.trapezoid.specs.Strip.{capacity}
use Rattle.placement.proofs.Clearing.{Left, strip_intervals}
use Rattle.placement.proofs.clear.Given as goal

abbrev pub invariant-loop-j : goal.invariant-loop-j
invariant-loop-j l = Left (strip_intervals l.standing l.moving l.x l.y) l.y (capacity l.moving) l.j
