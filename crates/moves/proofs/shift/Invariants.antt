use Rattle.moves.specs.inner.Moves.{Shifted}
use Rattle.moves.proofs.shift.Given as goal

abbrev pub invariant-loop-b : goal.invariant-loop-b
invariant-loop-b l = Shifted l.from l.by l.initial.starts l.b l.starts
