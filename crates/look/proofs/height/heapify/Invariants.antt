use Rattle.look.specs.height.inner.Raising.{Rearranged}
use Rattle.look.proofs.height.heapify.Given as goal

abbrev pub invariant-loop-start : goal.invariant-loop-start
invariant-loop-start l = Rearranged l.n l.initial.room l.room
