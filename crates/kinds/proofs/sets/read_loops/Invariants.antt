use Rattle.kinds.proofs.sets.Reading.{LoopsTo}
use Rattle.kinds.proofs.sets.read_loops.Given as goal

abbrev pub invariant-loop-i : goal.invariant-loop-i
invariant-loop-i l = LoopsTo l.bytes l.at l.n l.initial.room l.initial.ends l.room l.ends l.i l.p l.before
