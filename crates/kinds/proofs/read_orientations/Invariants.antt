use Rattle.kinds.proofs.Tables.{OrientationsTo}
use Rattle.kinds.proofs.read_orientations.Given as goal

abbrev pub invariant-loop-i : goal.invariant-loop-i
invariant-loop-i l = OrientationsTo l.bytes l.at l.n l.kind l.initial.places l.initial.room l.initial.ends l.places l.room l.ends l.i l.p
