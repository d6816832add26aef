use Rattle.kinds.proofs.sets.Reading.{PointsTo}
use Rattle.kinds.proofs.sets.read_points.Given as goal

abbrev pub invariant-loop-i : goal.invariant-loop-i
invariant-loop-i l = PointsTo l.bytes l.at l.n l.first l.initial.room l.room l.i l.p
