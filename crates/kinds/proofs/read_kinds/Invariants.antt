use Rattle.kinds.proofs.Rows.{KindsTo}
use Rattle.kinds.proofs.read_kinds.Given as goal

abbrev pub invariant-loop-i : goal.invariant-loop-i
invariant-loop-i l = KindsTo l.bytes l.at l.n l.initial.rows l.initial.areas l.initial.places l.initial.room l.initial.ends
    l.rows l.areas l.places l.room l.ends l.i l.p l.copies
