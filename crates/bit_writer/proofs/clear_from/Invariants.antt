use Rattle.bit_writer.proofs.Writing.{Clearing}
use Rattle.bit_writer.proofs.clear_from.Given as goal

abbrev pub invariant-loop-i : goal.invariant-loop-i
invariant-loop-i l = Clearing l.initial.out l.n l.out l.i
