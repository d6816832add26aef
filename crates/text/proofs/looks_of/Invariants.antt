use Rattle.lines.specs.inner.Writing.{Put}
use Rattle.text.specs.inner.Tables.{looks_of}
use Rattle.text.proofs.looks_of.Given as goal

abbrev pub invariant-loop-o : goal.invariant-loop-o
invariant-loop-o l = Put l.initial.out (looks_of l.look_counts l.k l.o) l.out
