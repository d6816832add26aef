use Rattle.lines.specs.inner.Writing.{Put}
use Rattle.text.specs.inner.Tables.{looks_to}
use Rattle.text.proofs.look_lines.Given as goal

abbrev pub invariant-loop-k : goal.invariant-loop-k
invariant-loop-k l = Put l.initial.out (looks_to l.rows l.look_counts l.k) l.out
