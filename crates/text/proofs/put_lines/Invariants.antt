use Rattle.lines.specs.inner.Writing.{Put}
use Rattle.text.specs.inner.Tables.{puts_to}
use Rattle.text.proofs.put_lines.Given as goal

abbrev pub invariant-loop-i : goal.invariant-loop-i
invariant-loop-i l = Put l.initial.out (puts_to l.room l.i) l.out
