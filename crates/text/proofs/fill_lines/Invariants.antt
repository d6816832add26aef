use Rattle.lines.specs.inner.Writing.{Put}
use Rattle.text.specs.inner.Tables.{fills_to}
use Rattle.text.proofs.fill_lines.Given as goal

abbrev pub invariant-loop-k : goal.invariant-loop-k
invariant-loop-k l = Put l.initial.out (fills_to l.rows l.placed l.k) l.out
