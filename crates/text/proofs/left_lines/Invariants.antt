use Rattle.lines.specs.inner.Writing.{Put}
use Rattle.text.specs.inner.Tables.{lefts_to}
use Rattle.text.proofs.left_lines.Given as goal

abbrev pub invariant-loop-k : goal.invariant-loop-k
invariant-loop-k l = Put l.initial.out (lefts_to l.rows l.missing l.k) l.out
