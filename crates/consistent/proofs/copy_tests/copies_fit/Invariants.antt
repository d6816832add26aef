use mathlib.Core.Path.{◌≡◌}
use Rattle.consistent.specs.copy_tests.inner.Copies.{held, copies_test}
use Rattle.consistent.proofs.copy_tests.CopyCases.{left}
use Rattle.consistent.proofs.copy_tests.copies_fit.Given as goal

abbrev pub invariant-loop-i : goal.invariant-loop-i
invariant-loop-i l = left (held l.rows l.kinds l.parts l.apart l.placed) l.order l.orientation l.x l.y l.taken l.i l.at ≡ copies_test (held l.rows l.kinds l.parts l.apart l.placed) l.order l.orientation l.x l.y l.taken 0 0
