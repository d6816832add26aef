use mathlib.Core.Path.{sym, subst}
use lib.Dec.{T}
use Rattle.look_test.proofs.Tested.{tested}
use Rattle.look_test.proofs.bounded.Goals as goal

pub returns-then-x : goal.returns-then-x
returns-then-x c = λ e. tested (subst T (sym c.well_formed.0.1) tt) c.if-x.true e
