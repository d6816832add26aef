-- `take_copies::end_after` meets its contract. Assumes nothing.
use mathlib.Core.Path.{sym, ap, ap₂}
use Rattle.take_copies.specs.inner.Run.{end_after}
use Rattle.take_copies.proofs.end_after.Goals as goal

pub returns-then-turn : goal.returns-then-turn
returns-then-turn c = let a = c.args in sym (ap₂ (λ v f. end_after v f a.took a.end) c.in-Ok.is c.if-turn.true)

pub returns-else-turn : goal.returns-else-turn
returns-else-turn c = let a = c.args in sym (ap₂ (λ v f. end_after v f a.took a.end) c.in-Ok.is c.if-turn.false)

pub returns-in-Err : goal.returns-in-Err
returns-in-Err c = let a = c.args in sym (ap (λ v. end_after v a.turn.fits a.took a.end) c.in-Err.is)
