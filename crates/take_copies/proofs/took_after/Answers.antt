-- `take_copies::took_after` meets its contract. Assumes nothing.
use mathlib.Core.Path.{sym, ap}
use Rattle.take_copy.specs.turn.inner.Turning.{taken_after}
use Rattle.take_copies.proofs.took_after.Goals as goal

pub returns-in-Ok : goal.returns-in-Ok
returns-in-Ok c = sym (ap (λ v. taken_after v c.args.took) c.in-Ok.is)

pub returns-in-Err : goal.returns-in-Err
returns-in-Err c = sym (ap (λ v. taken_after v c.args.took) c.in-Err.is)
