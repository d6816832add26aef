-- `withdraw::withdraw_job::refuse` meets its contract. Assumes nothing.
use mathlib.Core.Path.{refl}
use Rattle.filling.specs.Withdraw.{no_withdrawal}
use Rattle.withdraw.proofs.withdraw_job.refuse.Goals as goal

pub returns : goal.returns
unfolding no_withdrawal
returns c = λ w. refl
