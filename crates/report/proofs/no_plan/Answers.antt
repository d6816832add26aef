use mathlib.Core.Path.{refl}
use lib.Ieee.{of_bits}
use Rattle.filling.specs.Accounts.{no_plan}
use Rattle.report.proofs.no_plan.Goals as goal

pub returns : goal.returns
unfolding no_plan of_bits
returns c = refl
