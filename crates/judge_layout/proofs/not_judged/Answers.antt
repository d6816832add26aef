-- `not_judged`: the refusal, and no line. Assumes nothing.
use mathlib.Core.Path.{refl}
use Rattle.layouts.specs.Layouts.{not_judged}
use Rattle.judge_layout.proofs.not_judged.Goals as goal

pub returns : goal.returns
unfolding not_judged
returns c = refl
