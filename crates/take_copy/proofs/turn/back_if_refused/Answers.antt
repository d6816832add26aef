-- `take_copy::turn::back_if_refused` meets its contract. Assumes nothing.
use mathlib.Core.Path.{refl, sym, ◌∙◌}
use Rattle.filling.proofs.Steps.{accepted≢refused, refused≢accepted}
use Rattle.take_copy.proofs.turn.back_if_refused.Goals as goal

pub put_back-requires : goal.put_back-requires
put_back-requires c = c.requires

pub returns-in-Ok : goal.returns-in-Ok
returns-in-Ok c = ((λ h. refl), (λ k h. absurd (accepted≢refused (sym c.in-Ok.is ∙ h))))

pub shape_of-tracks : goal.shape_of-tracks
shape_of-tracks c = c.put_back.auto.tracks

pub returns-in-Err : goal.returns-in-Err
returns-in-Err c = (
  (λ h. absurd (refused≢accepted (sym c.in-Err.is ∙ h))),
  (λ k h. c.put_back.ensures),
)
