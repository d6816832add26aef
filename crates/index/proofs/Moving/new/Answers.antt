use mathlib.Core.Path.{refl}
use Rattle.index.specs.inner.Listing.{moving_of}
use Rattle.index.proofs.Moving.new.Goals as goal

pub returns : goal.returns
unfolding moving_of
returns c = refl
