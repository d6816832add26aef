-- `look::height::swap` meets its contract. Assumes nothing.
use mathlib.Core.Path.{refl}
use Rattle.look.specs.height.inner.Raising.{swapped}
use Rattle.look.proofs.height.swap.Goals as goal

pub returns : goal.returns
unfolding swapped
returns c = refl
