-- `frames::Frame::from_right` meets its contract. Assumes nothing.
use mathlib.Core.Path.{refl}
use Rattle.frames.specs.Frames.{from_right}
use Rattle.frames.proofs.Frame.from_right.Goals as goal

pub returns : goal.returns
unfolding from_right
returns c = refl
