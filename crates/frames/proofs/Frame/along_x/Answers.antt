-- `frames::Frame::along_x` meets its contract. Assumes nothing.
use mathlib.Core.Path.{refl}
use Rattle.frames.specs.Frames.{along_x}
use Rattle.frames.proofs.Frame.along_x.Goals as goal

pub returns : goal.returns
unfolding along_x
returns c = refl
