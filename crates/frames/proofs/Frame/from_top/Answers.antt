-- `frames::Frame::from_top` meets its contract. Assumes nothing.
use mathlib.Core.Path.{refl}
use Rattle.frames.specs.Frames.{from_top}
use Rattle.frames.proofs.Frame.from_top.Goals as goal

pub returns : goal.returns
unfolding from_top
returns c = refl
