-- `frames::Frame::identity` meets its contract. Assumes nothing.
use Rattle.std.proofs.Common.{rules}
use Rattle.frames.specs.Frames.{identity}
use Rattle.frames.proofs.Frame.identity.Goals.{then-not-along_x, else-not-along_x}
use Rattle.frames.proofs.Frame.identity.Goals as goal

pub returns-then-not-from_right : goal.returns-then-not-from_right
unfolding identity
returns-then-not-from_right c = search rules

pub returns-else-not-from_right : goal.returns-else-not-from_right
unfolding identity
returns-else-not-from_right c = search rules
