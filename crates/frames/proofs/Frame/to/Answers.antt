-- `frames::Frame::to` meets its contract. Assumes nothing.
use mathlib.Core.Path.{sym, ◌∙◌}
use Rattle.frames.specs.Frames.{to}
use Rattle.frames.proofs.Frame.to.Goals as goal

pub returns-then-along_x : goal.returns-then-along_x
unfolding to
returns-then-along_x c =
    rw (
      sym c.along_x.ensures ∙ c.if-along_x.true,
      sym c.from_right.ensures,
      sym c.from_top.ensures,
      c.signed-up.ensures,
      c.signed-across.ensures,
    )

pub returns-else-along_x : goal.returns-else-along_x
unfolding to
returns-else-along_x c =
    rw (
      sym c.along_x.ensures ∙ c.if-along_x.false,
      sym c.from_right.ensures,
      sym c.from_top.ensures,
      c.signed-up.ensures,
      c.signed-across.ensures,
    )
