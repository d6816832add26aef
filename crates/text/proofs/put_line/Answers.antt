-- `text::put_line` meets its contract. Assumes nothing.
use mathlib.Core.Path.{sym}
use Rattle.nesting.specs.Text.{position_at, put_line}
use Rattle.text.proofs.put_line.Goals as goal

pub returns : goal.returns
unfolding put_line position_at
returns c = rw (sym c.floor-kind.ensures, sym c.floor-copy.ensures, sym c.floor-orientation.ensures) c.line.ensures
