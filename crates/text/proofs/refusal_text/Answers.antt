-- `text::refusal_text` meets its contract. Assumes nothing.
use mathlib.Core.Path.{sym}
use Rattle.nesting.specs.Text.{refusal_text}
use Rattle.text.proofs.refusal_text.Goals as goal

pub returns : goal.returns
unfolding refusal_text
returns c = rw (sym c.refusal_number-number.ensures) c.line.ensures
