use mathlib.Core.Path.{◌∙◌}
use Rattle.look.proofs.height.Clear.{lower_yes, lower_no}
use Rattle.look.proofs.height.lower_next.Goals as goal

pub returns-then-h-i : goal.returns-then-h-i
returns-then-h-i c = c.smaller.ensures ∙ lower_yes c.args.h c.args.next c.args.i c.if-h-i.true

pub returns : goal.returns
returns c = lower_no c.args.h c.args.next c.args.i c.if-h-i.false
