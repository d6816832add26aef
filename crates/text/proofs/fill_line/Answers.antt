-- `text::fill_line` meets its contract. Assumes nothing.
use Rattle.lines.proofs.Appending.{put_none, put-same}
use Rattle.text.proofs.ByKind.{fill_yes, fill_no}
use Rattle.text.proofs.fill_line.Goals as goal

pub returns-then-fill : goal.returns-then-fill
returns-then-fill c = put-same (fill_yes c.args.k c.args.n c.args.fill c.if-fill.true) c.line.ensures

pub returns-else-fill : goal.returns-else-fill
returns-else-fill c = put-same (fill_no c.args.k c.args.n c.args.fill c.if-fill.false) (put_none c.args.out.now)
