-- `judge_text::no_line`: the line, zeros after it. Assumes nothing.
use Rattle.judge_text.specs.Judging.{no_line}
use Rattle.judge_text.proofs.no_line.Goals as goal

pub returns : goal.returns
unfolding no_line
returns c = c.line_text.ensures
