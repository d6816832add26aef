-- `judge_text::verdict_line`: each verdict has its line. Assumes nothing.
use Rattle.judge_text.specs.Judging.{accepted_line}
use Rattle.judge_text.proofs.Printing.{verdict-accepted, verdict-refused}
use Rattle.judge_text.proofs.verdict_line.Goals as goal

pub no_line-requires : goal.no_line-requires
no_line-requires c = c.requires

pub shape_of-out-in-Ok : goal.shape_of-out-in-Ok
shape_of-out-in-Ok c = c.line_text.auto.out

pub returns-in-Ok : goal.returns-in-Ok
unfolding accepted_line
returns-in-Ok c = verdict-accepted c.args.verdict c.args.n c.args.out.now _ c.in-Ok.is
    c.line_text.ensures

pub shape_of-out-in-Err : goal.shape_of-out-in-Err
shape_of-out-in-Err c = c.no_line.auto.out

pub returns-in-Err : goal.returns-in-Err
returns-in-Err c = verdict-refused c.args.verdict c.in-Err.k c.refusal_number-number.result c.args.n c.args.out.now _ c.in-Err.is
    c.refusal_number-number.ensures c.no_line.ensures
