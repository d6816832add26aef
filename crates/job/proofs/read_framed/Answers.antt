-- `job::read_framed` meets its contract. Assumes nothing.
use Rattle.std.proofs.Common.{rules}
use Rattle.job.proofs.Headers.{framed-1, framed-2, framed_in}
use Rattle.job.proofs.read_framed.Goals as goal

pub returns-in_err-corner : goal.returns-in_err-corner
returns-in_err-corner c = search (rules, framed-1 c.args.bytes.now 4 c.in_err-corner.ensures)

pub returns-in_err-axis : goal.returns-in_err-axis
returns-in_err-axis c = search (rules, framed-2 c.args.bytes.now 4 c.in_ok-corner.ensures c.in_err-axis.ensures)

pub returns : goal.returns
returns c = (framed_in c.args.bytes.now 4 c.in_ok-corner.ensures c.in_ok-axis.ensures c.read_front.ensures.0, c.read_front.ensures.1)
