-- `kinds::sets::read_set` meets its contract. Assumes nothing.
use Rattle.std.proofs.Common.{rules}
use Rattle.kinds.proofs.sets.Reading.{set-count, set_in_lem, set_wide}
use Rattle.kinds.proofs.sets.read_set.Goals as goal

pub returns : goal.returns
returns c = (
  set_in_lem c.args.bytes.now c.args.at c.in_ok-n.ensures.0 c.read_loops.ensures.0,
  set_wide c.read_loops.result c.args.at c.read_loops.ensures.1,
)

pub returns-in_err-n : goal.returns-in_err-n
returns-in_err-n c = search (rules, set-count c.args.bytes.now c.args.at c.in_err-n.ensures.0)
