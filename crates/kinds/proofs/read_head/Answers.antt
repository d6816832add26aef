-- `kinds::read_head` meets its contract. Assumes nothing.
use Rattle.std.proofs.Common.{rules}
use lib.Ieee.{of_int, of_bits}
use Rattle.kinds.proofs.Heads.{head-1, head-2, head-3, head-4, head-5, head_in}
use Rattle.kinds.proofs.read_head.Goals as goal

pub returns-in_err-quantity : goal.returns-in_err-quantity
returns-in_err-quantity c = search (rules, head-1 c.args.bytes.now c.args.at c.in_err-quantity.ensures.0)

pub returns-in_err-fill : goal.returns-in_err-fill
returns-in_err-fill c = search (rules, head-2 c.args.bytes.now c.args.at c.in_ok-quantity.ensures.0 c.in_err-fill.ensures)

pub returns-in_err-priority : goal.returns-in_err-priority
returns-in_err-priority c = search (rules, head-3 c.args.bytes.now c.args.at c.in_ok-quantity.ensures.0 c.in_ok-fill.ensures c.in_err-priority.ensures)

pub returns-in_err-area : goal.returns-in_err-area
unfolding of_int of_bits
returns-in_err-area c = search (rules, head-4 c.args.bytes.now c.args.at c.in_ok-quantity.ensures.0 c.in_ok-fill.ensures c.in_ok-priority.ensures c.in_err-area.ensures)

pub returns-in_err-orientations : goal.returns-in_err-orientations
unfolding of_int of_bits
returns-in_err-orientations c = search (rules, head-5 c.args.bytes.now c.args.at c.in_ok-quantity.ensures.0 c.in_ok-fill.ensures c.in_ok-priority.ensures c.in_ok-area.ensures c.in_err-orientations.ensures.0)

pub returns : goal.returns
unfolding of_int of_bits
returns c = (
  head_in c.args.bytes.now c.args.at c.in_ok-quantity.ensures.0 c.in_ok-fill.ensures c.in_ok-priority.ensures c.in_ok-area.ensures c.in_ok-orientations.ensures.0,
  (c.in_ok-quantity.ensures.1, c.in_ok-orientations.ensures.1),
)
