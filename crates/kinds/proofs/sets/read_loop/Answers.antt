-- `kinds::sets::read_loop` meets its contract. Assumes nothing.
use native.Mathlib.Omega.{arith}
use Prim.Native.Nat.{◌*◌}
use lib.ListN.{take}
use Rattle.std.proofs.Common.{rules}
use Rattle.kinds.proofs.sets.Reading.{loop_count, loop_bad, loop_in}
use Rattle.kinds.proofs.sets.read_loop.Goals as goal

pub returns : goal.returns
returns c = (
  loop_in c.args.bytes.now c.args.at c.args.before (take (2 * c.args.before) c.args.room.now) c.in_ok-k.ensures.0 c.in_ok-q.ensures.0,
  (omega arith, c.in_ok-k.ensures.1, omega (arith, c.in_ok-q.ensures.1)),
)

pub returns-in_err-q : goal.returns-in_err-q
returns-in_err-q c = search (rules, loop_bad c.args.bytes.now c.args.at c.args.before (take (2 * c.args.before) c.args.room.now) c.in_ok-k.ensures.0 c.in_err-q.ensures.0)

pub returns-in_err-k : goal.returns-in_err-k
returns-in_err-k c = search (rules, loop_count c.args.bytes.now c.args.at c.args.before (take (2 * c.args.before) c.args.room.now) c.in_err-k.ensures.0)
