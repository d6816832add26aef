-- `kinds::sets::read_loops` meets its contract. Assumes nothing.
use Rattle.kinds.proofs.sets.Reading.{loops_on, loops_end, loops_all}
use Rattle.std.proofs.Common.{arith, rules}
use Rattle.kinds.proofs.sets.read_loops.Goals as goal

pub returns-in_err-m : goal.returns-in_err-m
returns-in_err-m c = search (
  rules,
  loops_end c.args.bytes.now c.args.at c.args.n c.args.room.now c.args.ends.now c.loop-i.room c.loop-i.ends c.loop-i.i c.loop-i.p c.loop-i.before
      c.loop-i.invariant c.in_err-m.ensures.0 (omega arith),
)

pub loop-i-preserved : goal.loop-i-preserved
loop-i-preserved c =
    loops_on c.args.bytes.now c.args.at c.args.n c.args.room.now c.args.ends.now c.loop-i.room c.loop-i.ends c.loop-i.i c.loop-i.p c.loop-i.before
    c.loop-i.invariant c.in_ok-m.ensures.0 c.in_ok-m.ensures.1 c.read_loop.auto.room (omega arith) c.requires.1 c.requires.3

pub returns : goal.returns
returns c =
    loops_all c.args.bytes.now c.args.at c.args.n c.args.room.now c.args.ends.now c.loop-i.room c.loop-i.ends c.loop-i.i c.loop-i.p c.loop-i.before
    c.loop-i.invariant (omega arith) c.requires.1
