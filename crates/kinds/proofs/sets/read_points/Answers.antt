-- `kinds::sets::read_points` meets its contract. Assumes nothing.
use Rattle.kinds.proofs.sets.Reading.{points_on, points-end, points_all}
use Rattle.std.proofs.Common.{arith, rules}
use Rattle.kinds.proofs.sets.read_points.Goals as goal

pub returns-in_err-x : goal.returns-in_err-x
returns-in_err-x c = search (
  rules,
  points-end c.args.bytes.now c.args.at c.args.n c.args.first c.args.room.now c.loop-i.room c.loop-i.i c.loop-i.p c.loop-i.invariant c.in_err-x.ensures
      (omega arith),
)

pub loop-i-preserved : goal.loop-i-preserved
loop-i-preserved c =
    points_on c.args.bytes.now c.args.at c.args.n c.args.first c.args.room.now c.loop-i.room c.loop-i.i c.loop-i.p c.loop-i.invariant c.in_ok-x.ensures
    (omega arith) c.requires.1 c.requires.2

pub returns : goal.returns
returns c =
    points_all c.args.bytes.now c.args.at c.args.n c.args.first c.args.room.now c.loop-i.room c.loop-i.i c.loop-i.p c.loop-i.invariant (omega arith)
