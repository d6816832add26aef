use native.Mathlib.Omega.{arith}
use Rattle.look_test.proofs.Tested.{one_more}
use Rattle.look_test.proofs.all_bounded.Goals as goal

pub loop-x-preserved : goal.loop-x-preserved
loop-x-preserved c = let l = c.loop-x in one_more c.args.xs.now l.x-index l.invariant (c.bounded.ensures c.if-not-bounded.false)

pub returns : goal.returns
returns c = λ e j h. c.loop-x.invariant j (omega (arith, h))
