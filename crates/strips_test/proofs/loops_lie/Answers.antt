-- `strips_test::loops_lie` meets its contract. Assumes nothing.
use native.Mathlib.Omega.{arith}
use borrow.Author.Tests.{eqb-true}
use Rattle.strips.proofs.EdgeTable.{loops_back, loops_done}
use Rattle.strips_test.proofs.loops_lie.Goals as goal

pub loop-x-preserved : goal.loop-x-preserved
loop-x-preserved c = let l = c.loop-x in
    let a = c.args in
    let f = c.from-end.ensures in
    λ h. l.invariant (loops_back a.ends.now l.first a.n l.x-index (omega arith) (omega arith) (omega arith) (rw f at h))

pub returns : goal.returns
returns c = let l = c.loop-x in let a = c.args in λ e. l.invariant (loops_done a.ends.now l.first a.n l.x-index (omega arith) (eqb-true l.first a.n e))
