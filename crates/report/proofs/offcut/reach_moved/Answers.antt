-- `reach_moved`: strip by strip. Assumes nothing.
use native.Mathlib.Omega.{arith}
use mathlib.Core.Path.{sym}
use Rattle.trapezoid.proofs.Strips.{strip_in_room}
use Rattle.report.proofs.offcut.Reached.{reach_none, reach_step, reach_all}
use Rattle.report.proofs.offcut.reach_moved.Goals as goal

pub loop-i-init : goal.loop-i-init
loop-i-init c = let a = c.args in (sym (reach_none a.part.now a.x a.a), omega arith)

pub load-q-requires : goal.load-q-requires
load-q-requires c = strip_in_room c.args.part.now c.loop-i.i _ c.capacity-count.ensures (omega arith)

pub loop-i-preserved : goal.loop-i-preserved
loop-i-preserved c = let a = c.args in
    let l = c.loop-i in (
      reach_step a.part.now a.x a.a l.reach c.larger-reach.result l.i c.load-q.result l.invariant.0
          c.load-q.ensures c.larger-reach.ensures,
      omega (arith, c.capacity-count.ensures),
    )

pub returns : goal.returns
returns c = let a = c.args in
    let l = c.loop-i in
    reach_all a.part.now a.x a.a l.reach l.i l.invariant.0 (omega (arith, l.invariant.1, c.capacity-count.ensures))
