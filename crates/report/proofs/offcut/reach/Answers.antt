-- `reach`: copy by copy. Assumes nothing.
use native.Mathlib.Omega.{arith}
use mathlib.Core.Path.{◌≡◌, ap, ◌∙◌}
use lib.ListN.{length}
use Rattle.report.specs.offcut.inner.Reaching.{reach_to}
use Rattle.report.proofs.offcut.Reached.{copies-none, copies-next}
use Rattle.report.proofs.offcut.reach.Goals as goal

pub loop-i-init : goal.loop-i-init
loop-i-init c = let a = c.args in
    (copies-none a.parts.now a.shapes.now a.order.now a.orientation.now a.x.now a.right, omega arith)

pub bounds-order-i : goal.bounds-order-i
bounds-order-i c = (omega arith)

pub bounds-orientation-i : goal.bounds-orientation-i
bounds-orientation-i c = omega (arith, c.requires.0)

pub bounds-x-i : goal.bounds-x-i
bounds-x-i c = omega (arith, c.requires.1)

pub reach_copy-reach-requires : goal.reach_copy-reach-requires
reach_copy-reach-requires c = c.requires.2

pub loop-i-preserved : goal.loop-i-preserved
loop-i-preserved c = let a = c.args in
    let l = c.loop-i in (
      copies-next a.parts.now a.shapes.now a.order.now a.orientation.now a.x.now a.right l.reach c.reach_copy-reach.result l.i
          l.invariant.0 c.reach_copy-reach.ensures,
      omega arith,
    )

pub returns : goal.returns
returns c = let a = c.args in
    let l = c.loop-i in
    let e : l.i ≡ length a.order.now = omega (arith, l.invariant.1) in
    l.invariant.0 ∙ ap (reach_to a.parts.now a.shapes.now a.order.now a.orientation.now a.x.now a.right) e
