-- `strips::bounds` meets its contract. Assumes nothing.
use mathlib.Core.Path.{sym, ◌∙◌}
use native.Mathlib.Omega.{arith}
use Rattle.strips.proofs.Boxes.{bounds-start, bounds-step, bounds-end}
use Rattle.strips.proofs.bounds.Goals as goal

pub loop-i-init : goal.loop-i-init
loop-i-init c = bounds-start c.args.points.now c.args.n

pub loop-i-preserved : goal.loop-i-preserved
loop-i-preserved c = let l = c.loop-i in let a = c.args in
    bounds-step a.points.now l.b c.widened-b.result l.i a.n (omega arith) c.widened-b.ensures ∙ l.invariant

pub returns : goal.returns
returns c = let l = c.loop-i in let a = c.args in sym (bounds-end a.points.now l.b l.i a.n (omega arith)) ∙ l.invariant
