-- `reach_copy`: no place, no such slot, or the strips of the slot. Assumes nothing.
use mathlib.Core.Path.{refl}
use Rattle.report.proofs.offcut.Reached.{copy-none, copy-kind, copy_turn, copy-there}
use Rattle.report.proofs.offcut.reach_copy.Goals.{then-number-eq0-via-then-number-eq0, then-number-eq0-via-else-number-eq0+then-kind-ge64, then-number-eq0-via-else-number-eq0+else-kind-ge64+then-number-gt16}
use Rattle.report.proofs.offcut.reach_copy.Goals as goal

pub returns-then-number-eq0 : goal.returns-then-number-eq0
returns-then-number-eq0 c = let a = c.args in elim c.then-number-eq0.branch [
  | then-number-eq0-via-then-number-eq0 w ↦ copy-none a.parts.now a.shapes.now a.kind a.x a.a a.number w.if-number-eq0.true
  | then-number-eq0-via-else-number-eq0+then-kind-ge64 w ↦ copy-kind a.parts.now a.shapes.now a.kind a.x a.a a.number w.if-kind-ge64.true
  | then-number-eq0-via-else-number-eq0+else-kind-ge64+then-number-gt16 w ↦ copy_turn a.parts.now a.shapes.now a.kind a.x a.a a.number w.if-number-gt16.true
]

pub returns : goal.returns
returns c = let a = c.args in
    copy-there a.parts.now a.shapes.now a.kind a.x a.a a.number _
    c.part_of-part.result.now c.reach_moved.result c.if-number-eq0.false
    c.if-kind-ge64.false c.if-number-gt16.false
    refl c.part_of-part.ensures c.reach_moved.ensures
