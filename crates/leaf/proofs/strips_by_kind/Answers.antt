-- `leaf::strips_by_kind` meets its contract: the flag picks the room and the numbers of its part. Assumes nothing.
use mathlib.Core.Path.{sym, ap, ◌∙◌}
use mathlib.Core.Bool.{cond}
use Rattle.leaf.proofs.ByKind.{strips-refused, strips-given}
use Rattle.leaf.proofs.strips_by_kind.Goals.{then-is_inset, else-is_inset}
use Rattle.leaf.proofs.strips_by_kind.Goals as goal

pub returns-then-is_err : goal.returns-then-is_err
returns-then-is_err c = let a = c.args in
    strips-refused a.bytes.now a.kind a.orientation a.parts.now a.apart.now a.inset.now a.is_inset
    _ c.shape_verdict.ensures (sym c.is_err.ensures.value ∙ c.if-is_err.true)

pub returns : goal.returns
returns c = let a = c.args in
    c.strips_of.ensures ∙ strips-given a.bytes.now a.kind a.orientation a.parts.now a.apart.now a.inset.now a.is_inset c.if-is_inset.field _ _
    _ c.shape_verdict.ensures (sym c.is_err.ensures.value ∙ c.if-is_err.false)
    (elim c.if-is_inset.branch [
      | then-is_inset w ↦ w.field-is ∙ sym (ap (λ b. cond b 2 0) w.if-is_inset.true)
      | else-is_inset w ↦ w.field-is ∙ sym (ap (λ b. cond b 2 0) w.if-is_inset.false)
    ])
    c.number_at-from.ensures c.number_at-count.ensures
