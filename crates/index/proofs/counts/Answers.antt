use mathlib.Core.Path.{sym, ◌∙◌}
use mathlib.Core.Bool.{true≢false}
use Rattle.index.specs.Intervals.{counts_of}
use Rattle.index.proofs.counts.Goals.{then-i, else-i}
use Rattle.index.proofs.counts.Goals as goal

pub returns-then-y_low-i : goal.returns-then-y_low-i
unfolding counts_of
returns-then-y_low-i c =
    elim c.if-i.branch [
      | then-i w ↦ rw (w.if-i.true, sym w.value-is ∙ c.if-y_low-i.true)
      | else-i w ↦ absurd (true≢false (sym c.if-y_low-i.true ∙ (w.value-is ∙ w.if-i.false)))
    ]

pub returns-else-y_low-i : goal.returns-else-y_low-i
unfolding counts_of
returns-else-y_low-i c =
    elim c.if-i.branch [
      | then-i w ↦ rw (w.if-i.true, w.value-is, sym w.value-is ∙ c.if-y_low-i.false)
      | else-i w ↦ w.value-is ∙ rw w.if-i.false
    ]
