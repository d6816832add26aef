-- `in_range` meets its contract, case by case. Assumes nothing.
use mathlib.Core.Path.{sym, ap, ◌∙◌}
use Prim.Native.Nat.{ℕ}
use Rattle.search.specs.columns.inner.Stands.{column_x}
use Rattle.layouts.specs.Layouts.{among_columns}
use Rattle.placement.proofs.range.Columned.{range_reversed, range_height, range_in, range_column}
use Rattle.placement.proofs.range.in_range.Goals.{then-reversed-via-then-reversed, then-reversed-via-else-reversed+then-not-within}
use Rattle.placement.proofs.range.in_range.Goals as goal

pub returns-then-reversed : goal.returns-then-reversed
returns-then-reversed c = let a = c.args in
    elim c.then-reversed.branch [
      | then-reversed-via-then-reversed w ↦ sym (range_reversed a.k a.x a.y (sym c.reversed.ensures ∙ w.if-reversed.true))
      | then-reversed-via-else-reversed+then-not-within w ↦ sym (range_height a.k a.x a.y (sym w.within.ensures ∙ w.if-not-within.true))
    ]

pub returns-then-within : goal.returns-then-within
returns-then-within c = let a = c.args in
    c.if-within.true
    ∙ sym (range_in a.k a.x a.y (sym c.reversed.ensures ∙ c.if-reversed.false) (sym c.within.ensures ∙ c.if-not-within.false)
    (sym c.within-2.ensures ∙ c.if-within.true))

pub returns-else-within : goal.returns-else-within
returns-else-within c = let a = c.args in
    c.among.ensures
    ∙ ap (λ (n : ℕ). among_columns (column_x a.k) n a.x) c.last-last.ensures.0
    ∙ sym (range_column a.k a.x a.y (sym c.reversed.ensures ∙ c.if-reversed.false) (sym c.within.ensures ∙ c.if-not-within.false)
    (sym c.within-2.ensures ∙ c.if-within.false))
