-- `copy_order::higher_first` meets its contract. Assumes nothing.
use Rattle.copy_order.proofs.Priorities.{higher_yes, higher_no, higher_same}
use Rattle.copy_order.proofs.higher_first.Goals as goal

pub returns-then-lower_at : goal.returns-then-lower_at
returns-then-lower_at c = let a = c.args in higher_yes a.rows.now a.areas.now a.a a.b _ c.lower_at.ensures c.if-lower_at.true

pub returns-then-not-lower_at : goal.returns-then-not-lower_at
returns-then-not-lower_at c = let a = c.args in
    higher_same a.rows.now a.areas.now a.a a.b _ _ _ c.lower_at.ensures c.if-lower_at.false c.lower_at-else-lower_at.ensures c.if-not-lower_at.true
    c.larger_first.ensures

pub returns-else-not-lower_at : goal.returns-else-not-lower_at
returns-else-not-lower_at c = let a = c.args in
    higher_no a.rows.now a.areas.now a.a a.b _ _ c.lower_at.ensures c.if-lower_at.false c.lower_at-else-lower_at.ensures c.if-not-lower_at.false
