-- `copy_order::ahead` meets its contract. Assumes nothing.
use Rattle.copy_order.proofs.Priorities.{ahead_apart, ahead_alike}
use Rattle.copy_order.proofs.ahead.Goals as goal

pub returns-then-fill_a-fill_b : goal.returns-then-fill_a-fill_b
returns-then-fill_a-fill_b c = let a = c.args in ahead_apart a.rows.now a.areas.now a.a a.b c.if-fill_a-fill_b.true

pub returns : goal.returns
returns c = let a = c.args in ahead_alike a.rows.now a.areas.now a.a a.b _ c.if-fill_a-fill_b.false c.higher_first.ensures
