-- `slabs::cross` meets its contract. Assumes nothing.
use Rattle.slabs.specs.Slab.{crossing}
use Rattle.slabs.proofs.Rows.{cross_on, cross_back}
use Rattle.slabs.proofs.cross.Goals as goal

pub returns-then-e : goal.returns-then-e
unfolding crossing
returns-then-e c = let a = c.args in let g = c.height_at-ya in let h = c.height_at-yb in cross_on a.xa a.xb a.e g.result h.result g.ensures h.ensures c.if-e.true

pub returns-else-e : goal.returns-else-e
unfolding crossing
returns-else-e c = let a = c.args in let g = c.height_at-ya in let h = c.height_at-yb in cross_back a.xa a.xb a.e g.result h.result g.ensures h.ensures c.if-e.false
