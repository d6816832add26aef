-- `strips::trapezoids` meets its contract. Assumes nothing.
use Rattle.strips.specs.Strips.{trapezoids}
use Rattle.strips.proofs.Laying.{from-count, stored_yes, stored_no}
use Rattle.strips.proofs.trapezoids.Goals as goal

pub returns-then-capacity-count : goal.returns-then-capacity-count
returns-then-capacity-count c = let a = c.args in let g = c.add_strips-count in
    stored_no (trapezoids a.points.now a.n a.ends.now a.sheet) a.room.now g.new.room a.from g.result
    c.requires.6 g.ensures c.capacity.result c.capacity.ensures g.auto.room c.if-capacity-count.true

pub returns-else-capacity-count : goal.returns-else-capacity-count
returns-else-capacity-count c = let a = c.args in let g = c.add_strips-count in
    stored_yes (trapezoids a.points.now a.n a.ends.now a.sheet) a.room.now g.new.room a.from g.result
    c.requires.6 g.ensures c.capacity.result c.capacity.ensures g.auto.room c.if-capacity-count.false

pub overflow_sub-result : goal.overflow_sub-result
overflow_sub-result c = let a = c.args in let g = c.add_strips-count in
    from-count (trapezoids a.points.now a.n a.ends.now a.sheet) a.room.now g.new.room a.from g.result
    c.requires.6 g.ensures c.capacity.result c.capacity.ensures g.auto.room c.if-capacity-count.false
