-- `shapes::slots::put_bounds` meets its contract. Assumes nothing.
use Rattle.shapes.proofs.slots.SlotWalk.{stores_in, stores_here, stores_other}
use Rattle.shapes.proofs.slots.put_bounds.Goals as goal

pub bounds-table-at-2 : goal.bounds-table-at-2
bounds-table-at-2 c = (stores_in c.args.table.now c.args.i c.args.b c.requires).0

pub bounds-table-at-3 : goal.bounds-table-at-3
bounds-table-at-3 c = (stores_in c.args.table.now c.args.i c.args.b c.requires).1

pub bounds-table-at-4 : goal.bounds-table-at-4
bounds-table-at-4 c = (stores_in c.args.table.now c.args.i c.args.b c.requires).2

pub returns : goal.returns
returns c = (stores_here c.args.table.now c.args.i c.args.b c.requires, stores_other c.args.table.now c.args.i c.args.b c.requires)
