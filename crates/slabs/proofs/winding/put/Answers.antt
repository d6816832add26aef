-- `slabs::winding::put` meets its contract. Assumes nothing.
use native.Mathlib.Omega.{arith}
use Rattle.slabs.proofs.Storing.{cap_next, put_stores, put_stops}
use Rattle.trapezoid.proofs.Strips.{strip_in_room}
use Rattle.slabs.proofs.winding.put.Goals as goal

pub store-requires : goal.store-requires
store-requires c = let a = c.args in let g = c.capacity-cap in strip_in_room a.room.now a.n g.result g.ensures c.if-n-cap.true

pub returns-then-n-cap : goal.returns-then-n-cap
returns-then-n-cap c = let a = c.args in let g = c.store in let h = c.capacity-cap in put_stores a.room.now g.new.room a.n h.result a.s h.ensures c.if-n-cap.true g.ensures

pub returns-else-n-cap : goal.returns-else-n-cap
returns-else-n-cap c = let a = c.args in put_stops a.room.now a.n c.capacity-cap.result a.s c.capacity-cap.ensures c.if-n-cap.false

pub overflow_add-result-else-n-cap : goal.overflow_add-result-else-n-cap
overflow_add-result-else-n-cap c = let a = c.args in omega (arith, cap_next a.room.now c.capacity-cap.result c.capacity-cap.ensures)
