use native.Mathlib.Omega.{arith}
use Rattle.trapezoid.specs.Strip.{capacity}
use Rattle.strips.specs.Strips.{trapezoids}
use Rattle.strips.specs.inner.Tables.{strips_stored}
use Rattle.bench_exports.proofs.Told.{told_unwrap}
use Rattle.bench_exports.proofs.panel_trapezoids.Goals as goal

pub overflow_add-capacity : goal.overflow_add-capacity
unfolding capacity
overflow_add-capacity c = omega (arith, c.capacity.ensures)

pub returns : goal.returns
returns c = let a = c.args in
    let g = c.trapezoids-stored in
    told_unwrap (strips_stored (trapezoids a.points.now a.n a.ends.now a.sheet) a.room.now 0) g.result a.room.now
    g.new.room c.capacity.result c.unwrap_or.result g.ensures g.auto.room c.capacity.ensures c.unwrap_or.ensures
