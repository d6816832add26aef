-- `shapes::slots::lay_slots` meets its contract. Assumes nothing.
use Rattle.std.specs.Prelude.{None}
use borrow.Author.Rules.{rules}
use mathlib.Core.Path.{◌≡◌}
use native.Mathlib.Omega.{arith}
use Rattle.shapes.specs.slots.inner.Slots.{slot_strips}
use Rattle.shapes.proofs.slots.SlotWalk.{strips-start, strips_on, more_fits, strips_over, strips_all}
use Rattle.shapes.proofs.slots.lay_slots.Goals as goal

pub loop-i-init : goal.loop-i-init
loop-i-init c = let a = c.args in
    strips-start a.which (slot_strips a.f a.bytes.now a.rows.now a.places.now a.kinds a.which) a.from a.shapes.now a.parts.now c.requires.2 c.requires.3

pub overflow_add-held : goal.overflow_add-held
overflow_add-held c = let a = c.args in let l = c.loop-i in let g = c.slot_strips in
    let h = more_fits a.which (slot_strips a.f a.bytes.now a.rows.now a.places.now a.kinds a.which) a.from a.shapes.now a.parts.now c.requires.2 c.requires.3
    l.shapes l.parts l.i l.held l.invariant g.new.shapes c.in_ok-n.n g.result g.ensures c.in_ok-n.was in
    omega (arith, h)

pub returns-in_err-n : goal.returns-in_err-n
returns-in_err-n c = let a = c.args in let l = c.loop-i in let g = c.slot_strips in
    let e : c.from_residual.result ≡ None = search rules in
    rw e (strips_over a.which (slot_strips a.f a.bytes.now a.rows.now a.places.now a.kinds a.which) a.from a.shapes.now a.parts.now c.requires.2 c.requires.3
    l.shapes l.parts l.i l.held l.invariant g.new.shapes g.result (omega arith) g.ensures c.in_err-n.was)

pub loop-i-preserved : goal.loop-i-preserved
loop-i-preserved c = let a = c.args in let l = c.loop-i in let g = c.slot_strips in
    strips_on a.which (slot_strips a.f a.bytes.now a.rows.now a.places.now a.kinds a.which) a.from a.shapes.now a.parts.now c.requires.2 c.requires.3
    l.shapes l.parts l.i l.held l.invariant g.new.shapes c.in_ok-n.n g.result (omega arith) c.requires.4 g.ensures c.in_ok-n.was

pub returns : goal.returns
returns c = let a = c.args in let l = c.loop-i in
    strips_all a.which (slot_strips a.f a.bytes.now a.rows.now a.places.now a.kinds a.which) a.from a.shapes.now a.parts.now c.requires.2 c.requires.3
    l.shapes l.parts l.i l.held l.invariant (omega arith)
