-- `shapes::slots::slot_bounds` meets its contract. Assumes nothing.
use mathlib.Core.Path.{sym, ◌∙◌}
use Rattle.filling.specs.Shapes.{no_bounds}
use Rattle.shapes.proofs.slots.SlotWalk.{bounds_used, bounds_unused}
use Rattle.shapes.proofs.slots.slot_bounds.Goals as goal

pub returns-then-not-in_use : goal.returns-then-not-in_use
unfolding no_bounds lib.Ieee.of_bits
returns-then-not-in_use c = let a = c.args in
    bounds_unused a.f a.bytes.now a.rows.now a.places.now a.kinds a.i (sym c.in_use.ensures ∙ c.if-not-in_use.true)

pub returns : goal.returns
returns c = let a = c.args in
    c.set_bounds.ensures ∙ bounds_used a.f a.bytes.now a.rows.now a.places.now a.kinds a.i (sym c.in_use.ensures ∙ c.if-not-in_use.false)
