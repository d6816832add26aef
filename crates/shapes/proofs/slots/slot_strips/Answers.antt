-- `shapes::slots::slot_strips` meets its contract. Assumes nothing.
use mathlib.Core.Path.{sym, ap, ◌∙◌}
use mathlib.Core.List.{List}
use Rattle.trapezoid.specs.declared.Trapezoid.{Trapezoid}
use Rattle.shapes.proofs.slots.SlotWalk.{strips_used, nothing-laid}
use Rattle.strips.specs.inner.Tables.{strips_stored}
use Rattle.shapes.proofs.slots.slot_strips.Goals as goal

pub returns-then-not-in_use : goal.returns-then-not-in_use
returns-then-not-in_use c = let a = c.args in
    nothing-laid a.f a.bytes.now a.rows.now a.places.now a.kinds a.which a.i a.shapes.now a.from (sym c.in_use.ensures ∙ c.if-not-in_use.true) c.requires.4

pub returns : goal.returns
returns c = let a = c.args in
    c.set_strips.ensures ∙ ap (λ (l : List Trapezoid). strips_stored l a.shapes.now a.from)
    (strips_used a.f a.bytes.now a.rows.now a.places.now a.kinds a.which a.i (sym c.in_use.ensures ∙ c.if-not-in_use.false))
