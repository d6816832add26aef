use Rattle.shapes.specs.slots.inner.Slots.{slot_bounds, BoundsTo}
use Rattle.shapes.proofs.slots.lay_bounds.Given as goal

abbrev pub invariant-loop-i : goal.invariant-loop-i
invariant-loop-i l = BoundsTo (slot_bounds l.f l.bytes l.rows l.places l.kinds) l.i l.initial.table l.table
