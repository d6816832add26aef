use Rattle.shapes.specs.slots.inner.Slots.{slot_strips}
use Rattle.shapes.proofs.slots.SlotWalk.{StripsTo}
use Rattle.shapes.proofs.slots.lay_slots.Given as goal

abbrev pub invariant-loop-i : goal.invariant-loop-i
invariant-loop-i l = StripsTo l.which (slot_strips l.f l.bytes l.rows l.places l.kinds l.which) l.from l.initial.shapes l.initial.parts l.shapes l.parts l.i l.held
