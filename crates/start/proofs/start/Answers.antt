-- `start::start` meets its contract. Assumes nothing.
use Rattle.rooms.proofs.Zeroing.{zeroed, zeroed-doubles}
use mathlib.Core.Path.{refl}
use Rattle.start.proofs.Starting.{whole}
use Rattle.filling.specs.Rooms.{lent_of}
use Rattle.start.proofs.start.Goals as goal

pub returns : goal.returns
returns c = let a = c.args in
    let l = lent_of a.shapes.now a.sheet.now a.placed.now a.sheet_entries.now a.placed_entries.now a.sheet_firsts.now
    a.placed_firsts.now a.intervals.now a.positions.now in
    whole a.bytes.now a.order.now l c.begin.result c.begin.new.shapes c.begin.new.sheet c.fill-3.new.self
    c.begin.new.sheet_entries c.fill-5.new.self c.begin.new.sheet_firsts c.fill-7.new.self c.fill-8.new.self
    c.fill-9.new.self
    (c.begin.ensures l (record {
      shapes_zero = zeroed-doubles _ c.fill.ensures.after;
      sheet_zero = zeroed-doubles _ c.fill-2.ensures.after;
      entries_zero = zeroed _ c.fill-4.ensures.after;
      firsts_zero = zeroed _ c.fill-6.ensures.after;
    }) refl)
    (zeroed-doubles _ c.fill-3.ensures.after) (zeroed _ c.fill-5.ensures.after) (zeroed _ c.fill-7.ensures.after) (zeroed-doubles _ c.fill-8.ensures.after) (zeroed-doubles _ c.fill-9.ensures.after)
