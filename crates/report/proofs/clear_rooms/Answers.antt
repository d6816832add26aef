-- `clear_rooms`: each room in turn. Assumes nothing.
use Rattle.rooms.proofs.Zeroing.{zeroed, zeroed-doubles}
use Rattle.report.proofs.clear_rooms.Goals as goal

pub shape_of-shapes : goal.shape_of-shapes
shape_of-shapes c = c.fill.auto.self

pub shape_of-sheet : goal.shape_of-sheet
shape_of-sheet c = c.fill-2.auto.self

pub shape_of-placed : goal.shape_of-placed
shape_of-placed c = c.fill-3.auto.self

pub shape_of-sheet_entries : goal.shape_of-sheet_entries
shape_of-sheet_entries c = c.fill-4.auto.self

pub shape_of-placed_entries : goal.shape_of-placed_entries
shape_of-placed_entries c = c.fill-5.auto.self

pub shape_of-sheet_firsts : goal.shape_of-sheet_firsts
shape_of-sheet_firsts c = c.fill-6.auto.self

pub shape_of-placed_firsts : goal.shape_of-placed_firsts
shape_of-placed_firsts c = c.fill-7.auto.self

pub returns : goal.returns
returns c = (
  (zeroed-doubles _ c.fill.ensures.after),
  (zeroed-doubles _ c.fill-2.ensures.after),
  (zeroed-doubles _ c.fill-3.ensures.after),
  (zeroed _ c.fill-4.ensures.after),
  (zeroed _ c.fill-5.ensures.after),
  (zeroed _ c.fill-6.ensures.after),
  (zeroed _ c.fill-7.ensures.after),
)
