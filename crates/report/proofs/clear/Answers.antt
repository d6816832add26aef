-- `clear`: the rooms, then the intervals. Assumes nothing.
use Rattle.rooms.proofs.Zeroing.{zeroed-doubles}
use Rattle.report.proofs.clear.Goals as goal

pub shape_of-shapes : goal.shape_of-shapes
shape_of-shapes c = c.clear_rooms.auto.shapes

pub shape_of-sheet : goal.shape_of-sheet
shape_of-sheet c = c.clear_rooms.auto.sheet

pub shape_of-placed : goal.shape_of-placed
shape_of-placed c = c.clear_rooms.auto.placed

pub shape_of-sheet_entries : goal.shape_of-sheet_entries
shape_of-sheet_entries c = c.clear_rooms.auto.sheet_entries

pub shape_of-placed_entries : goal.shape_of-placed_entries
shape_of-placed_entries c = c.clear_rooms.auto.placed_entries

pub shape_of-intervals : goal.shape_of-intervals
shape_of-intervals c = c.fill.auto.self

pub shape_of-sheet_firsts : goal.shape_of-sheet_firsts
shape_of-sheet_firsts c = c.clear_rooms.auto.sheet_firsts

pub shape_of-placed_firsts : goal.shape_of-placed_firsts
shape_of-placed_firsts c = c.clear_rooms.auto.placed_firsts

pub returns : goal.returns
returns c = let e = c.clear_rooms.ensures in
    (e.0, e.1, e.2, e.3, e.4, zeroed-doubles _ c.fill.ensures.after, e.5, e.6)
