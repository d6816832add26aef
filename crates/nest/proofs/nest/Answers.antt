-- `nest`: zeros, the whole plan, zeros. Assumes nothing.
use Rattle.rooms.proofs.Zeroing.{zeroed-doubles}
use mathlib.Core.Path.{◌∙◌}
use Rattle.numbers.specs.Numbers.{pos_zero}
use Rattle.nesting.specs.Nest.{nest_of}
use Rattle.report.proofs.readied.Left.{zeros-after, together}
use Rattle.nest.proofs.Whole.{nest_zero}
use Rattle.filling.specs.Rooms.{lent_of}
use Rattle.nest.proofs.nest.Goals as goal

pub nest_bytes-r-requires : goal.nest_bytes-r-requires
nest_bytes-r-requires c = let a = c.args in (
  (lent_of a.shapes.now a.sheet.now a.placed.now a.sheet_entries.now a.placed_entries.now a.sheet_firsts.now a.placed_firsts.now
      a.intervals.now a.positions.now),
  record {
    shapes_zero = c.clear.ensures.0;
    sheet_zero = c.clear.ensures.1;
    placed_zero = c.clear.ensures.2;
    sheet_entries_zero = c.clear.ensures.3;
    placed_entries_zero = c.clear.ensures.4;
    intervals_zero = c.clear.ensures.5;
    positions_zero = zeroed-doubles _ c.fill.ensures.after;
    sheet_firsts_zero = c.clear.ensures.6;
    placed_firsts_zero = c.clear.ensures.7;
  },
)

pub shape_of-shapes : goal.shape_of-shapes
shape_of-shapes c = c.clear-2.auto.shapes ∙ (c.nest_bytes-r.auto.shapes ∙ c.clear.auto.shapes)

pub shape_of-sheet : goal.shape_of-sheet
shape_of-sheet c = c.clear-2.auto.sheet ∙ (c.nest_bytes-r.auto.sheet ∙ c.clear.auto.sheet)

pub shape_of-placed : goal.shape_of-placed
shape_of-placed c = c.clear-2.auto.placed ∙ (c.nest_bytes-r.auto.placed ∙ c.clear.auto.placed)

pub shape_of-sheet_entries : goal.shape_of-sheet_entries
shape_of-sheet_entries c = c.clear-2.auto.sheet_entries ∙ (c.nest_bytes-r.auto.sheet_entries ∙ c.clear.auto.sheet_entries)

pub shape_of-placed_entries : goal.shape_of-placed_entries
shape_of-placed_entries c = c.clear-2.auto.placed_entries ∙ (c.nest_bytes-r.auto.placed_entries ∙ c.clear.auto.placed_entries)

pub shape_of-sheet_firsts : goal.shape_of-sheet_firsts
shape_of-sheet_firsts c = c.clear-2.auto.sheet_firsts ∙ (c.nest_bytes-r.auto.sheet_firsts ∙ c.clear.auto.sheet_firsts)

pub shape_of-placed_firsts : goal.shape_of-placed_firsts
shape_of-placed_firsts c = c.clear-2.auto.placed_firsts ∙ (c.nest_bytes-r.auto.placed_firsts ∙ c.clear.auto.placed_firsts)

pub shape_of-intervals : goal.shape_of-intervals
shape_of-intervals c = c.clear-2.auto.intervals ∙ (c.nest_bytes-r.auto.intervals ∙ c.clear.auto.intervals)

pub shape_of-positions : goal.shape_of-positions
shape_of-positions c = c.nest_bytes-r.auto.positions ∙ c.fill.auto.self

pub returns : goal.returns
returns c = let a = c.args in
    let l = lent_of a.shapes.now a.sheet.now a.placed.now a.sheet_entries.now a.placed_entries.now
    a.sheet_firsts.now a.placed_firsts.now a.intervals.now a.positions.now in
    rw c.from.ensures
    (together l (nest_of a.bytes.now l) (nest_zero a.bytes.now l) c.nest_bytes-r.result _ _ _ _ _ _ _ _ _
    (zeros-after pos_zero _ _ a.shapes.now c.clear-2.ensures.0 (c.nest_bytes-r.auto.shapes ∙ c.clear.auto.shapes))
    (zeros-after pos_zero _ _ a.sheet.now c.clear-2.ensures.1 (c.nest_bytes-r.auto.sheet ∙ c.clear.auto.sheet))
    (zeros-after pos_zero _ _ a.placed.now c.clear-2.ensures.2 (c.nest_bytes-r.auto.placed ∙ c.clear.auto.placed))
    (zeros-after 0 _ _ a.sheet_entries.now c.clear-2.ensures.3 (c.nest_bytes-r.auto.sheet_entries ∙ c.clear.auto.sheet_entries))
    (zeros-after 0 _ _ a.placed_entries.now c.clear-2.ensures.4 (c.nest_bytes-r.auto.placed_entries ∙ c.clear.auto.placed_entries))
    (zeros-after 0 _ _ a.sheet_firsts.now c.clear-2.ensures.6
    (c.nest_bytes-r.auto.sheet_firsts ∙ c.clear.auto.sheet_firsts))
    (zeros-after 0 _ _ a.placed_firsts.now c.clear-2.ensures.7
    (c.nest_bytes-r.auto.placed_firsts ∙ c.clear.auto.placed_firsts))
    (zeros-after pos_zero _ _ a.intervals.now c.clear-2.ensures.5 (c.nest_bytes-r.auto.intervals ∙ c.clear.auto.intervals))
    (c.nest_bytes-r.ensures l (record {
      shapes_zero = c.clear.ensures.0;
      sheet_zero = c.clear.ensures.1;
      placed_zero = c.clear.ensures.2;
      sheet_entries_zero = c.clear.ensures.3;
      placed_entries_zero = c.clear.ensures.4;
      intervals_zero = c.clear.ensures.5;
      positions_zero = zeroed-doubles _ c.fill.ensures.after;
      sheet_firsts_zero = c.clear.ensures.6;
      placed_firsts_zero = c.clear.ensures.7;
    })))
