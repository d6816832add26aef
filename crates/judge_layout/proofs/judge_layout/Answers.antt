-- `judge_layout`: zeros, the list, zeros. Assumes nothing.
use mathlib.Core.Path.{◌∙◌}
use Rattle.numbers.specs.Numbers.{pos_zero}
use Rattle.filling.specs.Rooms.{rooms_of}
use Rattle.report.proofs.readied.Left.{zeros-after}
use Rattle.judge_layout.proofs.Whole.{cleared, whole_is}
use Rattle.judge_layout.proofs.judge_layout.Goals as goal

pub judge_bytes-r-requires : goal.judge_bytes-r-requires
judge_bytes-r-requires c = let a = c.args in (
  rooms_of a.shapes.now a.sheet.now a.placed.now a.sheet_entries.now a.placed_entries.now a.sheet_firsts.now a.placed_firsts.now,
  cleared _ _ _ _ _ _ _ _ c.clear_rooms.ensures,
)

pub shape_of-shapes : goal.shape_of-shapes
shape_of-shapes c = c.clear_rooms-2.auto.shapes ∙ (c.judge_bytes-r.auto.shapes ∙ c.clear_rooms.auto.shapes)

pub shape_of-sheet : goal.shape_of-sheet
shape_of-sheet c = c.clear_rooms-2.auto.sheet ∙ (c.judge_bytes-r.auto.sheet ∙ c.clear_rooms.auto.sheet)

pub shape_of-placed : goal.shape_of-placed
shape_of-placed c = c.clear_rooms-2.auto.placed ∙ (c.judge_bytes-r.auto.placed ∙ c.clear_rooms.auto.placed)

pub shape_of-sheet_entries : goal.shape_of-sheet_entries
shape_of-sheet_entries c = c.clear_rooms-2.auto.sheet_entries ∙ (c.judge_bytes-r.auto.sheet_entries ∙ c.clear_rooms.auto.sheet_entries)

pub shape_of-placed_entries : goal.shape_of-placed_entries
shape_of-placed_entries c = c.clear_rooms-2.auto.placed_entries ∙ c.clear_rooms.auto.placed_entries

pub shape_of-sheet_firsts : goal.shape_of-sheet_firsts
shape_of-sheet_firsts c = c.clear_rooms-2.auto.sheet_firsts ∙ (c.judge_bytes-r.auto.sheet_firsts ∙ c.clear_rooms.auto.sheet_firsts)

pub shape_of-placed_firsts : goal.shape_of-placed_firsts
shape_of-placed_firsts c = c.clear_rooms-2.auto.placed_firsts ∙ c.clear_rooms.auto.placed_firsts

pub returns : goal.returns
returns c = let a = c.args in
    let w = rooms_of a.shapes.now a.sheet.now a.placed.now a.sheet_entries.now a.placed_entries.now a.sheet_firsts.now
    a.placed_firsts.now in
    let E = c.clear_rooms-2.ensures in
    whole_is a.bytes.now a.given.now w c.judge_bytes-r.result (c.judge_bytes-r.ensures w (cleared w _ _ _ _ _ _ _ c.clear_rooms.ensures)) _
    _ _ _ _ _ _
    (zeros-after pos_zero _ _ a.shapes.now E.0 (c.judge_bytes-r.auto.shapes ∙ c.clear_rooms.auto.shapes))
    (zeros-after pos_zero _ _ a.sheet.now E.1 (c.judge_bytes-r.auto.sheet ∙ c.clear_rooms.auto.sheet))
    (zeros-after pos_zero _ _ a.placed.now E.2 (c.judge_bytes-r.auto.placed ∙ c.clear_rooms.auto.placed))
    (zeros-after 0 _ _ a.sheet_entries.now E.3 (c.judge_bytes-r.auto.sheet_entries ∙ c.clear_rooms.auto.sheet_entries))
    (zeros-after 0 _ _ a.placed_entries.now E.4 c.clear_rooms.auto.placed_entries)
    (zeros-after 0 _ _ a.sheet_firsts.now E.5 (c.judge_bytes-r.auto.sheet_firsts ∙ c.clear_rooms.auto.sheet_firsts))
    (zeros-after 0 _ _ a.placed_firsts.now E.6 c.clear_rooms.auto.placed_firsts)
