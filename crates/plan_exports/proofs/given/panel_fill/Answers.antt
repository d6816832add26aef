-- `plan_exports::given::panel_fill`: the number of a filling. Assumes nothing.
use Rattle.filling.specs.Rooms.{lent_of}
use Rattle.plan_exports.proofs.Numbering.{numbered_as}
use Rattle.plan_exports.proofs.given.panel_fill.Goals as goal

pub returns : goal.returns
returns c =
    let a = c.args in
    let t = c.fill-r in
    numbered_as a.bytes.now a.order.now (lent_of a.shapes.now a.sheet.now a.placed.now a.sheet_entries.now a.placed_entries.now
    a.sheet_firsts.now a.placed_firsts.now a.intervals.now a.positions.now)
    (lent_of t.new.shapes t.new.sheet t.new.placed t.new.sheet_entries t.new.placed_entries
    t.new.sheet_firsts t.new.placed_firsts t.new.intervals t.new.positions)
    t.result c.verdict_number.result c.verdict_number.ensures t.ensures
