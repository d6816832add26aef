-- `plan_exports::layout::panel_layout`: the number and the line of a judged layout. Assumes nothing.
use mathlib.Core.Path.{sym, ◌∙◌}
use lib.Seq.{set_out}
use Rattle.std.proofs.Common.{rules}
use Rattle.filling.specs.Rooms.{rooms_of}
use Rattle.plan_exports.proofs.Lining.{lined_as}
use Rattle.plan_exports.proofs.layout.panel_layout.Goals as goal
use Rattle.plan_exports.proofs.layout.panel_layout.Goals.{in-Some, in_default}

pub returns : goal.returns
returns c =
    let a = c.args in
    let t = c.judge_layout-r in
    lined_as a.bytes.now a.given.now a.line.now c.match-first_mut.line
    (rooms_of a.shapes.now a.sheet.now a.placed.now a.sheet_entries.now a.placed_entries.now a.sheet_firsts.now a.placed_firsts.now)
    (rooms_of t.new.shapes t.new.sheet t.new.placed t.new.sheet_entries t.new.placed_entries t.new.sheet_firsts t.new.placed_firsts)
    t.result c.verdict_number.result c.verdict_number.ensures
    (elim c.match-first_mut.branch [
      | in-Some w ↦ w.line-is
      | in_default w ↦ w.line-is ∙ sym (set_out a.line.now 0 t.result.line (search (rules, w.in_default.ensures.item)))
    ]) t.ensures
