-- `layout_job`: prepared, then line after line; or the refusal. Assumes nothing.
use native.Mathlib.Omega.{arith}
use native.Mathlib.Nat.{le_of_eq}
use mathlib.Core.Path.{sym, ap, ◌∙◌}
use lib.ListN.{length}
use lib.Seq.{length-take-le}
use Rattle.index.proofs.Standing.{standing-within}
use Rattle.job.specs.Jobs.{frame_of}
use Rattle.filling.specs.declared.Tables.{Tables}
use Rattle.filling.specs.Shapes.{planner_of}
use Rattle.filling_laws.proofs.fill_laws.Ready.{bounds_long, parts_long}
use Rattle.report.proofs.readied.Preparing.{ready-sheet}
use Rattle.layouts.specs.Layouts.{lines_of}
use Rattle.judge_layout.proofs.Whole.{tables-ready, shapes-ready, room_is, entries_are, lines_are, refusal_is}
use Rattle.judge_layout.proofs.layout_job.Goals as goal

pub prepare-p-requires : goal.prepare-p-requires
prepare-p-requires c = (c.requires.0.3.tabled.rows_long, c.requires.1)

pub overflow_mul-end : goal.overflow_mul-end
overflow_mul-end c = let p = c.requires in
    let E = c.prepare-p.ensures p.0.0 p.0.3.from p.0.3.header_is in
    let s = ready-sheet p.0.3 p.0.4 c.prepare-p.result _ _ _ _ E c.in-Ok.is in
    let k = c.prepare-p.auto.sheet in
    let n = c.well_formed.1.1.1.1.1.1.1.0.1 in
    record { fits = omega (arith, s, k, n) }

pub slice_bounds-judge_lines-end : goal.slice_bounds-judge_lines-end
slice_bounds-judge_lines-end c = let p = c.requires in
    let E = c.prepare-p.ensures p.0.0 p.0.3.from p.0.3.header_is in
    sym (ap (λ (t : Tables). length t.inset_bounds) (E.ready c.in-Ok.is).tables_are ∙ bounds_long (planner_of p.0.0))

pub slice_bounds-judge_lines-end-in-Ok : goal.slice_bounds-judge_lines-end-in-Ok
slice_bounds-judge_lines-end-in-Ok c = let p = c.requires in
    let E = c.prepare-p.ensures p.0.0 p.0.3.from p.0.3.header_is in
    sym (ap (λ (t : Tables). length t.parts) (E.ready c.in-Ok.is).tables_are ∙ parts_long (planner_of p.0.0))

pub slice_bounds-judge_lines-end-in-Ok-2 : goal.slice_bounds-judge_lines-end-in-Ok-2
slice_bounds-judge_lines-end-in-Ok-2 c = let p = c.requires in
    let E = c.prepare-p.ensures p.0.0 p.0.3.from p.0.3.header_is in
    ready-sheet p.0.3 p.0.4 c.prepare-p.result _ _ _ _ E c.in-Ok.is

pub slice_bounds-judge_lines-end-in-Ok-3 : goal.slice_bounds-judge_lines-end-in-Ok-3
slice_bounds-judge_lines-end-in-Ok-3 c = let p = c.requires in
    let E = c.prepare-p.ensures p.0.0 p.0.3.from p.0.3.header_is in
    sym (length-take-le _ _ (ready-sheet p.0.3 p.0.4 c.prepare-p.result _ _ _ _ E c.in-Ok.is))

pub judge_lines-requires : goal.judge_lines-requires
judge_lines-requires c = let p = c.requires in
    let R = p.0.3 in
    let Z = p.0.4 in
    let q = c.prepare-p.result in
    let E = c.prepare-p.ensures p.0.0 R.from R.header_is in
    let e = c.in-Ok.is in (
      (p.0.0, tables-ready R Z q _ _ _ _ E e c.grid_of-g.result c.grid_of-g.ensures),
      shapes-ready R Z q _ _ _ _ E e c.grid_of-g.result c.grid_of-g.ensures,
      standing-within c.standing_capacity-room.result c.args.placed.now c.args.placed_firsts.now (le_of_eq c.standing_capacity-room.ensures),
    )

pub shape_of-shapes-in-Ok : goal.shape_of-shapes-in-Ok
shape_of-shapes-in-Ok c = c.prepare-p.auto.shapes

pub shape_of-sheet-in-Ok : goal.shape_of-sheet-in-Ok
shape_of-sheet-in-Ok c = c.prepare-p.auto.sheet

pub shape_of-placed : goal.shape_of-placed
shape_of-placed c = c.judge_lines.auto.placed

pub shape_of-sheet_entries-in-Ok : goal.shape_of-sheet_entries-in-Ok
shape_of-sheet_entries-in-Ok c = c.prepare-p.auto.sheet_entries

pub shape_of-sheet_firsts-in-Ok : goal.shape_of-sheet_firsts-in-Ok
shape_of-sheet_firsts-in-Ok c = c.prepare-p.auto.sheet_firsts

pub returns-in-Ok : goal.returns-in-Ok
returns-in-Ok c = let x = c.args in
    let q = c.prepare-p.result in
    let e = c.in-Ok.is in
    λ j w areas R Z.
    let E = c.prepare-p.ensures j R.from R.header_is in
    lines_are R Z q _ _ _ _ E e (lines_of x.given.now) c.judge_lines.result
    (c.judge_lines.ensures j w (tables-ready R Z q _ _ _ _ E e c.grid_of-g.result c.grid_of-g.ensures)
    (room_is R Z q _ _ _ _ E ∙ sym c.standing_capacity-room.ensures)
    (entries_are R Z q _ _ _ _ E) (ap frame_of R.header_is ∙ sym c.frame_of-f.ensures))

pub shape_of-shapes-in-Err : goal.shape_of-shapes-in-Err
shape_of-shapes-in-Err c = c.prepare-p.auto.shapes

pub shape_of-sheet-in-Err : goal.shape_of-sheet-in-Err
shape_of-sheet-in-Err c = c.prepare-p.auto.sheet

pub shape_of-sheet_entries-in-Err : goal.shape_of-sheet_entries-in-Err
shape_of-sheet_entries-in-Err c = c.prepare-p.auto.sheet_entries

pub shape_of-sheet_firsts-in-Err : goal.shape_of-sheet_firsts-in-Err
shape_of-sheet_firsts-in-Err c = c.prepare-p.auto.sheet_firsts

pub returns-in-Err : goal.returns-in-Err
returns-in-Err c = let x = c.args in
    λ j w areas R Z.
    let E = c.prepare-p.ensures j R.from R.header_is in
    refusal_is R Z c.prepare-p.result _ _ _ _ E _ c.in-Err.is (lines_of x.given.now) c.not_judged.result
    c.not_judged.ensures
