-- `plan_text::plan_text`: the whole plan, its text, zeros after it. Assumes nothing.
use native.Mathlib.Omega.{arith}
use mathlib.Core.Path.{refl, ap}
use Rattle.std.proofs.Common.{rules}
use lib.ListN.{length}
use Rattle.report.specs.Lent.{answered}
use Rattle.plan_text.proofs.Telling.{told_short, told_finished, placed_of}
use Rattle.filling.specs.Rooms.{lent_of}
use Rattle.plan_text.proofs.plan_text.Goals as goal

pub returns-then-out-lt589824 : goal.returns-then-out-lt589824
returns-then-out-lt589824 c = let a = c.args in
    told_short a.bytes.now a.out.now (lent_of a.shapes.now a.sheet.now a.placed.now a.sheet_entries.now a.placed_entries.now
    a.sheet_firsts.now a.placed_firsts.now a.intervals.now a.positions.now) c.if-out-lt589824.true

pub print_reply-requires : goal.print_reply-requires
print_reply-requires c = let a = c.args in
    let n = c.nest-r in
    let d = placed_of a.bytes.now (lent_of a.shapes.now a.sheet.now a.placed.now a.sheet_entries.now a.placed_entries.now
    a.sheet_firsts.now a.placed_firsts.now a.intervals.now a.positions.now)
    (answered n.result (lent_of n.new.shapes n.new.sheet n.new.placed n.new.sheet_entries n.new.placed_entries
    n.new.sheet_firsts n.new.placed_firsts n.new.intervals n.new.positions))
    n.ensures in
    let t = c.new-told.ensures in
    (d.few, d.fit, let e = ap length t.1 in omega (arith, e, t.2, c.if-out-lt589824.false))

pub finish-requires : goal.finish-requires
finish-requires c = let n = c.nest-r in
    let t = c.new-told.ensures in
    let p = c.print_reply in
    let l = (lent_of n.new.shapes n.new.sheet n.new.placed n.new.sheet_entries n.new.placed_entries
    n.new.sheet_firsts n.new.placed_firsts n.new.intervals n.new.positions) in
    let w = (p.ensures.1 l refl).wrote in
    let e = ap length t.1 in
    omega (arith, e, t.2, p.ensures.0, w.long, c.if-out-lt589824.false)

pub shape_of-shapes : goal.shape_of-shapes
shape_of-shapes c = c.nest-r.auto.shapes

pub shape_of-sheet : goal.shape_of-sheet
shape_of-sheet c = c.nest-r.auto.sheet

pub shape_of-placed : goal.shape_of-placed
shape_of-placed c = c.nest-r.auto.placed

pub shape_of-sheet_entries : goal.shape_of-sheet_entries
shape_of-sheet_entries c = c.nest-r.auto.sheet_entries

pub shape_of-placed_entries : goal.shape_of-placed_entries
shape_of-placed_entries c = c.nest-r.auto.placed_entries

pub shape_of-sheet_firsts : goal.shape_of-sheet_firsts
shape_of-sheet_firsts c = c.nest-r.auto.sheet_firsts

pub shape_of-placed_firsts : goal.shape_of-placed_firsts
shape_of-placed_firsts c = c.nest-r.auto.placed_firsts

pub shape_of-intervals : goal.shape_of-intervals
shape_of-intervals c = c.nest-r.auto.intervals

pub shape_of-positions : goal.shape_of-positions
shape_of-positions c = c.nest-r.auto.positions

pub returns : goal.returns
returns c = let a = c.args in
    let n = c.nest-r in
    let t = c.new-told.ensures in
    let p = c.print_reply in
    let l = (lent_of n.new.shapes n.new.sheet n.new.placed n.new.sheet_entries n.new.placed_entries
    n.new.sheet_firsts n.new.placed_firsts n.new.intervals n.new.positions) in
    let s = p.ensures.1 l refl in
    let g = s.same in
    told_finished a.bytes.now a.out.now _ _
    (lent_of a.shapes.now a.sheet.now a.placed.now a.sheet_entries.now a.placed_entries.now
    a.sheet_firsts.now a.placed_firsts.now a.intervals.now a.positions.now)
    (answered n.result l) _ _ _ c.if-out-lt589824.false n.ensures t.1 t.2 p.ensures.0 s c.finish.ensures (search rules)
