-- `judge_text::job_line`: 11, or the layout judged in the rooms that `plan` lends. Assumes nothing.
use mathlib.Core.Path.{ap, ◌∙◌}
use mathlib.Core.List.{List}
use Prim.Native.Nat.{ℕ}
use Rattle.filling.specs.Rooms.{rooms_of}
use Rattle.plan_text.specs.Program.{text_in}
use Rattle.judge_text.proofs.Printing.{job_overlong, job-judged, rooms_are}
use Rattle.judge_text.proofs.job_line.Goals as goal

pub no_line-requires : goal.no_line-requires
no_line-requires c = c.requires

pub shape_of-out-then-bytes-gt65536 : goal.shape_of-out-then-bytes-gt65536
shape_of-out-then-bytes-gt65536 c = c.no_line.auto.out

pub returns-then-bytes-gt65536 : goal.returns-then-bytes-gt65536
returns-then-bytes-gt65536 c = let a = c.args in
    c.no_line.ensures ∙ ap (λ (t : List ℕ). text_in t a.out.now)
    (job_overlong a.bytes.now a.given.now c.if-bytes-gt65536.true)

pub verdict_line-requires : goal.verdict_line-requires
verdict_line-requires c = c.requires

pub shape_of-out : goal.shape_of-out
shape_of-out c = c.verdict_line.auto.out

pub returns : goal.returns
returns c = let a = c.args in
    let t = c.judge_layout-r in
    job-judged a.bytes.now a.given.now a.out.now
    (rooms_of c.strip_room-shapes.result c.strip_room-sheet.result c.strip_room-placed.result c.entry_room-sheet_entries.result c.entry_room-placed_entries.result
    c.first_room-sheet_firsts.result c.first_room-placed_firsts.result)
    (rooms_of t.new.shapes t.new.sheet t.new.placed t.new.sheet_entries t.new.placed_entries
    t.new.sheet_firsts t.new.placed_firsts)
    t.result _ c.if-bytes-gt65536.false
    (rooms_are _ _ _ _ _ _ _ c.strip_room-shapes.ensures c.strip_room-sheet.ensures c.strip_room-placed.ensures c.entry_room-sheet_entries.ensures
    c.entry_room-placed_entries.ensures
    c.first_room-sheet_firsts.ensures c.first_room-placed_firsts.ensures)
    t.ensures c.verdict_line.ensures
