-- `program::program_text`: 11, or the whole plan in the program's rooms. Assumes nothing.
use Rattle.filling.specs.Rooms.{lent_of}
use Rattle.program.proofs.Answering.{answer_short, answer_overlong, answer-plan, rooms_are}
use Rattle.program.proofs.program_text.Goals as goal

pub returns-then-out-lt589824 : goal.returns-then-out-lt589824
returns-then-out-lt589824 c = answer_short c.args.bytes.now c.args.out.now c.if-out-lt589824.true

pub returns-then-bytes-gt65536 : goal.returns-then-bytes-gt65536
returns-then-bytes-gt65536 c = let t = c.line_text in
    answer_overlong c.args.bytes.now c.args.out.now (record { end = t.result; out = t.new.out })
    c.if-out-lt589824.false c.if-bytes-gt65536.true t.ensures

pub returns : goal.returns
returns c = let t = c.plan_text in
    answer-plan c.args.bytes.now c.args.out.now t.new.out
    (lent_of c.strip_room-shapes.result c.strip_room-sheet.result c.strip_room-placed.result c.entry_room-sheet_entries.result c.entry_room-placed_entries.result
    c.first_room-sheet_firsts.result c.first_room-placed_firsts.result c.interval_room-intervals.result c.position_room-positions.result)
    (lent_of t.new.shapes t.new.sheet t.new.placed t.new.sheet_entries t.new.placed_entries
    t.new.sheet_firsts t.new.placed_firsts t.new.intervals t.new.positions)
    t.result c.if-out-lt589824.false c.if-bytes-gt65536.false
    (rooms_are _ _ _ _ _ _ _ _ _ c.strip_room-shapes.ensures c.strip_room-sheet.ensures c.strip_room-placed.ensures c.entry_room-sheet_entries.ensures
    c.entry_room-placed_entries.ensures c.first_room-sheet_firsts.ensures c.first_room-placed_firsts.ensures c.interval_room-intervals.ensures c.position_room-positions.ensures)
    t.ensures
