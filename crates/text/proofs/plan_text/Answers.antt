-- `text::plan_text` meets its contract: the lines in their order. Assumes nothing.
use native.Mathlib.Omega.{arith}
use Rattle.nesting.specs.Text.{plan_line}
use Rattle.lines.proofs.Appending.{put-both}
use Rattle.text.specs.inner.Tables.{plan_by}
use Rattle.text.proofs.ByKind.{plan-most, puts-most, lefts-most, fills-most, looks-most}
use Rattle.text.proofs.plan_text.Goals as goal

pub put_lines-requires : goal.put_lines-requires
unfolding plan_line
put_lines-requires c = let a = c.args in
    let p = c.requires in
    let m = plan-most a.plan.now in (
      omega (
        arith,
        p.0,
        p.1,
        p.4,
        c.line.ensures.wrote.next,
        c.line.ensures.wrote.long,
        m,
      ),
      p.5,
    )

pub left_lines-requires : goal.left_lines-requires
unfolding plan_line
left_lines-requires c = let a = c.args in
    let p = c.requires in
    let m = plan-most a.plan.now in (
      omega (
        arith,
        p.0,
        p.1,
        p.4,
        c.line.ensures.wrote.next,
        c.line.ensures.wrote.long,
        m,
        c.put_lines.ensures.wrote.next,
        c.put_lines.ensures.wrote.long,
        puts-most a.room.now a.plan.now.placed,
      ),
      p.2,
      p.7,
    )

pub fill_lines-requires : goal.fill_lines-requires
unfolding plan_line
fill_lines-requires c = let a = c.args in
    let p = c.requires in
    let m = plan-most a.plan.now in (
      omega (
        arith,
        p.0,
        p.1,
        p.4,
        c.line.ensures.wrote.next,
        c.line.ensures.wrote.long,
        m,
        c.put_lines.ensures.wrote.next,
        c.put_lines.ensures.wrote.long,
        puts-most a.room.now a.plan.now.placed,
        c.left_lines.ensures.wrote.next,
        c.left_lines.ensures.wrote.long,
        lefts-most a.rows.now a.plan.now.unplaced_of a.kinds,
      ),
      p.2,
      p.6,
    )

pub look_lines-requires : goal.look_lines-requires
unfolding plan_line
look_lines-requires c = let a = c.args in
    let p = c.requires in
    let m = plan-most a.plan.now in (
      omega (
        arith,
        p.0,
        p.1,
        p.4,
        c.line.ensures.wrote.next,
        c.line.ensures.wrote.long,
        m,
        c.put_lines.ensures.wrote.next,
        c.put_lines.ensures.wrote.long,
        puts-most a.room.now a.plan.now.placed,
        c.left_lines.ensures.wrote.next,
        c.left_lines.ensures.wrote.long,
        lefts-most a.rows.now a.plan.now.unplaced_of a.kinds,
        c.fill_lines.ensures.wrote.next,
        c.fill_lines.ensures.wrote.long,
        fills-most a.rows.now a.plan.now.placed_of a.kinds,
      ),
      p.2,
      p.8,
      p.3,
    )

pub last_lines-requires : goal.last_lines-requires
unfolding plan_line
last_lines-requires c = let a = c.args in
    let p = c.requires in
    let m = plan-most a.plan.now in
    omega (
      arith,
      p.0,
      p.1,
      p.4,
      c.line.ensures.wrote.next,
      c.line.ensures.wrote.long,
      m,
      c.put_lines.ensures.wrote.next,
      c.put_lines.ensures.wrote.long,
      puts-most a.room.now a.plan.now.placed,
      c.left_lines.ensures.wrote.next,
      c.left_lines.ensures.wrote.long,
      lefts-most a.rows.now a.plan.now.unplaced_of a.kinds,
      c.fill_lines.ensures.wrote.next,
      c.fill_lines.ensures.wrote.long,
      fills-most a.rows.now a.plan.now.placed_of a.kinds,
      c.look_lines.ensures.wrote.next,
      c.look_lines.ensures.wrote.long,
      looks-most a.rows.now a.plan.now.look_counts a.kinds c.requires.3,
    )

pub returns : goal.returns
unfolding plan_by plan_line
returns c =
    put-both c.line.ensures (put-both c.put_lines.ensures (put-both c.left_lines.ensures (put-both c.fill_lines.ensures
    (put-both c.look_lines.ensures c.last_lines.ensures))))
