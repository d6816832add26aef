-- `next_copy::next_copy` meets its contract. Assumes nothing.
use native.Mathlib.Nat.{le_of_eq}
use mathlib.Core.Path.{sym, ◌∙◌}
use Rattle.job.proofs.Whole.{read_as}
use Rattle.step.specs.inner.Going.{rooms}
use Rattle.step.proofs.step_job.Opening.{read-refused, read-accepted, opened}
use Rattle.next_copy.proofs.next_copy.Goals as goal

pub step_job-requires : goal.step_job-requires
step_job-requires c = let t = c.read-j in
    let e = read_as _ t.result t.ensures.0 c.in-Ok.is in (
      _,
      opened _ _ _ c.args.bytes.now t.result.rows t.result.areas t.result.places e
          (le_of_eq (sym t.ensures.1)) (le_of_eq (sym t.ensures.2)),
    )

pub returns-in-Ok : goal.returns-in-Ok
returns-in-Ok c = let a = c.args in
    let t = c.read-j in
    let e = read_as _ t.result t.ensures.0 c.in-Ok.is in
    let w = rooms a.shapes.now a.sheet.now a.placed.now a.sheet_entries.now a.placed_entries.now a.sheet_firsts.now
    a.placed_firsts.now in
    let o = opened _ _ _ a.bytes.now t.result.rows t.result.areas t.result.places e
    (le_of_eq (sym t.ensures.1)) (le_of_eq (sym t.ensures.2)) in
    c.step_job.ensures _ o ∙ read-accepted a.bytes.now _ a.state w a.intervals.now e

pub returns-in-Err : goal.returns-in-Err
returns-in-Err c = let a = c.args in
    let w = rooms a.shapes.now a.sheet.now a.placed.now a.sheet_entries.now a.placed_entries.now a.sheet_firsts.now
    a.placed_firsts.now in
    let e = read_as _ c.read-j.result c.read-j.ensures.0 c.in-Err.is in
    c.refuse.ensures w ∙ read-refused a.bytes.now _ a.state w a.intervals.now e
