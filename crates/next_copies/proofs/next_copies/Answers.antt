-- `next_copies::next_copies` meets its contract. Assumes nothing.
use native.Mathlib.Nat.{le_of_eq}
use mathlib.Core.Path.{sym, ◌∙◌}
use Rattle.job.proofs.Whole.{read_as}
use Rattle.filling.specs.Rooms.{rooms_of}
use Rattle.filling.proofs.Sizes.{sized}
use Rattle.step.proofs.step_job.Opening.{opened}
use Rattle.batch.proofs.Taking.{copies_over}
use Rattle.next_copies.proofs.Copies.{some, copies-none, copies-refused, copies-accepted}
use Rattle.next_copies.proofs.next_copies.Goals as goal

pub shape_of-intervals-then-n-eq0 : goal.shape_of-intervals-then-n-eq0
shape_of-intervals-then-n-eq0 c = c.none_taken.auto.intervals

pub returns-then-n-eq0 : goal.returns-then-n-eq0
returns-then-n-eq0 c = let a = c.args in
    let w = rooms_of a.shapes.now a.sheet.now a.placed.now a.sheet_entries.now a.placed_entries.now a.sheet_firsts.now
    a.placed_firsts.now in
    c.none_taken.ensures w ∙ copies-none a.bytes.now a.n a.state w a.intervals.now
    c.if-n-eq0.true

pub shape_of-intervals-then-n-gt-MOST : goal.shape_of-intervals-then-n-gt-MOST
shape_of-intervals-then-n-gt-MOST c = c.none_taken-then-n-gt-MOST.auto.intervals

pub returns-then-n-gt-MOST : goal.returns-then-n-gt-MOST
returns-then-n-gt-MOST c = let a = c.args in
    let w = rooms_of a.shapes.now a.sheet.now a.placed.now a.sheet_entries.now a.placed_entries.now a.sheet_firsts.now
    a.placed_firsts.now in
    c.none_taken-then-n-gt-MOST.ensures w ∙ sym (copies_over a.bytes.now a.n a.state w a.intervals.now
    c.if-n-gt-MOST.true)

pub slice_bounds-copies_job-end : goal.slice_bounds-copies_job-end
slice_bounds-copies_job-end c = sym c.read-j.ensures.1

pub slice_bounds-copies_job-end-in-Ok : goal.slice_bounds-copies_job-end-in-Ok
slice_bounds-copies_job-end-in-Ok c = sym c.read-j.ensures.2

pub copies_job-requires : goal.copies_job-requires
copies_job-requires c = let a = c.args in
    let t = c.read-j in
    let e = read_as _ t.result t.ensures.0 c.in-Ok.is in (
      (
        _,
        opened _ _ _ a.bytes.now t.result.rows t.result.areas t.result.places e (le_of_eq (sym t.ensures.1))
            (le_of_eq (sym t.ensures.2)),
        sized a.bytes.now _ e,
      ),
      some a.n c.if-n-eq0.false,
    )

pub shape_of-placed : goal.shape_of-placed
shape_of-placed c = c.copies_job.auto.placed

pub shape_of-placed_entries : goal.shape_of-placed_entries
shape_of-placed_entries c = c.copies_job.auto.entries

pub shape_of-placed_firsts : goal.shape_of-placed_firsts
shape_of-placed_firsts c = c.copies_job.auto.firsts

pub shape_of-intervals-in-Ok : goal.shape_of-intervals-in-Ok
shape_of-intervals-in-Ok c = c.copies_job.auto.intervals

pub returns-in-Ok : goal.returns-in-Ok
returns-in-Ok c = let a = c.args in
    let s = a.state in
    let t = c.read-j in
    let e = read_as _ t.result t.ensures.0 c.in-Ok.is in
    let g = c.well_formed.1.1.0.1.1 in
    let l = g.1.1.1.1.1.1.0.1.1 in
    let w = rooms_of a.shapes.now a.sheet.now a.placed.now a.sheet_entries.now a.placed_entries.now a.sheet_firsts.now
    a.placed_firsts.now in
    c.copies_job.ensures _ (opened _ _ _ a.bytes.now t.result.rows t.result.areas t.result.places e (le_of_eq (sym t.ensures.1))
    (le_of_eq (sym t.ensures.2))) (sized a.bytes.now _ e)
    ∙ copies-accepted a.bytes.now a.n s w a.intervals.now _ e
    (record {
      orientations = l.0.1.0.1;
      xs = l.1.0.1.0.1;
      ys = l.1.1.0.1.0.1;
      gaps = l.1.1.1.0.1.0.1;
      next-columns = g.1.1.1.0.1.0.1;
      look_counts = g.1.1.1.1.0.1.0.1;
    }) c.if-n-gt-MOST.false

pub shape_of-intervals-in-Err : goal.shape_of-intervals-in-Err
shape_of-intervals-in-Err c = c.none_taken-in-Err.auto.intervals

pub returns-in-Err : goal.returns-in-Err
returns-in-Err c = let a = c.args in
    let t = c.read-j in
    let w = rooms_of a.shapes.now a.sheet.now a.placed.now a.sheet_entries.now a.placed_entries.now a.sheet_firsts.now
    a.placed_firsts.now in
    let e = read_as _ t.result t.ensures.0 c.in-Err.is in
    c.none_taken-in-Err.ensures w ∙ copies-refused a.bytes.now a.n a.state w a.intervals.now _ e (some a.n c.if-n-eq0.false)
    c.if-n-gt-MOST.false
