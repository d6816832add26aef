-- `next_copies::copies_job::copies_job` meets its contract. Assumes nothing.
use Prim.Native.Nat.{ℕ}
use mathlib.Core.Path.{sym, ap, ◌∙◌}
use lib.ListN.{length-replicate}
use Rattle.numbers.specs.Numbers.{pos_zero}
use Rattle.filling.specs.Rooms.{zeros}
use Rattle.step.specs.inner.Going.{rooms}
use Rattle.step.proofs.step_job.Opening.{numbers}
use Rattle.batch.specs.inner.Tested.{tested_from}
use Rattle.next_copies.proofs.copies_job.Opening.{taken-within, most-few, most_all, starting, none-taken-31}
use Rattle.next_copies.proofs.copies_job.copies_job.Goals as goal

pub slice_bounds-agree-end : goal.slice_bounds-agree-end
slice_bounds-agree-end c = sym (length-replicate {A = ℕ} 513 0)

pub slice_bounds-agree-end-2 : goal.slice_bounds-agree-end-2
slice_bounds-agree-end-2 c = sym (length-replicate {A = ℕ} 513 0)

pub agree-requires : goal.agree-requires
agree-requires c = let a = c.args in
    let p = c.requires.0 in
    let n = numbers p.0 a.rows.now a.areas.now a.kinds a.copies p.1 in
    (n.kinds_few, n.rows_long, n.turns_few, n.copies_few, length-replicate {A = ℕ} 513 0, length-replicate {A = ℕ} 513 0)

pub overflow_sub-copies : goal.overflow_sub-copies
overflow_sub-copies c = let a = c.args in
    let p = c.requires.0 in
    let w = rooms a.shapes.now a.sheet.now a.placed.now a.sheet_entries.now a.entries.now a.sheet_firsts.now a.firsts.now in
    let e = sym (c.agree.ensures.0 p.0 a.areas.now p.1.tabled p.1.kinds_are p.1.copies_are) ∙
    c.if-agree.true in
    taken-within p.0 a.state w a.rows.now a.areas.now a.kinds a.copies p.1 e

pub slice_bounds-take_all-end : goal.slice_bounds-take_all-end
slice_bounds-take_all-end c = sym (c.agree.auto.sheet_starts ∙ length-replicate {A = ℕ} 513 0)

pub slice_bounds-take_all-end-then-agree : goal.slice_bounds-take_all-end-then-agree
slice_bounds-take_all-end-then-agree c = sym (c.agree.auto.starts ∙ length-replicate {A = ℕ} 513 0)

pub take_all-requires : goal.take_all-requires
take_all-requires c = let a = c.args in
    let p = c.requires.0 in
    let g = c.agree in
    let h = c.if-agree.true in
    let w = rooms a.shapes.now a.sheet.now a.placed.now a.sheet_entries.now a.entries.now a.sheet_firsts.now a.firsts.now in
    let e = sym (g.ensures.0 p.0 a.areas.now p.1.tabled p.1.kinds_are p.1.copies_are) ∙ h in
    let L = g.ensures.1 h in (
      p.0,
      starting p.0 a.state w a.rows.now a.areas.now a.kinds a.copies p.1 e a.n c.min.result c.min.ensures _ _ p.2
          L.0 L.1
          L.2 L.3,
    )

pub shape_of-placed-then-agree : goal.shape_of-placed-then-agree
shape_of-placed-then-agree c = c.take_all.auto.placed

pub shape_of-entries-then-agree : goal.shape_of-entries-then-agree
shape_of-entries-then-agree c = c.take_all.auto.entries

pub shape_of-intervals-then-agree : goal.shape_of-intervals-then-agree
shape_of-intervals-then-agree c = c.take_all.auto.intervals

pub shape_of-firsts-then-agree : goal.shape_of-firsts-then-agree
shape_of-firsts-then-agree c = c.take_all.auto.firsts

pub returns-then-agree : goal.returns-then-agree
returns-then-agree c = let a = c.args in
    let g = c.agree in
    let h = c.if-agree.true in
    let w = rooms a.shapes.now a.sheet.now a.placed.now a.sheet_entries.now a.entries.now a.sheet_firsts.now a.firsts.now in
    let L = g.ensures.1 h in
    let f = c.min in
    λ j O z.
    let e = sym (g.ensures.0 j a.areas.now O.tabled O.kinds_are O.copies_are) ∙ h in
    c.take_all.ensures j (starting j a.state w a.rows.now a.areas.now a.kinds a.copies O e a.n f.result f.ensures _ _ z L.0
    L.1 L.2
    L.3) (most-few j a.state w a.rows.now a.areas.now a.kinds a.copies O e a.n f.result f.ensures)
    (most_all j a.state w a.rows.now a.areas.now a.kinds a.copies O e a.n f.result f.ensures)
    ∙ ap (tested_from j a.n a.state w (zeros pos_zero a.intervals.now)) (sym e)

pub shape_of-intervals : goal.shape_of-intervals
shape_of-intervals c = c.none_taken.auto.intervals

pub returns : goal.returns
returns c = let a = c.args in
    let w = rooms a.shapes.now a.sheet.now a.placed.now a.sheet_entries.now a.entries.now a.sheet_firsts.now a.firsts.now in
    λ j O z. c.none_taken.ensures w ∙ none-taken-31 j a.state w a.intervals.now a.n c.requires.1 _
    (sym (c.agree.ensures.0 j a.areas.now O.tabled O.kinds_are O.copies_are) ∙ c.if-agree.false)
