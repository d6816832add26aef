-- `swaps_test::prepare_job`: prepared in rooms that are zero, then searched; or the refusal. Assumes nothing.
use mathlib.Core.Path.{sym}
use Rattle.report.proofs.readied.Preparing.{ready-given, ready-sheet, ready-shapes, ready_firsts}
use Rattle.swaps_test.proofs.Lent.{rooms_zero}
use Rattle.swaps_test.proofs.prepare_job.Goals as goal

pub prepare-p-requires : goal.prepare-p-requires
prepare-p-requires c = (c.requires.0.1.tabled.rows_long, c.requires.1)

pub slice_bounds-search-end : goal.slice_bounds-search-end
slice_bounds-search-end c = sym c.prepare-p.auto.shapes

pub slice_bounds-search-end-in-Ok : goal.slice_bounds-search-end-in-Ok
slice_bounds-search-end-in-Ok c = sym c.prepare-p.auto.sheet

pub slice_bounds-search-end-in-Ok-2 : goal.slice_bounds-search-end-in-Ok-2
slice_bounds-search-end-in-Ok-2 c = sym c.prepare-p.auto.sheet_entries

pub slice_bounds-search-end-in-Ok-4 : goal.slice_bounds-search-end-in-Ok-4
slice_bounds-search-end-in-Ok-4 c = sym c.prepare-p.auto.sheet_firsts

pub search-requires : goal.search-requires
unfolding lib.Ieee.of_bits
search-requires c = let p = c.requires in
    let R = p.0.1 in
    let q = c.prepare-p.result in
    let E = c.prepare-p.ensures p.0.0 R.from R.header_is in
    let e = c.in-Ok.is in (
      (p.0.0, ready-given R rooms_zero q _ _ _ _ E e, R.header_is, R.number),
      ready-sheet R rooms_zero q _ _ _ _ E e,
      ready-shapes R rooms_zero q _ _ _ _ E e,
      ready_firsts R rooms_zero q _ _ _ _ E e,
    )
