-- `place_line`: what fits is counted and stands. Assumes nothing.
use Prim.Native.Nat.{◌*◌}
use native.Mathlib.Omega.{arith}
use mathlib.Core.Path.{sym, subst, ◌∙◌}
use lib.ListN.{get_or}
use lib.Seq.{length-take-le}
use Rattle.layouts.specs.Layouts.{quantity_of}
use Rattle.judge_lines.specs.inner.Judging.{Stored, Within}
use borrow.Author.Tests.{leb-false}
use Rattle.judge_lines.proofs.Slots.{kinds_few, kind_in, turn_in, slot_parted, copies_few}
use Rattle.judge_lines.proofs.Storing.{stored-within}
use Rattle.judge_lines.proofs.Verdicts.{fits_known, known_has, known_few, place-refused, place_stores}
use Rattle.judge_lines.proofs.Lines.{fits-same, counted_next, line-stored}
use Rattle.judge_lines.proofs.place_line.Goals as goal

pub overflow_mul-end : goal.overflow_mul-end
overflow_mul-end c = let p = c.requires in
    record { fits = omega (arith, p.3, p.4, c.well_formed.1.1.1.1.1.1.1.1.0.1) }

pub slice_bounds-line_fits-end : goal.slice_bounds-line_fits-end
slice_bounds-line_fits-end c = let p = c.requires in
    omega (arith, p.3, p.4)

pub slice_bounds-line_fits-end-2 : goal.slice_bounds-line_fits-end-2
slice_bounds-line_fits-end-2 c = let p = c.requires in
    sym (length-take-le (6 * c.args.s.strips) c.args.placed.now (omega (arith, p.3, p.4)))

pub line_fits-requires : goal.line_fits-requires
line_fits-requires c = let p = c.requires in
    (p.0, p.1, p.2)

pub overflow_mul-slot : goal.overflow_mul-slot
overflow_mul-slot c = let p = c.requires in
    let t = p.0.1 in
    let j = p.0.0 in
    let k = c.args.kind in
    let o = c.args.orientation in
    let K = fits_known j _ _ k o c.args.at (sym (c.line_fits.ensures j t) ∙ c.in-Ok.is) in
    let h = known_has j _ k o K in
    let a = kind_in t k o h in
    let b = turn_in t k o h in
    let f = kinds_few t in
    record { fits = omega (arith, a, f) }

pub overflow_add-slot : goal.overflow_add-slot
overflow_add-slot c = let p = c.requires in
    let t = p.0.1 in
    let j = p.0.0 in
    let k = c.args.kind in
    let o = c.args.orientation in
    let K = fits_known j _ _ k o c.args.at (sym (c.line_fits.ensures j t) ∙ c.in-Ok.is) in
    let h = known_has j _ k o K in
    let a = kind_in t k o h in
    let b = turn_in t k o h in
    let f = kinds_few t in
    record { fits = omega (arith, a, b, f) }

pub offset_bounds-counts-kind : goal.offset_bounds-counts-kind
offset_bounds-counts-kind c = let p = c.requires in
    let t = p.0.1 in
    let j = p.0.0 in
    let k = c.args.kind in
    let o = c.args.orientation in
    let K = fits_known j _ _ k o c.args.at (sym (c.line_fits.ensures j t) ∙ c.in-Ok.is) in
    let h = known_has j _ k o K in
    let a = kind_in t k o h in
    let b = turn_in t k o h in
    let f = kinds_few t in
    record { fits = omega (arith, a, f) }

pub bounds-counts-kind : goal.bounds-counts-kind
bounds-counts-kind c = let p = c.requires in
    let t = p.0.1 in
    let j = p.0.0 in
    let k = c.args.kind in
    let o = c.args.orientation in
    let K = fits_known j _ _ k o c.args.at (sym (c.line_fits.ensures j t) ∙ c.in-Ok.is) in
    let h = known_has j _ k o K in
    let a = kind_in t k o h in
    let b = turn_in t k o h in
    let f = kinds_few t in
    omega (arith, a, f, p.1)

pub overflow_add-counts : goal.overflow_add-counts
overflow_add-counts c = let p = c.requires in
    let t = p.0.1 in
    let j = p.0.0 in
    let k = c.args.kind in
    let o = c.args.orientation in
    let K = fits_known j _ _ k o c.args.at (sym (c.line_fits.ensures j t) ∙ c.in-Ok.is) in
    let h = known_has j _ k o K in
    let a = kind_in t k o h in
    let b = turn_in t k o h in
    let f = kinds_few t in
    let n = leb-false (quantity_of j k) (get_or c.args.counts.now k 0) (known_few j (get_or c.args.counts.now k 0) k o K) in
    let m = copies_few t k in
    record { fits = omega (arith, n, m) }

pub offset_bounds-counts-kind-in-Ok : goal.offset_bounds-counts-kind-in-Ok
offset_bounds-counts-kind-in-Ok c = let p = c.requires in
    let t = p.0.1 in
    let j = p.0.0 in
    let k = c.args.kind in
    let o = c.args.orientation in
    let K = fits_known j _ _ k o c.args.at (sym (c.line_fits.ensures j t) ∙ c.in-Ok.is) in
    let h = known_has j _ k o K in
    let a = kind_in t k o h in
    let b = turn_in t k o h in
    let f = kinds_few t in
    record { fits = omega (arith, a, f) }

pub bounds-counts-kind-in-Ok : goal.bounds-counts-kind-in-Ok
bounds-counts-kind-in-Ok c = let p = c.requires in
    let t = p.0.1 in
    let j = p.0.0 in
    let k = c.args.kind in
    let o = c.args.orientation in
    let K = fits_known j _ _ k o c.args.at (sym (c.line_fits.ensures j t) ∙ c.in-Ok.is) in
    let h = known_has j _ k o K in
    let a = kind_in t k o h in
    let b = turn_in t k o h in
    let f = kinds_few t in
    omega (arith, a, f, p.1)

pub store_line-requires : goal.store_line-requires
store_line-requires c = let p = c.requires in
    let t = p.0.1 in
    let j = p.0.0 in
    let k = c.args.kind in
    let o = c.args.orientation in
    let K = fits_known j _ _ k o c.args.at (sym (c.line_fits.ensures j t) ∙ c.in-Ok.is) in
    let h = known_has j _ k o K in
    let a = kind_in t k o h in
    let b = turn_in t k o h in
    let f = kinds_few t in
    (slot_parted t k o h, p.2, p.3, p.4)

pub returns-in-Ok : goal.returns-in-Ok
returns-in-Ok c = let p = c.requires in
    let x = c.args in
    let k = x.kind in
    let o = x.orientation in (
      subst (λ (z : Stored). Within x.room z.line) (sym c.store_line.ensures)
          (stored-within x.g.index _ x.at x.room x.s x.placed.now p.4),
      λ j w ks st l t ri kept ki ti ai.
          let F = c.line_fits.ensures j t in
          let K = fits_known j _ _ k o x.at (sym F ∙ c.in-Ok.is) in
          let h = known_has j _ k o K in
          let a = kind_in t k o h in
          let f = kinds_few t in
          line-stored t w ks st l x.room ri x.counts.now x.placed.now x.s kept k o x.at ki ti ai h p.3 p.4 _
          (counted_next x.counts.now ks k p.1 kept.counted (omega (arith, a, f))) _ c.store_line.result c.store_line.ensures _
          (place_stores j w ks st l (sym (fits-same t w ks st l x.room ri x.counts.now x.placed.now x.s kept k o x.at ki ti ai
          c.line_fits.result F) ∙ c.in-Ok.is)),
    )

pub returns-in-Err : goal.returns-in-Err
returns-in-Err c = let x = c.args in (
  tt,
  λ j w ks st l t ri kept ki ti ai.
      place-refused j w ks st l _
      (sym (fits-same t w ks st l x.room ri x.counts.now x.placed.now x.s kept x.kind x.orientation x.at ki ti ai
      c.line_fits.result (c.line_fits.ensures j t)) ∙ c.in-Err.is),
)
