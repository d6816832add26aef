use mathlib.Core.Path.{sym, ◌∙◌, refl}
use mathlib.Core.Bool.{Bool, true, false}
use Prim.Native.Nat.{ℕ, ◌+◌, ◌-◌, ◌≤◌}
use native.Mathlib.Omega.{arith}
use lib.ListN.{length, get_or, length-replicate}
use Rattle.index.specs.Buckets.{buckets}
use Rattle.gaps.specs.inner.OpenGaps.{before}
use Rattle.enter.proofs.Marks.{gains_of, gains_counted, marked_copy, copy_more}
use Rattle.enter.proofs.GapFilling.{all_entries, copy_blocks, copy-laid, copy-entered, copy-refused}
use Rattle.enter.proofs.enter_many.Goals as goal

pub overflow_sub-left : goal.overflow_sub-left
overflow_sub-left c = c.requires.3.within buckets (omega arith)

pub bounds-starts-512 : goal.bounds-starts-512
bounds-starts-512 c = omega (arith, c.requires.3.table)

pub measure-requires : goal.measure-requires
measure-requires c = (c.requires.0, c.requires.1, length-replicate {A = ℕ} 64 0, length-replicate {A = ℕ} 64 0)

pub mark_all-requires : goal.mark_all-requires
mark_all-requires c = let g = c.args in
    let p = c.requires in
    let n = c.in-Some.ensures.fits in
    let y = p.3.within buckets (omega arith) in (
      p.0,
      p.1,
      c.measure.auto.firsts ∙ length-replicate {A = ℕ} 64 0,
      c.measure.auto.lasts ∙ length-replicate {A = ℕ} 64 0,
      n.4,
      n.2,
      n.3,
      p.2,
    )

pub overflow_sub-to : goal.overflow_sub-to
overflow_sub-to c = c.requires.0

pub open_all-requires : goal.open_all-requires
open_all-requires c = let g = c.args in
    let p = c.requires in
    let n = c.in-Some.ensures.fits in
    let y = p.3.within buckets (omega arith) in
    let G = gains_of g.ix g.standing.now (g.to - g.from) g.from in
    let C = gains_counted g.ix g.standing.now (g.to - g.from) g.from in
    let K = marked_copy g.ix g.standing.now g.from g.to c.in-Some.w.first c.in-Some.w.end
    c.mark_all.new.marks p.0 n.2 n.3 c.mark_all.ensures in
    let m = copy_more g.ix g.standing.now g.from g.to c.in-Some.w.more p.0 n.0 in (
      p.3.table,
      p.3.rise,
      c.mark_all.auto.marks ∙ p.2,
      omega (arith, y, n.1),
      n.2,
      omega
          (arith, y, n.1, p.1, c.well_formed.1.0.1, c.well_formed.1.1.1.1.0.1),
      (G, K, m),
    )

pub fill-requires : goal.fill-requires
fill-requires c = let g = c.args in
    let p = c.requires in
    let n = c.in-Some.ensures.fits in
    let y = p.3.within buckets (omega arith) in
    let G = gains_of g.ix g.standing.now (g.to - g.from) g.from in
    let C = gains_counted g.ix g.standing.now (g.to - g.from) g.from in
    let K = marked_copy g.ix g.standing.now g.from g.to c.in-Some.w.first c.in-Some.w.end
    c.mark_all.new.marks p.0 n.2 n.3 c.mark_all.ensures in
    let m = copy_more g.ix g.standing.now g.from g.to c.in-Some.w.more p.0 n.0 in
    let O = c.open_all.ensures G K m in
    let A = all_entries g.ix g.standing.now g.from g.to p.0 g.entries.now g.starts.now G p.3 C in (
      p.0,
      p.1,
      c.measure.auto.firsts ∙ length-replicate {A = ℕ} 64 0,
      c.measure.auto.lasts ∙ length-replicate {A = ℕ} 64 0,
      n.4,
      omega (arith, y, A, O.size, m, n.1),
      copy_blocks g.ix g.standing.now g.from g.to p.0 g.entries.now g.starts.now G p.3
          C _ _ O,
      p.4,
    )

pub returns-in_default : goal.returns-in_default
returns-in_default c = let g = c.args in (
  copy-refused g.ix g.standing.now g.from g.to _ g.entries.now g.starts.now c.requires.3 refl
      c.in_default.ensures.over,
  λ q. absurd (mathlib.Core.Bool.true≢false (sym q)),
)

pub returns : goal.returns
returns c = let g = c.args in
    let p = c.requires in
    let n = c.in-Some.ensures.fits in
    let y = p.3.within buckets (omega arith) in
    let G = gains_of g.ix g.standing.now (g.to - g.from) g.from in
    let C = gains_counted g.ix g.standing.now (g.to - g.from) g.from in
    let K = marked_copy g.ix g.standing.now g.from g.to c.in-Some.w.first c.in-Some.w.end
    c.mark_all.new.marks p.0 n.2 n.3 c.mark_all.ensures in
    let m = copy_more g.ix g.standing.now g.from g.to c.in-Some.w.more p.0 n.0 in
    let O = c.open_all.ensures G K m in
    let F = c.fill.ensures in
    let f : get_or g.starts.now buckets 0 + before G buckets ≤ length g.entries.now = omega (arith, y, m, n.1) in
    let q = c.fill.auto.entries in (
      copy-entered g.ix g.standing.now g.from g.to p.0 g.entries.now g.starts.now G p.3 C _ _ _ _ p.1 f O q F.0 F.1,
      λ r. copy-laid g.ix g.standing.now g.from g.to p.0 g.entries.now g.starts.now G p.3 C _ _ _ _ p.1 f O q F.0,
    )

pub slice_bounds-measure-end : goal.slice_bounds-measure-end
slice_bounds-measure-end c = sym (length-replicate {A = ℕ} 64 0)

pub slice_bounds-measure-end-2 : goal.slice_bounds-measure-end-2
slice_bounds-measure-end-2 c = sym (length-replicate {A = ℕ} 64 0)

pub slice_bounds-mark_all-end : goal.slice_bounds-mark_all-end
slice_bounds-mark_all-end c = sym (c.measure.auto.firsts ∙ length-replicate {A = ℕ} 64 0)

pub slice_bounds-mark_all-end-2 : goal.slice_bounds-mark_all-end-2
slice_bounds-mark_all-end-2 c = sym (c.measure.auto.lasts ∙ length-replicate {A = ℕ} 64 0)

pub slice_bounds-fill-end : goal.slice_bounds-fill-end
slice_bounds-fill-end c = sym (c.measure.auto.firsts ∙ length-replicate {A = ℕ} 64 0)

pub slice_bounds-fill-end-2 : goal.slice_bounds-fill-end-2
slice_bounds-fill-end-2 c = sym (c.measure.auto.lasts ∙ length-replicate {A = ℕ} 64 0)

pub shape_of-entries : goal.shape_of-entries
shape_of-entries c = c.fill.auto.entries ∙ c.open_all.auto.entries

pub shape_of-starts : goal.shape_of-starts
shape_of-starts c = c.fill.auto.starts ∙ c.open_all.auto.starts

pub shape_of-gains : goal.shape_of-gains
shape_of-gains c = c.mark_all.auto.marks
