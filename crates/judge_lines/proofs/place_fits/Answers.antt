-- `place_fits`: in range, clear of the sheet, clear of the copies. Assumes nothing.
use Prim.Native.Nat.{◌*◌, ◌≤◌}
use native.Mathlib.Omega.{arith}
use mathlib.Core.Path.{sym, ap, subst⁻¹, ◌∙◌}
use mathlib.Core.List.{List}
use lib.ListN.{take, drop}
use lib.Seq.{length-take-le}
use lib.Ieee.{Float}
use Rattle.strips.specs.declared.Rect.{Rect}
use Rattle.index.specs.Intervals.{forbidden_of}
use Rattle.look.specs.height.Smallest.{outside}
use Rattle.rooms.proofs.tracks.Parts.{rest-is}
use Rattle.search.specs.declared.columns.Columns.{Columns}
use Rattle.search.specs.columns.inner.Stands.{columns_of}
use Rattle.choose.specs.declared.Part.{Part}
use Rattle.choose.specs.inner.Choosing.{part_at, inset_part, apart_part}
use Rattle.placement.specs.range.inner.Ranged.{in_range_of}
use Rattle.judge_lines.proofs.Verdicts.{outside_range, sheet_in_way, copy_in_way, clear-there}
use Rattle.judge_lines.proofs.place_fits.Goals as goal

pub bounds_at-b-requires : goal.bounds_at-b-requires
bounds_at-b-requires c = c.requires.0

pub in_range-requires : goal.in_range-requires
in_range-requires c = let a = c.args in
    subst⁻¹ (λ (k : Columns). k.count ≤ 4000000000) (c.new-k.ensures ∙ ap (λ (b : Rect). columns_of a.g.bounds b a.g.resolution)
    c.bounds_at-b.ensures) c.requires.3

pub returns-then-not-in_range : goal.returns-then-not-in_range
returns-then-not-in_range c = let a = c.args in
    let ek = c.new-k.ensures ∙ ap (λ (b : Rect). columns_of a.g.bounds b a.g.resolution)
    c.bounds_at-b.ensures in
    let ea = c.in_range.ensures ∙ ap (λ (k : Columns). in_range_of k a.at.x a.at.y) ek in
    outside_range _ _ _ _ _ a.at c.in_range.result c.in_range.result c.in_range.result ea (c.if-not-in_range.true)

pub part_at-p-requires : goal.part_at-p-requires
part_at-p-requires c = c.requires.1

pub overflow_mul-end : goal.overflow_mul-end
overflow_mul-end c = record { fits = omega (arith, c.requires.2, c.well_formed.1.1.1.1.0.1) }

pub slice_bounds-strips_of-end : goal.slice_bounds-strips_of-end
slice_bounds-strips_of-end c = sym (length-take-le (6 * c.args.g.apart_strips) c.args.shapes.now c.requires.2)

pub offset_bounds-shapes-end : goal.offset_bounds-shapes-end
offset_bounds-shapes-end c = record { fits = omega (arith, c.requires.2, c.well_formed.1.1.1.1.0.1) }

pub returns-then-not-clear : goal.returns-then-not-clear
returns-then-not-clear c = let a = c.args in
    let n = 6 * a.g.apart_strips in
    let s = a.shapes.now in
    let ek = c.new-k.ensures ∙ ap (λ (b : Rect). columns_of a.g.bounds b a.g.resolution) c.bounds_at-b.ensures in
    let ea = c.in_range.ensures ∙ ap (λ (k : Columns). in_range_of k a.at.x a.at.y) ek in
    let ei = c.strips_of-insets.ensures ∙ (ap (inset_part c.part_at-p.result) (rest-is n s) ∙ ap (λ (q : Part). inset_part q (drop n s))
    c.part_at-p.ensures) in
    let eb = c.clear.ensures ∙ ap (λ (l : List Float). outside (forbidden_of a.sheet.now l a.at.x) a.at.y) ei in
    sheet_in_way _ _ (apart_part (part_at a.parts.now a.slot) (take n s)) a.sheet.now a.standing.now a.at c.in_range.result
    c.clear.result c.clear.result ea (c.if-not-in_range.false) eb (c.if-not-clear.true)

pub slice_bounds-strips_of-end-3 : goal.slice_bounds-strips_of-end-3
slice_bounds-strips_of-end-3 c = sym (length-take-le (6 * c.args.g.apart_strips) c.args.shapes.now c.requires.2)

pub offset_bounds-shapes-end-2 : goal.offset_bounds-shapes-end-2
offset_bounds-shapes-end-2 c = record { fits = omega (arith, c.requires.2, c.well_formed.1.1.1.1.0.1) }

pub slice_bounds-strips_of-count-2 : goal.slice_bounds-strips_of-count-2
slice_bounds-strips_of-count-2 c = omega (arith, c.requires.2)

pub slice_bounds-strips_of-start-2 : goal.slice_bounds-strips_of-start-2
slice_bounds-strips_of-start-2 c = c.requires.2

pub returns-then-not-clear-2 : goal.returns-then-not-clear-2
returns-then-not-clear-2 c = let a = c.args in
    let n = 6 * a.g.apart_strips in
    let s = a.shapes.now in
    let ek = c.new-k.ensures ∙ ap (λ (b : Rect). columns_of a.g.bounds b a.g.resolution) c.bounds_at-b.ensures in
    let ea = c.in_range.ensures ∙ ap (λ (k : Columns). in_range_of k a.at.x a.at.y) ek in
    let ei = c.strips_of-insets.ensures ∙ (ap (inset_part c.part_at-p.result) (rest-is n s) ∙ ap (λ (q : Part). inset_part q (drop n s))
    c.part_at-p.ensures) in
    let eb = c.clear.ensures ∙ ap (λ (l : List Float). outside (forbidden_of a.sheet.now l a.at.x) a.at.y) ei in
    let eo = c.strips_of-aparts.ensures ∙ ap (λ (q : Part). apart_part q (take n s)) c.part_at-p.ensures in
    let ec = c.clear-2.ensures ∙ ap (λ (l : List Float). outside (forbidden_of a.standing.now l a.at.x) a.at.y) eo in
    copy_in_way _ _ _ a.sheet.now a.standing.now a.at c.in_range.result c.clear.result c.clear-2.result ea
    (c.if-not-in_range.false) eb (c.if-not-clear.false) ec (c.if-not-clear-2.true)

pub returns : goal.returns
returns c = let a = c.args in
    let n = 6 * a.g.apart_strips in
    let s = a.shapes.now in
    let ek = c.new-k.ensures ∙ ap (λ (b : Rect). columns_of a.g.bounds b a.g.resolution) c.bounds_at-b.ensures in
    let ea = c.in_range.ensures ∙ ap (λ (k : Columns). in_range_of k a.at.x a.at.y) ek in
    let ei = c.strips_of-insets.ensures ∙ (ap (inset_part c.part_at-p.result) (rest-is n s) ∙ ap (λ (q : Part). inset_part q (drop n s))
    c.part_at-p.ensures) in
    let eb = c.clear.ensures ∙ ap (λ (l : List Float). outside (forbidden_of a.sheet.now l a.at.x) a.at.y) ei in
    let eo = c.strips_of-aparts.ensures ∙ ap (λ (q : Part). apart_part q (take n s)) c.part_at-p.ensures in
    let ec = c.clear-2.ensures ∙ ap (λ (l : List Float). outside (forbidden_of a.standing.now l a.at.x) a.at.y) eo in
    clear-there _ _ _ a.sheet.now a.standing.now a.at c.in_range.result c.clear.result c.clear-2.result ea
    (c.if-not-in_range.false) eb (c.if-not-clear.false) ec (c.if-not-clear-2.false)
