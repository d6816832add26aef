-- `store_line`: 20, 21, or the strips stand. Assumes nothing.
use Prim.Native.Nat.{◌*◌}
use native.Mathlib.Omega.{arith}
use mathlib.Core.Path.{sym, ap, ◌∙◌}
use lib.ListN.{take}
use lib.Seq.{length-take-le}
use Rattle.choose.specs.declared.Part.{Part}
use Rattle.choose.specs.inner.Choosing.{apart_part}
use Rattle.judge_lines.proofs.Storing.{line_short, line_full, line-done}
use Rattle.judge_lines.proofs.store_line.Goals as goal

pub part_at-p-requires : goal.part_at-p-requires
part_at-p-requires c = c.requires.0

pub slice_bounds-strips_of-end : goal.slice_bounds-strips_of-end
slice_bounds-strips_of-end c = sym (length-take-le (6 * c.args.g.apart_strips) c.args.shapes.now c.requires.1)

pub overflow_sub-room : goal.overflow_sub-room
overflow_sub-room c = c.requires.3

pub returns-then-room-s : goal.returns-then-room-s
returns-then-room-s c = let a = c.args in
    let e = c.strips_of-aparts.ensures ∙ ap (λ (q : Part). apart_part q (take (6 * a.g.apart_strips) a.shapes.now)) c.part_at-p.ensures in
    line_short a.g.index _ c.strips_of-aparts.result.now e a.at a.room a.s a.placed.now c.capacity-k.result c.capacity-k.ensures
    c.if-room-s.true

pub returns-in_default : goal.returns-in_default
returns-in_default c = let a = c.args in
    let e = c.strips_of-aparts.ensures ∙ ap (λ (q : Part). apart_part q (take (6 * a.g.apart_strips) a.shapes.now)) c.part_at-p.ensures in
    line_full a.g.index _ c.strips_of-aparts.result.now e a.at a.room a.s a.placed.now c.capacity-k.result c.capacity-k.ensures
    c.if-room-s.false c.entries_rest.result c.entries_rest.ensures c.in_default.is

pub store_moved-requires : goal.store_moved-requires
store_moved-requires c = let p = c.requires in
    let k = c.capacity-k.ensures in
    let h = c.if-room-s.false in
    omega (arith, p.2, p.3, k, h)

pub overflow_add-strips : goal.overflow_add-strips
overflow_add-strips c = let p = c.requires in
    let h = c.if-room-s.false in
    let l = c.well_formed.1.1.1.1.0.0 in
    omega (arith, p.2, p.3, h, l)

pub returns : goal.returns
returns c = let a = c.args in
    let e = c.strips_of-aparts.ensures ∙ ap (λ (q : Part). apart_part q (take (6 * a.g.apart_strips) a.shapes.now)) c.part_at-p.ensures in
    line-done a.g.index _ c.strips_of-aparts.result.now e a.at a.room a.s a.placed.now c.capacity-k.result c.capacity-k.ensures
    c.if-room-s.false c.entries_rest.result c.entries_rest.ensures _ c.in-Some.is _
    c.store_moved.ensures
