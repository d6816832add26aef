use mathlib.Core.Path.{sym}
use Prim.Native.Nat.{◌+◌, ◌-◌}
use native.Mathlib.Omega.{arith}
use Rattle.gaps.proofs.Before.{before-rise}
use Rattle.gaps.proofs.Opening.{opened_start, opened_turn, opened_end, marks_tell}
use Rattle.gaps.proofs.open_gaps.Goals as goal

pub loop-left-init : goal.loop-left-init
loop-left-init c = (omega arith, λ g K e. (e, sym (K.late c.args.end (native.Mathlib.Nat.le_refl c.args.end) c.requires.1), opened_start _ _ _ _))

pub bounds-marks-b : goal.bounds-marks-b
bounds-marks-b c = let l = c.loop-left in
    let p = c.requires in
    let S = l.invariant.1 p.6.0 p.6.1 p.6.2 in
    let t = marks_tell c.args.count c.args.end p.6.0 c.args.marks.now l.b l.left l.new p.6.1 l.invariant.0
    c.loop-left-test.true S.0 S.1 in
    omega (arith, t.0, l.invariant.0, S.2.size, S.2.table, p.0, p.1, p.3)

pub bounds-starts-b : goal.bounds-starts-b
bounds-starts-b c = let l = c.loop-left in
    let p = c.requires in
    let S = l.invariant.1 p.6.0 p.6.1 p.6.2 in
    let t = marks_tell c.args.count c.args.end p.6.0 c.args.marks.now l.b l.left l.new p.6.1 l.invariant.0
    c.loop-left-test.true S.0 S.1 in
    omega (arith, t.0, l.invariant.0, S.2.size, S.2.table, p.0, p.1, p.3)

pub bounds-starts-b-in-loop-left : goal.bounds-starts-b-in-loop-left
bounds-starts-b-in-loop-left c = let l = c.loop-left in
    let p = c.requires in
    let S = l.invariant.1 p.6.0 p.6.1 p.6.2 in
    let t = marks_tell c.args.count c.args.end p.6.0 c.args.marks.now l.b l.left l.new p.6.1 l.invariant.0
    c.loop-left-test.true S.0 S.1 in
    omega (arith, t.0, l.invariant.0, S.2.size, S.2.table, p.0, p.1, p.3)

pub bounds-starts-b-in-loop-left-2 : goal.bounds-starts-b-in-loop-left-2
bounds-starts-b-in-loop-left-2 c = let l = c.loop-left in
    let p = c.requires in
    let S = l.invariant.1 p.6.0 p.6.1 p.6.2 in
    let t = marks_tell c.args.count c.args.end p.6.0 c.args.marks.now l.b l.left l.new p.6.1 l.invariant.0
    c.loop-left-test.true S.0 S.1 in
    omega (arith, t.0, l.invariant.0, S.2.size, S.2.table, p.0, p.1, p.3)

pub loop-left-smaller : goal.loop-left-smaller
loop-left-smaller c = let l = c.loop-left in
    let p = c.requires in
    let S = l.invariant.1 p.6.0 p.6.1 p.6.2 in
    let t = marks_tell c.args.count c.args.end p.6.0 c.args.marks.now l.b l.left l.new p.6.1 l.invariant.0
    c.loop-left-test.true S.0 S.1 in
    omega (arith, t.0, l.invariant.0, S.2.size, S.2.table, p.0, p.1, p.3)

pub move_up-requires : goal.move_up-requires
move_up-requires c = let l = c.loop-left in
    let p = c.requires in
    let S = l.invariant.1 p.6.0 p.6.1 p.6.2 in
    let t = marks_tell c.args.count c.args.end p.6.0 c.args.marks.now l.b l.left l.new p.6.1 l.invariant.0
    c.loop-left-test.true S.0 S.1 in
    let g = c.args in
    let w = before-rise p.6.0 (l.b - 1) g.end (omega (arith, l.invariant.0)) in
    let u = S.2.old (l.b - 1) (omega arith) in
    let v = S.2.old (l.b - 1 + 1) (omega (arith, t.0)) in
    let s = p.2 (l.b - 1) (l.b - 1 + 1) (omega arith) (omega (arith, t.0, l.invariant.0)) in
    let y = p.2 (l.b - 1 + 1) g.end (omega (arith, t.0, l.invariant.0)) (omega arith) in
    (omega (arith, u, v, s), omega (arith, v, y, w, t.2, t.3, S.2.size, p.4, p.6.2))

pub loop-left-preserved : goal.loop-left-preserved
loop-left-preserved c = let l = c.loop-left in
    let p = c.requires in
    let g = c.args in (
      omega (arith, l.invariant.0),
      λ G K e. (
          let S = l.invariant.1 G K e in
          let t = marks_tell g.count g.end G g.marks.now l.b l.left l.new K l.invariant.0 c.loop-left-test.true S.0 S.1 in (
            omega (arith, t.2, t.3),
            t.2,
            opened_turn g.end g.starts.now G g.entries.now (omega (arith, p.0, p.1)) p.2 l.b l.left _
                l.entries l.starts _ t.0 l.invariant.0 S.0 t.2 S.2 c.move_up.ensures,
          )
          ),
    )

pub shape_of-entries : goal.shape_of-entries
shape_of-entries c = let p = c.requires in (c.loop-left.invariant.1 p.6.0 p.6.1 p.6.2).2.size

pub shape_of-starts : goal.shape_of-starts
shape_of-starts c = let p = c.requires in (c.loop-left.invariant.1 p.6.0 p.6.1 p.6.2).2.table

pub returns : goal.returns
returns c = let l = c.loop-left in
    let g = c.args in
    let p = c.requires in
    λ G K e. (let S = l.invariant.1 G K e in opened_end g.end g.starts.now G g.entries.now (omega (arith, p.0, p.1)) p.2 l.b l.entries
    l.starts l.invariant.0 (let z = S.0 in omega arith) S.2)

pub overflow_sub-b : goal.overflow_sub-b
overflow_sub-b c = let l = c.loop-left in
    let p = c.requires in
    let S = l.invariant.1 p.6.0 p.6.1 p.6.2 in
    let t = marks_tell c.args.count c.args.end p.6.0 c.args.marks.now l.b l.left l.new p.6.1 l.invariant.0 c.loop-left-test.true
    S.0 S.1 in
    omega (arith, t.0, l.invariant.0, S.2.size, S.2.table, p.0, p.1, p.3)

pub overflow_add-new : goal.overflow_add-new
overflow_add-new c = let l = c.loop-left in
    let p = c.requires in
    let S = l.invariant.1 p.6.0 p.6.1 p.6.2 in
    let t = marks_tell c.args.count c.args.end p.6.0 c.args.marks.now l.b l.left l.new p.6.1 l.invariant.0
    c.loop-left-test.true S.0 S.1 in
    let r = before-rise p.6.0 l.b c.args.end l.invariant.0 in
    omega (arith, t.1, t.2, t.3, r, S.0, p.6.2, p.5)

pub overflow_sub-new : goal.overflow_sub-new
overflow_sub-new c = let l = c.loop-left in
    let p = c.requires in
    let S = l.invariant.1 p.6.0 p.6.1 p.6.2 in
    let t = marks_tell c.args.count c.args.end p.6.0 c.args.marks.now l.b l.left l.new p.6.1 l.invariant.0
    c.loop-left-test.true S.0 S.1 in
    t.1

pub overflow_sub-left : goal.overflow_sub-left
overflow_sub-left c = let l = c.loop-left in
    let p = c.requires in
    let S = l.invariant.1 p.6.0 p.6.1 p.6.2 in
    let t = marks_tell c.args.count c.args.end p.6.0 c.args.marks.now l.b l.left l.new p.6.1 l.invariant.0
    c.loop-left-test.true S.0 S.1 in
    omega (arith, t.2, t.3)

pub overflow_add-starts : goal.overflow_add-starts
overflow_add-starts c = let l = c.loop-left in
    let p = c.requires in
    let S = l.invariant.1 p.6.0 p.6.1 p.6.2 in
    let t = marks_tell c.args.count c.args.end p.6.0 c.args.marks.now l.b l.left l.new p.6.1 l.invariant.0
    c.loop-left-test.true S.0 S.1 in
    let g = c.args in
    let w = before-rise p.6.0 (l.b - 1) g.end (omega (arith, l.invariant.0)) in
    let v = S.2.old (l.b - 1 + 1) (omega (arith, t.0)) in
    let y = p.2 (l.b - 1 + 1) g.end (omega (arith, t.0, l.invariant.0)) (omega arith) in
    omega (arith, v, y, w, t.2, t.3, S.2.size, p.4, p.6.2)
