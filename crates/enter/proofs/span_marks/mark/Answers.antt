use mathlib.Core.Path.{◌∙◌}
use Prim.Native.Nat.{◌+◌, ◌-◌}
use native.Mathlib.Omega.{arith}
use lib.ListN.{get_or, set, length-set}
use Rattle.enter.proofs.span_marks.Marking.{mark_before, mark_both, mark_last, mark_not}
use Rattle.enter.proofs.span_marks.mark.Goals as goal

pub overflow_add-marks : goal.overflow_add-marks
overflow_add-marks c = let z = (c.requires.2 c.if-lo-hi.true).0 in omega arith

pub bounds-marks-lo : goal.bounds-marks-lo
bounds-marks-lo c = simp length-set (omega (arith, c.requires.0, c.if-lo-hi.true))

pub overflow_sub-marks-then-first-lo : goal.overflow_sub-marks-then-first-lo
overflow_sub-marks-then-first-lo c = mark_before c.args.marks.now c.args.lo c.args.hi _ c.if-lo-hi.true (omega arith) ((c.requires.2 c.if-lo-hi.true).1 c.if-first-lo.true)

pub bounds-marks-lo-then-first-lo : goal.bounds-marks-lo-then-first-lo
bounds-marks-lo-then-first-lo c = simp length-set (omega (arith, c.requires.0, c.if-lo-hi.true))

pub shape_of-marks-then-first-lo : goal.shape_of-marks-then-first-lo
shape_of-marks-then-first-lo c = let g = c.args in let n = set g.marks.now g.hi (get_or g.marks.now g.hi 0 + 1) in length-set n (g.lo - 1) (get_or n (g.lo - 1) 0 - 1) ∙ length-set g.marks.now g.hi (get_or g.marks.now g.hi 0 + 1)

pub shape_of-marks-else-first-lo : goal.shape_of-marks-else-first-lo
shape_of-marks-else-first-lo c = let g = c.args in length-set g.marks.now g.hi (get_or g.marks.now g.hi 0 + 1)

pub returns-then-first-lo : goal.returns-then-first-lo
returns-then-first-lo c = let g = c.args in mark_both g.marks.now g.lo g.hi g.first c.if-lo-hi.true c.if-first-lo.true c.requires.0 ((c.requires.2 c.if-lo-hi.true).1 c.if-first-lo.true)

pub returns-else-first-lo : goal.returns-else-first-lo
returns-else-first-lo c = let g = c.args in mark_last g.marks.now g.lo g.hi g.first c.if-lo-hi.true (omega (arith, c.requires.1, c.if-first-lo.false)) c.requires.0

pub returns-else-lo-hi : goal.returns-else-lo-hi
returns-else-lo-hi c = let g = c.args in mark_not g.marks.now g.lo g.hi g.first (omega (arith, c.if-lo-hi.false))
