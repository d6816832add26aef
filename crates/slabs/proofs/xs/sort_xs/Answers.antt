-- `slabs::xs::sort_xs` meets its contract. Assumes nothing.
use lib.Ieee.{Float, lt}
use mathlib.Core.Path.{ap, ◌∙◌}
use mathlib.Core.List.{List, ◌++◌}
use native.Mathlib.Omega.{arith}
use Rattle.slabs.specs.Slab.{sort}
use Rattle.slabs.proofs.Sorting.{up_all}
use Rattle.slabs.proofs.xs.Lines.{at}
use Rattle.slabs.specs.xs.inner.Xs.{x_at, sides}
use Rattle.slabs.proofs.xs.Runs.{sides_all, run_sorted, run_merged}
use Rattle.slabs.proofs.xs.sort_xs.Goals as goal

pub loop-i-init : goal.loop-i-init
loop-i-init c = let a = c.args in let s = c.frame_xs-m in let r = c.last_run-i in (
  omega arith,
  omega (arith, r.ensures.0),
  omega arith,
  omega (arith, s.ensures.0, r.ensures.0),
  c.insert_xs.ensures (sides a.sheet a.left a.right) s.ensures.1,
)

pub insert_xs-requires-in-loop-i : goal.insert_xs-requires-in-loop-i
insert_xs-requires-in-loop-i c = let b = (c.last_run-i.ensures.1 (omega arith)).0 in omega arith

pub merge_run-requires : goal.merge_run-requires
merge_run-requires c = let b = (c.last_run-i.ensures.1 (omega arith)).0 in omega arith

pub loop-i-preserved : goal.loop-i-preserved
loop-i-preserved c = let l = c.loop-i in let a = c.args in let s = c.insert_xs-in-loop-i in let k = c.min-c in
    let o = c.last_run-i.ensures.1 (omega arith) in (
      omega arith,
      omega arith,
      omega arith,
      omega arith,
      run_merged a.points.now (sides a.sheet a.left a.right) l.i a.n k.result (omega arith) l.invariant.1 l.line c.merge_run.new.line
          s.new.line l.m o.3 (sides_all a.sheet a.left a.right o.1 o.2)
          (run_sorted a.points.now (sides a.sheet a.left a.right) l.i a.n k.result (omega arith) l.invariant.1 (at l.run) s.new.line s.ensures)
          c.merge_run.ensures l.invariant.4,
    )

pub returns : goal.returns
returns c = let l = c.loop-i in let a = c.args in (
  omega arith,
  omega arith,
  l.invariant.4 ∙ ap (λ (es : List Float). sort lt (es ++ sides a.sheet a.left a.right)) (up_all (x_at a.points.now) l.i a.n (omega arith)),
)
