-- `slabs::xs::insert_xs` meets its contract. Assumes nothing.
use Prim.Native.Nat.{◌-◌, ◌*◌}
use lib.ListN.{get_or}
use lib.Ieee.{Float, nan}
use mathlib.Core.Path.{refl, ◌∙◌}
use mathlib.Core.List.{List}
use native.Mathlib.Omega.{arith}
use Rattle.slabs.specs.xs.inner.Xs.{x_at}
use Rattle.slabs.proofs.xs.SortedXs.{sort-none, sort_more}
use Rattle.slabs.proofs.xs.Runs.{inserted}
use Rattle.slabs.proofs.xs.insert_xs.Goals as goal

pub loop-i-init : goal.loop-i-init
loop-i-init c = let a = c.args in (omega arith, omega arith, λ (l : List Float). λ e. e ∙ sort-none l (x_at a.points.now) a.n)

pub loop-i-preserved : goal.loop-i-preserved
unfolding x_at
loop-i-preserved c = let l = c.loop-i in let a = c.args in let g = c.insert_x in (
  omega arith,
  omega arith,
  λ (s : List Float). λ e. sort_more s (x_at a.points.now) l.i a.n (omega arith) (omega arith) l.line g.new.line l.k (get_or a.points.now (2 * (l.i - 1)) nan) refl g.ensures (l.invariant.2 s e),
)

pub returns : goal.returns
returns c = let l = c.loop-i in let a = c.args in
    λ (s : List Float). λ e. inserted (x_at a.points.now) l.line s a.first l.i a.n a.m l.k (omega arith) (omega arith) l.invariant.1 (l.invariant.2 s e)
