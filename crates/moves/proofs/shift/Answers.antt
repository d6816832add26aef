use mathlib.Core.Path.{◌≡◌, subst}
use Prim.Native.Nat.{ℕ}
use native.Mathlib.Omega.{arith}
use lib.ListN.{length}
use Rattle.moves.specs.inner.Moves.{Shifted}
use Rattle.moves.proofs.MovedUp.{shifted_start, shifted_step}
use Rattle.moves.proofs.shift.Goals as goal

pub loop-b-init : goal.loop-b-init
loop-b-init c = shifted_start _ _ _

pub bounds-starts-b : goal.bounds-starts-b
bounds-starts-b c = let z = c.loop-b.invariant.size in omega arith

pub loop-b-preserved : goal.loop-b-preserved
loop-b-preserved c = let l = c.loop-b in
    let g = c.args in
    shifted_step g.from g.by g.starts.now l.b l.starts (omega arith) (omega arith) l.invariant

pub shape_of-starts : goal.shape_of-starts
shape_of-starts c = c.loop-b.invariant.size

pub returns : goal.returns
returns c = let l = c.loop-b in
    let g = c.args in
    let e : l.b ≡ length g.starts.now = omega arith in
    subst (λ (k : ℕ). Shifted g.from g.by g.starts.now k l.starts) e l.invariant
