use mathlib.Core.Path.{◌≡◌, subst}
use Prim.Native.Nat.{ℕ, ◌+◌, ◌-◌}
use native.Mathlib.Omega.{arith}
use Rattle.moves.specs.inner.Moves.{Moved}
use Rattle.moves.proofs.MovedUp.{moved-start, moved-step}
use Rattle.moves.proofs.move_ones.Goals as goal

pub loop-j-init : goal.loop-j-init
loop-j-init c = (omega arith, omega arith, moved-start c.args.from c.args.to c.args.by c.args.s.now c.requires.0)

pub loop-j-preserved : goal.loop-j-preserved
loop-j-preserved c = let l = c.loop-j in
    let g = c.args in
    let e : l.j ≡ l.j - 1 + 1 = omega arith in
    (omega arith, omega arith, moved-step (l.j - 1) g.to g.by g.s.now l.s (omega arith) c.requires.1 (subst (λ (k : ℕ). Moved k g.to g.by g.s.now l.s) e l.invariant.2))

pub shape_of-s : goal.shape_of-s
shape_of-s c = c.loop-j.invariant.2.size

pub returns : goal.returns
returns c = let l = c.loop-j in
    let g = c.args in
    let e : l.j ≡ g.from = omega arith in
    subst (λ (k : ℕ). Moved k g.to g.by g.s.now l.s) e l.invariant.2
