use mathlib.Core.Path.{◌≡◌, refl, subst}
use Prim.Native.Nat.{ℕ, ◌+◌, ◌-◌}
use native.Mathlib.Omega.{arith}
use lib.ListN.{length-set}
use Rattle.moves.specs.inner.Moves.{Moved}
use Rattle.moves.proofs.MovedUp.{moved-start, moved_eight}
use Rattle.moves.proofs.move_eights.Goals as goal

pub loop-j-init : goal.loop-j-init
loop-j-init c = (omega arith, omega arith, refl, moved-start c.args.to c.args.to c.args.by c.args.s.now (native.Mathlib.Nat.le_refl c.args.to))

pub loop-j-preserved : goal.loop-j-preserved
loop-j-preserved c = let l = c.loop-j in
    let g = c.args in
    let e : l.j ≡ l.j - 8 + 8 = omega arith in
    let m = moved_eight (l.j - 8) g.to g.by g.s.now l.s (omega arith) c.requires.1 (subst (λ (k : ℕ). Moved k g.to g.by g.s.now l.s) e l.invariant.3) in
    (omega arith, omega arith, m.size, m)

pub shape_of-s : goal.shape_of-s
shape_of-s c = c.loop-j.invariant.2

pub returns : goal.returns
returns c = (c.loop-j.invariant.0, c.loop-j.invariant.1, c.loop-j.invariant.3)

pub bounds-s-at-in-loop-j : goal.bounds-s-at-in-loop-j
bounds-s-at-in-loop-j c = simp length-set (omega arith)

pub bounds-s-at-in-loop-j-2 : goal.bounds-s-at-in-loop-j-2
bounds-s-at-in-loop-j-2 c = simp length-set (omega arith)

pub bounds-s-at-in-loop-j-3 : goal.bounds-s-at-in-loop-j-3
bounds-s-at-in-loop-j-3 c = simp length-set (omega arith)

pub bounds-s-at-in-loop-j-4 : goal.bounds-s-at-in-loop-j-4
bounds-s-at-in-loop-j-4 c = simp length-set (omega arith)

pub bounds-s-at-in-loop-j-5 : goal.bounds-s-at-in-loop-j-5
bounds-s-at-in-loop-j-5 c = simp length-set (omega arith)

pub bounds-s-at-in-loop-j-6 : goal.bounds-s-at-in-loop-j-6
bounds-s-at-in-loop-j-6 c = simp length-set (omega arith)

pub bounds-s-at-in-loop-j-7 : goal.bounds-s-at-in-loop-j-7
bounds-s-at-in-loop-j-7 c = simp length-set (omega arith)
