-- `withdraw::standing::right_over` meets its contract. Assumes nothing.
use native.Mathlib.Omega.{arith}
use mathlib.Core.Path.{◌≡◌, refl, ap, ◌∙◌}
use Prim.Native.Nat.{ℕ, ◌-◌}
use lib.ListN.{get_or}
use lib.Ieee.{nan}
use Rattle.withdraw.specs.standing.inner.Standing.{right_with, right_over}
use Rattle.withdraw.proofs.standing.Summing.{right-none, right_more}
use Rattle.withdraw.proofs.standing.right_over.Goals as goal

pub loop-i-init : goal.loop-i-init
loop-i-init c = let a = c.args in
    (omega arith, c.requires.1, right-none a.inset_bounds.now a.order.now a.orientation.now a.x.now a.right a.from a.from refl)

pub bounds-x-i : goal.bounds-x-i
bounds-x-i c = omega (arith, c.requires.4)

pub bounds-order-i : goal.bounds-order-i
bounds-order-i c = omega (arith, c.requires.2)

pub bounds-orientation-i : goal.bounds-orientation-i
bounds-orientation-i c = omega (arith, c.requires.3)

pub right_with-reach-requires : goal.right_with-reach-requires
right_with-reach-requires c = (c.requires.0, λ o e. c.requires.5 c.loop-i.i o (omega arith) e)

pub loop-i-preserved : goal.loop-i-preserved
loop-i-preserved c = let a = c.args in
    let l = c.loop-i in (
      omega (arith, l.invariant.0),
      omega arith,
      c.right_with-reach.ensures ∙ (ap (λ r. right_with a.inset_bounds.now r (get_or a.x.now l.i nan) (get_or a.order.now l.i 0)
          (get_or a.orientation.now l.i 0)) l.invariant.2
          ∙ right_more a.inset_bounds.now a.order.now a.orientation.now a.x.now a.right a.from l.i l.invariant.0),
    )

pub returns : goal.returns
returns c = let a = c.args in
    let e : c.loop-i.i ≡ a.to = omega (arith, c.loop-i.invariant.1) in
    c.loop-i.invariant.2 ∙ ap (λ (i : ℕ). right_over a.inset_bounds.now a.order.now a.orientation.now a.x.now a.right a.from (i - a.from)) e
