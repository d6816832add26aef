use mathlib.Core.Path.{sym, subst}
use mathlib.Core.List.{List}
use native.Mathlib.Omega.{arith}
use lib.Ieee.{Float}
use Rattle.look.specs.height.inner.Raising.{Rearranged}
use Rattle.look.proofs.height.Rearranging.{rearranged-refl, rearranged_trans, swapped-rearranged}
use Rattle.look.proofs.height.sift_down.Goals as goal

pub loop-root-init : goal.loop-root-init
loop-root-init c = rearranged-refl _ _

pub loop-root-preserved-then-room-root : goal.loop-root-preserved-then-room-root
loop-root-preserved-then-room-root c = let l = c.loop-root in
    let g = c.args in
    let e = l.invariant.size in
    let t = c.loop-root-test.true in
    let r = c.higher_child-c.ensures in
    let p = c.requires in
    subst (λ (s : List Float). Rearranged g.end g.room.now s) (sym c.swap.ensures) (rearranged_trans g.end g.room.now l.room _ l.invariant (swapped-rearranged l.room l.root c.higher_child-c.result (omega (arith, r.1)) (omega (arith, r.1)) g.end (omega arith) r.1))

pub loop-root-preserved : goal.loop-root-preserved
loop-root-preserved c = c.loop-root.invariant

pub shape_of-room : goal.shape_of-room
shape_of-room c = c.loop-root.invariant.size

pub returns : goal.returns
returns c = c.loop-root.invariant
