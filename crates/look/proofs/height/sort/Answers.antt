use mathlib.Core.Path.{sym, subst}
use mathlib.Core.List.{List}
use Prim.Native.Nat.{◌-◌}
use native.Mathlib.Omega.{arith}
use lib.Ieee.{Float}
use Rattle.look.specs.height.inner.Raising.{Rearranged}
use Rattle.look.proofs.height.Rearranging.{rearranged-refl, rearranged_trans, rearranged_more, swapped-rearranged}
use Rattle.look.proofs.height.sort.Goals as goal

pub loop-end-init : goal.loop-end-init
loop-end-init c = (omega arith, rearranged-refl _ _)

pub swap-requires : goal.swap-requires
swap-requires c = (omega (arith, c.loop-end.invariant.0, c.loop-end.invariant.1.size, c.requires), omega (arith, c.loop-end.invariant.0, c.loop-end.invariant.1.size, c.requires))

pub sift_down-requires : goal.sift_down-requires
sift_down-requires c = omega (arith, c.loop-end.invariant.0, c.loop-end.invariant.1.size, c.swap.auto.room, c.requires)

pub loop-end-preserved : goal.loop-end-preserved
loop-end-preserved c = let l = c.loop-end in
    let g = c.args in
    let p = c.requires in
    let e = l.invariant.1.size in (
      omega (arith, l.invariant.0),
      rearranged_trans g.n g.room.now _ _
          (subst (λ (s : List Float). Rearranged g.n g.room.now s) (sym c.swap.ensures) (rearranged_trans g.n g.room.now l.room _ l.invariant.1 (swapped-rearranged l.room 0 (l.end - 1) (omega (arith, l.invariant.0)) (omega (arith, l.invariant.0)) g.n (omega (arith, l.invariant.0)) (omega (arith, l.invariant.0)))))
          (rearranged_more (l.end - 1) g.n _ _ (omega (arith, l.invariant.0)) c.sift_down.ensures),
    )

pub shape_of-room : goal.shape_of-room
shape_of-room c = c.loop-end.invariant.1.size

pub returns : goal.returns
returns c = c.loop-end.invariant.1
