use Prim.Native.Nat.{◌-◌}
use Rattle.look.specs.height.inner.Raising.{Rearranged}
use Rattle.look.proofs.height.sift_down.Given as goal

abbrev pub invariant-loop-root : goal.invariant-loop-root
invariant-loop-root l = Rearranged l.end l.initial.room l.room

abbrev pub decreases-loop-root : goal.decreases-loop-root
decreases-loop-root l = l.end - l.root
