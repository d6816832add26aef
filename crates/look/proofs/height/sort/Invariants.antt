use Prim.Native.Nat.{◌≤◌}
use Rattle.look.specs.height.inner.Raising.{Rearranged}
use Rattle.look.proofs.height.sort.Given as goal

abbrev pub invariant-loop-end : goal.invariant-loop-end
invariant-loop-end l = (l.end ≤ l.n) × Rearranged l.n l.initial.room l.room
