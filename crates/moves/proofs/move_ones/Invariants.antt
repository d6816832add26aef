use Prim.Native.Nat.{◌≤◌}
use Rattle.moves.specs.inner.Moves.{Moved}
use Rattle.moves.proofs.move_ones.Given as goal

abbrev pub invariant-loop-j : goal.invariant-loop-j
invariant-loop-j l = (l.from ≤ l.j) × (l.j ≤ l.to) × Moved l.j l.to l.by l.initial.s l.s
