use mathlib.Core.Path.{◌≡◌}
use Prim.Native.Nat.{◌≤◌}
use Rattle.trapezoid.specs.Strip.{capacity}
use Rattle.store.specs.inner.Storing.{moved_to}
use Rattle.store.proofs.store_moved.Given as goal

abbrev pub invariant-loop-j : goal.invariant-loop-j
invariant-loop-j l = (l.j ≤ capacity l.apart) × (l.placed ≡ moved_to l.apart l.x l.y l.n l.initial.placed l.j)
