use Prim.Native.Nat.{◌≤◌}
use Rattle.slabs.proofs.Forward.{Gathered}
use Rattle.slabs.specs.inner.Tables.{crossing_at, edge_at}
use Rattle.slabs.proofs.gather_up.Given as goal

abbrev pub invariant-loop-i : goal.invariant-loop-i
invariant-loop-i l = (l.n ≤ l.i) × Gathered l.xa l.xb (edge_at l.es) (crossing_at l.rows) l.n l.i
