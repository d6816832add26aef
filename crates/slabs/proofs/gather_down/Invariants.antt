use Prim.Native.Nat.{◌+◌, ◌≤◌, ◌<◌, ◌-◌}
use mathlib.Core.Path.{◌≡◌}
use Rattle.slabs.specs.Slab.{up, crossings}
use Rattle.slabs.specs.inner.Tables.{down, crossing_at, edge_at}
use Rattle.slabs.proofs.gather_down.Given as goal

abbrev pub invariant-loop-i : goal.invariant-loop-i
invariant-loop-i l = (l.n + l.i ≤ l.count) × (0 < l.left) × (l.allowance ≤ l.left + (l.count - l.i)) × (down (crossing_at l.rows) l.n ≡ crossings l.xa l.xb (up (edge_at l.es) l.i (l.count - l.i)))
