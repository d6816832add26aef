use Prim.Native.Nat.{ℕ, ◌≤◌}
use mathlib.Core.Path.{◌≡◌}
use Rattle.slabs.specs.Slab.{up}
use Rattle.slabs.specs.inner.Tables.{edge_at}
use Rattle.strips.specs.inner.Tables.{slanted}
use Rattle.strips.proofs.drop_vertical.Given as goal

abbrev pub invariant-loop-i : goal.invariant-loop-i
invariant-loop-i l = (l.m ≤ l.i) × ((q : ℕ) → l.i ≤ q → edge_at l.es q ≡ edge_at l.initial.es q) × (up (edge_at l.es) 0 l.m ≡ slanted (up (edge_at l.initial.es) 0 l.i))
