use Prim.Native.Nat.{◌-◌}
use mathlib.Core.Path.{◌≡◌}
use mathlib.Core.Bool.{Bool}
use Rattle.slabs.proofs.Sorting.{over}
use Rattle.slabs.specs.Slab.{insert, Crossing}
use Rattle.slabs.specs.inner.Tables.{down, crossing_of, crossing_at, Orders}
use Rattle.slabs.proofs.insert.Given as goal

abbrev pub invariant-loop-k : goal.invariant-loop-k
invariant-loop-k g l = (order : Crossing → Crossing → Bool) → Orders (goal.F-post g l.first) order
    → over (crossing_at l.rows) l.k (l.n - l.k) (insert order (crossing_of l.c) (down (crossing_at l.rows) l.k)) ≡ insert order (crossing_of l.c) (down (crossing_at l.initial.rows) l.n)
