use Prim.Native.Nat.{ℕ, ◌≤◌, ◌<◌, ◌-◌}
use lib.ListN.{length}
use mathlib.Core.Path.{◌≡◌}
use Rattle.slabs.specs.Slab.{up, sort}
use Rattle.slabs.specs.inner.Tables.{down}
use Rattle.nesting.specs.CopyOrder.{ahead}
use Rattle.copy_order.specs.inner.KindTables.{numbered_at}
use Rattle.copy_order.proofs.Lines.{at}
use Rattle.copy_order.proofs.sort_kinds.Given as goal

abbrev pub invariant-loop-k : goal.invariant-loop-k
invariant-loop-k l = (l.k ≤ l.kinds) × (length l.line ≡ length l.initial.line) × ((q : ℕ) → q < l.kinds - l.k → at l.line q < 64)
    × (down (λ (q : ℕ). numbered_at l.rows l.areas (at l.line q)) (l.kinds - l.k) ≡ sort ahead (up (numbered_at l.rows l.areas) l.k (l.kinds - l.k)))
