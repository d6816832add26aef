use Prim.Native.Nat.{ℕ, ◌≤◌, ◌<◌, ◌-◌, ◌+◌}
use lib.ListN.{length}
use mathlib.Core.Path.{◌≡◌}
use Rattle.slabs.proofs.Sorting.{over}
use Rattle.slabs.specs.Slab.{insert}
use Rattle.slabs.specs.inner.Tables.{down}
use Rattle.nesting.specs.CopyOrder.{ahead}
use Rattle.copy_order.specs.inner.KindTables.{numbered_at}
use Rattle.copy_order.proofs.Lines.{at}
use Rattle.copy_order.proofs.insert_kind.Given as goal

abbrev pub invariant-loop-i : goal.invariant-loop-i
invariant-loop-i l = (l.i ≤ l.n) × (length l.line ≡ length l.initial.line) × ((q : ℕ) → q < l.n + 1 → (q ≡ l.i → ⊥) → at l.line q < 64)
    × (over (λ (q : ℕ). numbered_at l.rows l.areas (at l.line q)) l.i (l.n - l.i) (insert ahead (numbered_at l.rows l.areas l.k) (down (λ (q : ℕ). numbered_at l.rows l.areas (at l.line q)) l.i)) ≡ insert ahead (numbered_at l.rows l.areas l.k) (down (λ (q : ℕ). numbered_at l.rows l.areas (at l.initial.line q)) l.n))
