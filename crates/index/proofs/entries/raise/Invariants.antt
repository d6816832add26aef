use mathlib.Core.Path.{◌≡◌}
use Prim.Native.Nat.{ℕ, ◌+◌, ◌-◌, ◌≤◌}
use lib.ListN.{length, get_or}
use Rattle.index.specs.entries.inner.Cursors.{raised}
use Rattle.index.proofs.entries.raise.Given as goal

abbrev pub invariant-loop-b : goal.invariant-loop-b
invariant-loop-b l = (l.lo ≤ l.b) × (length l.table ≡ length l.initial.table) × ((d : ℕ) → l.b ≤ d → get_or l.table (d + 1) 0 ≡ get_or l.initial.table (d + 1) 0) ×
    (raised (l.hi + 1 - l.b) l.b l.table ≡ raised (l.hi + 1 - l.lo) l.lo l.initial.table)
