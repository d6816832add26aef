use mathlib.Core.Path.{◌≡◌}
use Prim.Native.Nat.{ℕ, ◌+◌, ◌≤◌, ◌<◌}
use lib.ListN.{get_or}
use Rattle.index.proofs.entries.at_cursors.Given as goal

abbrev pub invariant-loop-b : goal.invariant-loop-b
invariant-loop-b l = (l.lo ≤ l.b) × ((d : ℕ) → l.lo ≤ d → d < l.b → get_or l.entries (get_or l.cursors (d + 1) 0) 0 ≡ l.number)
