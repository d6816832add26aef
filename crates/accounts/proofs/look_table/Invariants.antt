use Rattle.std.proofs.Common.{◌≡◌, ℕ, ◌<◌, ◌≤◌, length, get_or}
use Rattle.accounts.specs.inner.Counting.{look_in}
use Rattle.accounts.proofs.look_table.Given as goal

abbrev pub invariant-loop-i : goal.invariant-loop-i
invariant-loop-i l = (l.i ≤ 1024) × (length l.table ≡ 1024) × ((q : ℕ) → q < l.i → get_or l.table q 0 ≡ look_in l.rows l.kinds l.look_counts q)
