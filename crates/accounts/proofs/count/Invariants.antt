use Rattle.std.proofs.Common.{◌≡◌, ◌≤◌, length}
use Rattle.accounts.specs.inner.Counting.{sum_to, stands_in, misses_in}
use Rattle.accounts.proofs.Counts.{Counted}
use Rattle.accounts.proofs.count.Given as goal

abbrev pub invariant-loop-i : goal.invariant-loop-i
invariant-loop-i l = (l.i ≤ l.n) × Counted (stands_in l.orientation) l.order l.placed_of l.i × Counted (misses_in l.orientation) l.order l.unplaced_of l.i × (l.placed ≡ sum_to (stands_in l.orientation) l.i) × (length l.placed_of ≡ length l.initial.placed_of) × (length l.unplaced_of ≡ length l.initial.unplaced_of)
