use Rattle.std.proofs.Common.{◌≡◌, ℕ, ◌<◌, ◌≤◌, length, get_or}
use Rattle.accounts.specs.inner.Counting.{sum_to}
use Rattle.accounts.proofs.sum_up.Given as goal

abbrev pub invariant-loop-k : goal.invariant-loop-k
invariant-loop-k l = (l.k ≤ 64) × (length l.starts ≡ 64) × (l.sum ≡ sum_to (λ i. get_or l.counts i 0) l.k) × ((q : ℕ) → q < l.k → get_or l.starts q 0 ≡ sum_to (λ i. get_or l.counts i 0) q)
