use mathlib.Core.List.{List}
use Prim.Native.Nat.{ℕ, ◌≤◌}
use lib.ListN.{length}
use Rattle.index.specs.Buckets.{buckets}
use Rattle.index.specs.entries.inner.Cursors.{sum_of, Counts}
use Rattle.index.proofs.entries.Comparing.{Comparing}
use Rattle.index.proofs.entries.compare_all.Given as goal

abbrev pub invariant-loop-i : goal.invariant-loop-i
invariant-loop-i l = ((counts : List ℕ) × (K : Counts l.ix l.standing l.n counts) × (sum_of counts buckets ≤ length l.entries) ×
    Comparing l.ix l.standing l.n counts K l.entries l.i l.starts) × (l.i ≤ l.n)
