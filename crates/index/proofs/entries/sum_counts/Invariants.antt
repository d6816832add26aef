use mathlib.Core.Path.{◌≡◌}
use Prim.Native.Nat.{◌≤◌}
use Rattle.index.specs.Buckets.{buckets}
use Rattle.index.specs.entries.inner.Cursors.{sum_of}
use Rattle.index.proofs.entries.Raising.{Summed}
use Rattle.index.proofs.entries.sum_counts.Given as goal

abbrev pub invariant-loop-b : goal.invariant-loop-b
invariant-loop-b l = (l.b ≤ buckets) × (l.sum ≡ sum_of l.initial.counts l.b) × (l.sum ≤ l.room) × Summed l.initial.counts l.b l.counts
