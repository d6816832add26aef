use mathlib.Core.Path.{◌≡◌}
use Prim.Native.Nat.{◌*◌, ◌≤◌}
use mathlib.Core.List.{List}
use lib.ListN.{length}
use lib.Ieee.{Float}
use Rattle.kinds.specs.inner.Tables.{tabulate, kind_at}
use Rattle.job_bits.specs.JobTables.{kind_counts, kind_points}
use Rattle.read_tables.specs.inner.Laying.{Near, PutKinds}
use Rattle.read_tables.proofs.sets.put_kinds.Given as goal

abbrev pub invariant-loop-i : goal.invariant-loop-i
invariant-loop-i l = (l.i ≤ l.n) ×
    ((areas : List Float) → PutKinds l.initial.v l.initial.counts l.initial.coordinates kind_counts kind_points (tabulate (kind_at l.bytes l.rows areas l.places) l.i) l.v l.counts l.coordinates) × Near l.initial.v
    l.v (2080 * l.i) (32768 * l.i) × (length l.room ≡ length l.initial.room) × (length l.ends ≡ length l.initial.ends)
