use mathlib.Core.Path.{◌≡◌}
use Prim.Native.Nat.{ℕ, ◌*◌, ◌≤◌}
use mathlib.Core.List.{List}
use lib.ListN.{length}
use lib.Ieee.{Float}
use Rattle.kinds.specs.inner.Tables.{tabulate, kind_at}
use Rattle.job_bits.specs.JobTables.{rows_of}
use Rattle.read_tables.specs.inner.Laying.{Stored}
use Rattle.read_tables.proofs.put_rows.Given as goal

abbrev pub invariant-loop-k : goal.invariant-loop-k
invariant-loop-k l = (l.k ≤ l.n) × (length l.out ≡ length l.initial.out) × ((bytes : List ℕ) (areas : List Float) (places : List ℕ) → Stored l.initial.out 0
    (rows_of (tabulate (kind_at bytes l.rows areas places) l.k)) l.out (4 * l.k))
