use mathlib.Core.Path.{◌≡◌}
use Prim.Native.Nat.{◌+◌, ◌≤◌}
use lib.ListN.{take}
use Rattle.job_bits.specs.JobTables.{loop_counts}
use Rattle.read_tables.specs.inner.Laying.{Stored}
use Rattle.read_tables.proofs.Putting.{last_of}
use Rattle.read_tables.proofs.sets.put_loops.Given as goal

abbrev pub invariant-loop-i : goal.invariant-loop-i
invariant-loop-i l = (l.i ≤ l.n) × Stored l.initial.counts l.at (loop_counts 0 (take l.i l.ends)) l.counts (l.at + l.i) ×
    (l.before ≡ last_of 0 (take l.i l.ends))
