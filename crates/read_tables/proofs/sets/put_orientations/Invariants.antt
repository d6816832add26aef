use mathlib.Core.Path.{◌≡◌}
use Prim.Native.Nat.{◌*◌, ◌≤◌}
use lib.ListN.{length}
use Rattle.kinds.specs.inner.Tables.{orientations_of}
use Rattle.job_bits.specs.JobTables.{orientation_counts, orientation_points}
use Rattle.read_tables.specs.inner.Laying.{Near, PutKinds}
use Rattle.read_tables.proofs.sets.put_orientations.Given as goal

abbrev pub invariant-loop-i : goal.invariant-loop-i
invariant-loop-i l = (l.i ≤ l.n) × PutKinds l.initial.v l.initial.counts l.initial.coordinates
    orientation_counts orientation_points (orientations_of l.bytes l.places l.kind l.i) l.v l.counts l.coordinates × Near l.initial.v l.v (130 * l.i) (2048 * l.i) ×
    (length l.room ≡ length l.initial.room) × (length l.ends ≡ length l.initial.ends)
