use mathlib.Core.Path.{◌≡◌}
use Prim.Native.Nat.{◌≤◌}
use lib.ListN.{length}
use Rattle.index.specs.Buckets.{buckets}
use Rattle.enter.proofs.span_marks.Marking.{Marking}
use Rattle.enter.proofs.span_marks.mark_all.Given as goal

abbrev pub invariant-loop-i : goal.invariant-loop-i
invariant-loop-i l = (l.from ≤ l.i) × (l.i ≤ l.to) × (length l.marks ≡ buckets) × Marking l.ix l.standing l.from l.to l.i l.first
    l.end l.marks
