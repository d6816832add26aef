use mathlib.Core.Path.{◌≡◌}
use Prim.Native.Nat.{◌+◌, ◌-◌, ◌≤◌}
use lib.ListN.{length}
use Rattle.index.specs.Buckets.{buckets}
use Rattle.enter.specs.span_marks.inner.NewEntries.{Within, Kept}
use Rattle.enter.specs.inner.EntryRoom.{start_of}
use Rattle.enter.proofs.measure.Given as goal

abbrev pub invariant-loop-i : goal.invariant-loop-i
invariant-loop-i l = (l.from ≤ l.i) × (l.i ≤ l.to) × (length l.firsts ≡ 64) × (length l.lasts ≡ 64) × (start_of l.ix l.standing l.i buckets ≡ start_of l.ix l.standing l.from buckets + l.more) × (l.more ≤ l.left) × (l.end ≤ buckets) × Within l.ix l.standing l.from l.i l.first l.end × Kept l.ix l.standing l.from (l.i - l.from) l.firsts l.lasts
