use Prim.Native.Nat.{◌≤◌}
use Rattle.index.proofs.entries.Counting.{Counting}
use Rattle.index.proofs.entries.count_all.Given as goal

abbrev pub invariant-loop-i : goal.invariant-loop-i
invariant-loop-i l = (l.i ≤ l.n) × Counting l.ix l.standing l.n l.i l.counts
