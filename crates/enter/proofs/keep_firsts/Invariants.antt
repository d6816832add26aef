use mathlib.Core.Path.{◌≡◌}
use Prim.Native.Nat.{◌≤◌}
use lib.ListN.{length}
use Rattle.enter.specs.inner.EntryRoom.{FirstsWritten}
use Rattle.enter.proofs.keep_firsts.Given as goal

abbrev pub invariant-loop-i : goal.invariant-loop-i
invariant-loop-i l = (l.from ≤ l.i) × (l.i ≤ l.to) × (length l.firsts ≡ length l.initial.firsts) × FirstsWritten l.ix l.standing l.from l.i l.initial.firsts l.firsts
