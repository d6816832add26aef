use Prim.Native.Nat.{◌+◌, ◌-◌, ◌≤◌}
use lib.Ieee.{lt}
use mathlib.Core.Path.{◌≡◌}
use Rattle.slabs.specs.inner.Tables.{down, merge}
use Rattle.slabs.proofs.Merging.{above}
use Rattle.slabs.proofs.xs.Lines.{at}
use Rattle.slabs.proofs.xs.merge_run.Given as goal

abbrev pub invariant-loop-j : goal.invariant-loop-j
invariant-loop-j l = (l.i ≤ l.m) × (l.j ≤ l.c) × (above (at l.line) (l.i + l.j) (l.m + l.c - (l.i + l.j)) (merge lt (down (at l.run) l.j) (down (at l.line) l.i)) ≡ merge lt (down (at l.run) l.c) (down (at l.initial.line) l.m))

abbrev pub decreases-loop-j : goal.decreases-loop-j
decreases-loop-j l = l.i + l.j
