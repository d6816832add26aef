use Prim.Native.Nat.{◌+◌, ◌≤◌, ◌-◌}
use lib.Ieee.{lt}
use mathlib.Core.Path.{◌≡◌}
use mathlib.Core.List.{◌++◌}
use Rattle.slabs.specs.Slab.{up, sort}
use Rattle.slabs.specs.inner.Tables.{down}
use Rattle.slabs.proofs.xs.Lines.{at}
use Rattle.slabs.specs.xs.inner.Xs.{x_at, sides}
use Rattle.slabs.proofs.xs.sort_xs.Given as goal

abbrev pub invariant-loop-i : goal.invariant-loop-i
invariant-loop-i l = (l.i ≤ l.initial.i) × (l.i ≤ l.n) × (l.n ≤ l.m + l.i) × (l.m + l.i ≤ l.n + 2) ×
    (down (at l.line) l.m ≡ sort lt (up (x_at l.points) l.i (l.n - l.i) ++ sides l.sheet l.left l.right))

abbrev pub decreases-loop-i : goal.decreases-loop-i
decreases-loop-i l = l.i
