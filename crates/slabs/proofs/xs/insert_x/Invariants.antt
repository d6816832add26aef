use Prim.Native.Nat.{◌-◌}
use lib.Ieee.{lt}
use mathlib.Core.Path.{◌≡◌}
use Rattle.slabs.proofs.Sorting.{over}
use Rattle.slabs.specs.Slab.{insert}
use Rattle.slabs.specs.inner.Tables.{down}
use Rattle.slabs.proofs.xs.Lines.{at}
use Rattle.slabs.proofs.xs.insert_x.Given as goal

abbrev pub invariant-loop-k : goal.invariant-loop-k
invariant-loop-k l = over (at l.line) l.k (l.n - l.k) (insert lt l.x (down (at l.line) l.k)) ≡ insert lt l.x (down (at l.initial.line) l.n)
