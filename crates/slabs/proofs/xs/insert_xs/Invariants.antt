use Prim.Native.Nat.{◌+◌, ◌≤◌, ◌-◌}
use lib.Ieee.{Float, lt}
use mathlib.Core.Path.{◌≡◌}
use mathlib.Core.List.{List, ◌++◌}
use Rattle.slabs.specs.Slab.{up, sort}
use Rattle.slabs.specs.inner.Tables.{down}
use Rattle.slabs.proofs.xs.Lines.{at}
use Rattle.slabs.specs.xs.inner.Xs.{x_at}
use Rattle.slabs.proofs.xs.insert_xs.Given as goal

abbrev pub invariant-loop-i : goal.invariant-loop-i
invariant-loop-i w = (w.first ≤ w.i) × (w.k ≡ w.m + (w.n - w.i)) × ((l : List Float) → down (at w.initial.line) w.m ≡ sort lt l → down (at w.line) w.k ≡ sort lt (up (x_at w.points) w.i (w.n - w.i) ++ l))
