use Prim.Native.Nat.{◌+◌, ◌≤◌}
use mathlib.Core.Path.{◌≡◌}
use lib.IntN.{pos, ◌-ℤ◌}
use Rattle.slabs.specs.Slab.{walk}
use Rattle.slabs.specs.inner.Tables.{hold, down, crossing_at}
use Rattle.slabs.proofs.wind.Given as goal

abbrev pub invariant-loop-k : goal.invariant-loop-k
invariant-loop-k l = (l.k ≤ l.w) × (l.w + l.k ≤ l.m + l.m) × (hold (record { room = l.room; count = l.count })
    (walk l.sheet l.top l.xa l.xb (pos l.w -ℤ pos l.m) l.la l.lb (down (crossing_at l.rows) l.k)) ≡ hold (record { room = l.initial.room; count = l.n })
    (walk l.sheet l.top l.xa l.xb (pos 0) l.bottom l.bottom (down (crossing_at l.rows) l.m)))
