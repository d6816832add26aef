use Prim.Native.Nat.{ℕ, ◌≤◌, ◌<◌}
use Rattle.slabs.specs.inner.Tables.{Number}
use Rattle.slabs.specs.xs.inner.Xs.{x_at}
use Rattle.slabs.proofs.xs.no_nan.Given as goal

abbrev pub invariant-loop-i : goal.invariant-loop-i
invariant-loop-i l = (l.i ≤ l.n) × ((k : ℕ) → k < l.i → Number (x_at l.points k))
