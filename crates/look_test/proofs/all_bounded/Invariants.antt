use Prim.Native.Nat.{ℕ, ◌<◌}
use lib.ListN.{get_or}
use lib.Ieee.{nan}
use Rattle.index.specs.inner.Listing.{Bounded}
use Rattle.look_test.proofs.all_bounded.Given as goal

abbrev pub invariant-loop-x : goal.invariant-loop-x
invariant-loop-x l = (j : ℕ) → j < l.x-index → Bounded 1000000 (get_or l.xs j nan)
