use mathlib.Core.Path.{◌≡◌}
use Prim.Native.Nat.{ℕ, ◌≤◌}
use lib.ListN.{length, get_or}
use Rattle.index.specs.Buckets.{buckets}
use Rattle.index.specs.inner.Listing.{entered_from}
use Rattle.enter.specs.inner.Gaps.{Blocks}
use Rattle.enter.specs.inner.EntryRoom.{start_of}
use Rattle.enter.proofs.fill.Given as goal

abbrev pub invariant-loop-i : goal.invariant-loop-i
invariant-loop-i l = (l.from ≤ l.i) × (l.i ≤ l.to) × (length l.entries ≡ length l.initial.entries) × (length l.starts ≡ length l.initial.starts) × Blocks (start_of l.ix l.standing l.to) (entered_from l.ix l.standing l.i) l.entries l.starts × ((j : ℕ) → start_of l.ix l.standing l.to buckets ≤ j → get_or l.entries j 0 ≡ get_or l.initial.entries j 0)
