use Rattle.std.proofs.Common.{◌≡◌, ◌≤◌, length}
use Rattle.accounts.specs.inner.Counting.{stands_in}
use Rattle.accounts.specs.inner.Laying.{state_of}
use Rattle.accounts.proofs.Counts.{Counted}
use Rattle.accounts.proofs.ByKind.{Filled}
use Rattle.accounts.proofs.lay.Given as goal

abbrev pub invariant-loop-i : goal.invariant-loop-i
invariant-loop-i l = (l.i ≤ l.n) × Counted (stands_in l.orientation) l.order l.copies l.i × Filled (state_of l.order l.orientation l.x l.y l.gap) l.n l.initial.room l.room l.i × (length l.copies ≡ length l.initial.copies)
