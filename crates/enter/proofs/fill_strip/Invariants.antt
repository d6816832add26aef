use mathlib.Core.Path.{◌≡◌}
use Prim.Native.Nat.{ℕ, ◌+◌, ◌-◌, ◌≤◌}
use lib.ListN.{length, get_or}
use Rattle.enter.specs.inner.Gaps.{filled, rooms}
use Rattle.enter.proofs.fill_strip.Given as goal

abbrev pub invariant-loop-b : goal.invariant-loop-b
invariant-loop-b l = (l.lo ≤ l.b) × (length l.starts ≡ length l.initial.starts) × (length l.entries ≡ length l.initial.entries) × ((c : ℕ) → l.b ≤ c → get_or l.starts (c + 1) 0 ≡ get_or l.initial.starts (c + 1) 0) × (filled l.number (l.hi + 1 - l.b) l.b (rooms l.entries l.starts) ≡ filled l.number (l.hi + 1 - l.lo) l.lo (rooms l.initial.entries l.initial.starts))
