use mathlib.Core.Path.{◌≡◌}
use Prim.Native.Nat.{ℕ, ◌≤◌, ◌<◌}
use lib.ListN.{length, get_or}
use Rattle.enter.proofs.span_marks.clear.Given as goal

abbrev pub invariant-loop-b : goal.invariant-loop-b
invariant-loop-b l = (length l.marks ≡ length l.initial.marks) × ((d : ℕ) → l.first ≤ d → d < l.b → get_or l.marks d 0 ≡ l.count)
