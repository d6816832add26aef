use mathlib.Core.Path.{◌≡◌}
use mathlib.Core.List.{List}
use Prim.Native.Nat.{ℕ, ◌≤◌}
use lib.ListN.{get_or}
use Rattle.gaps.specs.inner.OpenGaps.{before, Opened, Marked}
use Rattle.gaps.proofs.open_gaps.Given as goal

abbrev pub invariant-loop-left : goal.invariant-loop-left
invariant-loop-left l = (l.b ≤ l.end) ×
    ((g : List ℕ) → Marked l.count l.end g l.marks → l.more ≡ before g l.end → (l.left ≡ before g l.b) × (l.new ≡ get_or g l.b 0) × Opened l.end l.initial.starts g l.initial.entries l.b l.entries l.starts)

abbrev pub decreases-loop-left : goal.decreases-loop-left
decreases-loop-left l = l.b
