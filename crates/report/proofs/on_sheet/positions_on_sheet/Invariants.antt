use Prim.Native.Nat.{◌≤◌}
use mathlib.Core.Path.{◌≡◌}
use lib.ListN.{length}
use Rattle.report.specs.on_sheet.inner.Turned.{back_to}
use Rattle.report.proofs.on_sheet.positions_on_sheet.Given as goal

abbrev pub invariant-loop-i : goal.invariant-loop-i
invariant-loop-i l = (l.i ≤ l.n) × (length l.room ≡ length l.initial.room) × (l.room ≡ back_to l.f l.initial.room l.i)
