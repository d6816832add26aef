use Prim.Native.Nat.{◌≤◌}
use Rattle.copy_order.proofs.Laying.{Laid}
use Rattle.copy_order.proofs.put_kinds.Given as goal

abbrev pub invariant-loop-i : goal.invariant-loop-i
invariant-loop-i l = (l.i ≤ l.kinds) × Laid l.rows l.line l.kinds l.initial.order l.i l.at l.order
