use Rattle.std.proofs.Common.{◌≡◌, ◌-◌}
use Rattle.accounts.specs.order.inner.Quantities.{in_quantity}
use Rattle.accounts.proofs.order.in_quantity.Given as goal

abbrev pub invariant-loop-k : goal.invariant-loop-k
invariant-loop-k l = in_quantity l.counts l.rows (l.kinds - l.k) l.k ≡ in_quantity l.counts l.rows l.kinds 0
