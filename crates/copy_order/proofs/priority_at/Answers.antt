-- `copy_order::priority_at` meets its contract. Assumes nothing.
use Rattle.copy_order.proofs.Priorities.{in_bits}
use Rattle.copy_order.proofs.priority_at.Goals as goal

pub returns : goal.returns
returns c = in_bits _ _ c.min.ensures
