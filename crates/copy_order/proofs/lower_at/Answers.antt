-- `copy_order::lower_at` meets its contract. Assumes nothing.
use Prim.Native.Nat.{◌+◌, ◌*◌}
use mathlib.Core.Path.{ap, ◌∙◌}
use lib.ListN.{get_or}
use lib.IntN.{ℤ}
use Rattle.kinds.specs.Kinds.{lower, signed}
use Rattle.copy_order.proofs.lower_at.Goals as goal

pub returns : goal.returns
returns c = c.lower_priority.ensures ∙ (ap (λ (x : ℤ). lower x (signed c.priority_at-2.result)) c.priority_at.ensures.1 ∙ ap (lower (signed (get_or c.args.rows.now (4 * c.args.a + 2) 0))) c.priority_at-2.ensures.1)
