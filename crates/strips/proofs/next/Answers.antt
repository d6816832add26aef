-- `strips::next` meets its contract. Assumes nothing.
use Prim.Native.Nat.{◌+◌, ◌-◌}
use mathlib.Core.Path.{sym}
use native.Mathlib.Omega.{arith}
use Rattle.strips.proofs.EdgeTable.{after_more, after_last}
use Rattle.strips.proofs.next.Goals as goal

pub returns-then-i-end : goal.returns-then-i-end
returns-then-i-end c = sym (after_more c.args.first c.args.i (c.args.end - (c.args.i + 1)) (omega arith))

pub returns-else-i-end : goal.returns-else-i-end
returns-else-i-end c = sym (after_last c.args.first c.args.i (c.args.end - (c.args.i + 1)) (omega arith))
