use Prim.Native.Nat.{◌+◌, ◌-◌}
use Rattle.put_lines.proofs.Numerals.{Going}
use Rattle.put_lines.proofs.digits_from.Given as goal

abbrev pub invariant-loop-end : goal.invariant-loop-end
invariant-loop-end l = Going l.bytes l.base l.most l.p l.value l.end (l.p + l.most - l.end)
