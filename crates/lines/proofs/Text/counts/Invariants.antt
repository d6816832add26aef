use Prim.Native.Nat.{◌+◌, ◌*◌, ◌≤◌}
use mathlib.Core.List.{map}
use lib.ListN.{take}
use Rattle.nesting.specs.Text.{decimal}
use Rattle.lines.specs.inner.Writing.{Put, fields}
use Rattle.lines.proofs.Text.counts.Given as goal

abbrev pub invariant-loop-n : goal.invariant-loop-n
invariant-loop-n l = record {
  put : Put l.initial.self (fields (map decimal (take l.n-index l.counts))) l.self;
  most : l.self.end ≤ l.initial.self.end + 21 * l.n-index;
}
