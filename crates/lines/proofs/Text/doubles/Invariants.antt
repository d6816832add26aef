use Prim.Native.Nat.{◌+◌, ◌*◌, ◌≤◌}
use mathlib.Core.List.{map}
use lib.ListN.{take}
use Rattle.nesting.specs.Text.{hex}
use Rattle.lines.specs.inner.Writing.{Put, fields}
use Rattle.lines.proofs.Text.doubles.Given as goal

abbrev pub invariant-loop-x : goal.invariant-loop-x
invariant-loop-x l = record {
  put : Put l.initial.self (fields (map hex (take l.x-index l.doubles))) l.self;
  most : l.self.end ≤ l.initial.self.end + 17 * l.x-index;
}
