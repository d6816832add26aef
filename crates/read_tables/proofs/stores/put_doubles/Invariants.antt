use Prim.Native.Nat.{◌+◌, ◌≤◌}
use lib.ListN.{take}
use Rattle.read_tables.specs.inner.Laying.{Stored}
use Rattle.read_tables.proofs.stores.put_doubles.Given as goal

abbrev pub invariant-loop-i : goal.invariant-loop-i
invariant-loop-i l = (l.i ≤ l.n) × Stored l.initial.out l.at (take l.i l.table) l.out (l.at + l.i)
