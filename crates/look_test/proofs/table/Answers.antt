-- `look_test::table` meets its contract. Assumes nothing.
use Prim.Native.Nat.{ℕ}
use mathlib.Core.Path.{sym}
use lib.ListN.{length-replicate}
use Rattle.look_test.proofs.table.Goals as goal

pub returns : goal.returns
returns c = sym (length-replicate {A = ℕ} 130560 1)
