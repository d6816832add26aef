-- Parts of a table. Assumes nothing.
use Prim.Native.Nat.{ℕ, ◌-◌}
use native.Mathlib.Nat.{le_of_eq}
use mathlib.Core.Path.{◌≡◌}
use mathlib.Core.List.{List}
use lib.ListN.{length, take, drop, length-drop}
use lib.Seq.{take_all}

-- a table from its n-th number on
pub rest-is : {A : Type 0} (n : ℕ) (table : List A) → take (length table - n) (drop n table) ≡ drop n table
rest-is n table = take_all (length table - n) (drop n table) (le_of_eq (length-drop n table))
