-- A layout that holds what the empty one holds behind its copies is the state's own. Assumes nothing.
use Prim.Native.Nat.{ℕ, ◌≤◌}
use mathlib.Core.Path.{◌≡◌, sym, ap, ◌∙◌}
use mathlib.Core.List.{List, ◌++◌}
use lib.ListN.{length, take, drop, take-append-drop}
use lib.Seq.{length-take-le}
use Rattle.filling.specs.Rooms.{laid}

pub laid-whole : {A : Type 0} (l zs : List A) (n : ℕ) → n ≤ length l → drop n l ≡ drop n zs → laid (take n l) zs ≡ l
unfolding laid
laid-whole {A} l zs n h e = ap (λ (m : ℕ). take n l ++ drop m zs) (length-take-le n l h) ∙ (ap (λ (q : List A). take n l ++ q) (sym e) ∙ take-append-drop n l)
