-- How often a kind stands in a list of kinds. Assumes nothing.
use Prim.Native.Nat.{ℕ, suc, ◌+◌}
use native.Mathlib.Omega.{arith}
use mathlib.Core.Path.{◌≡◌, refl}
use mathlib.Core.Logic.{inl, inr}
use mathlib.Core.Bool.{true, false}
use mathlib.Core.List.{List, [], ◌∷◌, ◌++◌}
use lib.Dec.{eqb}
use Rattle.numbers.proofs.Truth.{either}
use Rattle.filling.specs.Order.{count_in}

pub count_none : (k : ℕ) → count_in k [] ≡ 0
unfolding count_in
count_none k = refl

pub count_same : (k l : ℕ) (ls : List ℕ) → eqb k l ≡ true → count_in k (l ∷ ls) ≡ suc (count_in k ls)
unfolding count_in
count_same k l ls e = rw (e, count_in)

pub count-other : (k l : ℕ) (ls : List ℕ) → eqb k l ≡ false → count_in k (l ∷ ls) ≡ count_in k ls
unfolding count_in
count-other k l ls e = rw (e, count_in)

pub count-append : (k : ℕ) (xs ys : List ℕ) → count_in k (xs ++ ys) ≡ count_in k xs + count_in k ys
count-append k [] ys = rw (count_none k) (omega arith)
count-append k (x ∷ xs) ys = elim (either (eqb k x)) [
  | inl e ↦ rw (count_same k x (xs ++ ys) e, count_same k x xs e) (let a = count-append k xs ys in omega arith)
  | inr e ↦ rw (count-other k x (xs ++ ys) e, count-other k x xs e) (count-append k xs ys)
]
