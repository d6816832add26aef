-- Lists that are equal by a test of their elements. Assumes nothing.
use Prim.Native.Nat.{ℕ, suc, ◌<◌, ◌≤◌}
use native.Mathlib.Omega.{arith}
use mathlib.Core.Path.{◌≡◌, refl, ap}
use mathlib.Core.Bool.{Bool, true}
use mathlib.Core.List.{List, [], ◌∷◌}
use lib.ListN.{length, get_or, take, length-take}
use lib.Dec.{eqb}
use Rattle.numbers.proofs.Truth.{both_second, clash}
use Rattle.filling.specs.Consistent.{same, numbers_lie}

module _ {A : Type 0} (test : A → A → Bool) where
  -- they are equally long
  pub same-long : (xs ys : List A) → same test xs ys ≡ true → length xs ≡ length ys
  unfolding same
  same-long [] [] e = refl
  same-long [] (y ∷ ys) e = absurd (clash e refl)
  same-long (x ∷ xs) [] e = absurd (clash e refl)
  same-long (x ∷ xs) (y ∷ ys) e = ap suc (same-long xs ys (both_second (test x y) _ e))

  -- a list whose elements are equal to themselves
  pub same_self : (l : List A) (d : A) → ((i : ℕ) → i < length l → test (get_or l i d) (get_or l i d) ≡ true) → same test l l ≡ true
  unfolding same
  same_self [] d h = refl
  same_self (a ∷ l) d h = rw (h 0 (omega arith), same_self l d (λ i b. h (suc i) (omega arith)))

-- numbers that lie in a room are no more than it holds
pub lies-long : (ns room : List ℕ) → numbers_lie ns room ≡ true → length ns ≤ length room
unfolding numbers_lie
lies-long ns room e = let a = same-long eqb ns (take (length ns) room) e in let b = length-take (length ns) room in omega arith
