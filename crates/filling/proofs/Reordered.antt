-- An order whose copy at place n has joined its end has every kind as often as before. Assumes nothing.
use mathlib.Core.Path.{◌≡◌, refl, sym, ap, ap₂, ◌∙◌}
use mathlib.Core.Bool.{Bool, true, ◌&&◌}
use mathlib.Core.List.{List, [], ◌∷◌, ◌++◌}
use Prim.Native.Nat.{ℕ, suc, ◌+◌, ◌≤◌, ◌<◌}
use native.Mathlib.Omega.{arith}
use lib.ListN.{length, get_or, take, drop, length-take, take-append-drop}
use lib.Seq.{length-take-le, drop-cons, take-take, get_or-take}
use lib.Dec.{eqb}
use Rattle.kinds.specs.Kinds.{Kind}
use Rattle.job.specs.Jobs.{Job}
use Rattle.filling.specs.Order.{count_in, in_full, rearranged}
use Rattle.filling.specs.Withdraw.{closed_up}
use Rattle.filling.proofs.CountIn.{count-append}
use Rattle.filling.proofs.ClosedUp.{length_closed, take_closed}

same_full : (xs ys : List ℕ) → ((i : ℕ) → count_in i xs ≡ count_in i ys) → (k : ℕ) (ks : List Kind) → in_full k ks xs ≡ in_full k ks ys
unfolding in_full
same_full xs ys h k [] = refl
same_full xs ys h k (a ∷ ks) = rw (h k, same_full xs ys h (suc k) ks)

module _ (n m : ℕ) (l : List ℕ) (h : n < m) (k : m ≤ length l) where
  abbrev O : List ℕ
  O = take m l

  cut : O ≡ take n l ++ (get_or l n 0 ∷ drop (suc n) O)
  cut =
      let a = length-take-le m l k in
      sym (take-append-drop n O) ∙ ap₂ ◌++◌ (take-take n m l (omega arith)) (drop-cons O n 0 (omega arith) ∙ ap (λ (i : ℕ). i ∷ drop (suc n) O)
      (get_or-take m l n 0 h))

  same-counts : (i : ℕ) → count_in i (take m (closed_up n m (get_or l n 0) l)) ≡ count_in i O
  same-counts i =
      let a = ap (count_in i) (take_closed n m (get_or l n 0) l h k) in
      let b = count-append i (take n l) (drop (suc n) O ++ (get_or l n 0 ∷ [])) in
      let c = count-append i (drop (suc n) O) (get_or l n 0 ∷ []) in
      let d = ap (count_in i) cut in
      let e = count-append i (take n l) (get_or l n 0 ∷ drop (suc n) O) in
      let f : count_in i (get_or l n 0 ∷ drop (suc n) O) ≡ count_in i (get_or l n 0 ∷ []) + count_in i (drop (suc n) O) = count-append i (get_or l n 0 ∷ [])
      (drop (suc n) O) in
      omega arith

  pub reordered : (j : Job) → rearranged j O ≡ true → rearranged j (take m (closed_up n m (get_or l n 0) l)) ≡ true
  unfolding rearranged
  reordered j e =
      let a = length_closed n m (get_or l n 0) l h k in
      let b : length (take m (closed_up n m (get_or l n 0) l)) ≡ length O = (let c = length-take m (closed_up n m (get_or l n 0) l) in let d = length-take m
      l in omega arith) in
      ap₂ (λ (i : ℕ) (t : Bool). eqb i j.copies && t) b (same_full (take m (closed_up n m (get_or l n 0) l)) O same-counts 0 j.kinds) ∙ e
