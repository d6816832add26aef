-- A list of which a part moved down, as `copy_within` of std leaves it. Of every element type. Assumes nothing.
use mathlib.Core.Path.{◌≡◌, sym, ap, ap₂, ◌∙◌}
use mathlib.Core.List.{List, ◌∷◌, ◌++◌, append_assoc}
use Prim.Native.Nat.{ℕ, suc, ◌+◌, ◌-◌, ◌≤◌, ◌<◌}
use native.Mathlib.Omega.{arith}
use lib.ListN.{length, set, take, drop, length-drop}
use lib.Seq.{paste, length-paste, take-paste, drop-paste, set_split, drop-drop}
use Rattle.std.proofs.lemmas.List.{drop-take}
use Rattle.filling.specs.Withdraw.{closed_up}

module _ {A : Type 0} (l : List A) where
  -- the k elements after place n move down by one, and v follows
  closed_on : (v : A) (n k : ℕ) → n + 1 + k ≤ length l
      → set (paste l n (drop (n + 1) l) k) (n + k) v ≡ take n l ++ (drop (n + 1) (take (n + 1 + k) l) ++ (v ∷ drop (n + 1 + k) l))
  closed_on v n k b =
      let h = length-drop (n + 1) l in
      let e = length-paste l n (drop (n + 1) l) k (omega arith) (omega arith) in
      let x : suc (n + k) ≡ n + k + 1 = omega arith in
      let y : n + k + 1 ≡ n + 1 + k = omega arith in
      set_split (paste l n (drop (n + 1) l) k) (n + k) v (omega arith)
      ∙ ap₂ (λ (f g : List A). f ++ (v ∷ g)) (take-paste l n (drop (n + 1) l) k (omega arith) (omega arith))
      (ap (λ (i : ℕ). drop i (paste l n (drop (n + 1) l) k)) x
      ∙ sym (drop-drop 1 (n + k) (paste l n (drop (n + 1) l) k))
      ∙ ap (drop 1) (drop-paste l n (drop (n + 1) l) k (omega arith) (omega arith))
      ∙ drop-drop 1 (n + k) l
      ∙ ap (λ (i : ℕ). drop i l) y)
      ∙ append_assoc (take n l) (take k (drop (n + 1) l)) (v ∷ drop (n + 1 + k) l)
      ∙ ap (λ (f : List A). take n l ++ (f ++ (v ∷ drop (n + 1 + k) l))) (sym (drop-take (n + 1) k l))

  pub closed : (v : A) (n m : ℕ) → n < m → m ≤ length l → set (paste l n (drop (n + 1) l) (m - (n + 1))) (m - 1) v ≡ closed_up n m v l
  unfolding closed_up
  closed v n m a b =
      let x : m - 1 ≡ n + (m - (n + 1)) = omega arith in
      let y : n + 1 ≡ suc n = omega arith in
      let z : n + 1 + (m - (n + 1)) ≡ m = omega arith in
      ap (λ (i : ℕ). set (paste l n (drop (n + 1) l) (m - (n + 1))) i v) x
      ∙ closed_on v n (m - (n + 1)) (omega arith)
      ∙ ap₂ (λ (i j : ℕ). take n l ++ (drop i (take j l) ++ (v ∷ drop j l))) y z

  -- those from `from` + `by` up to `to` move down by `by`
  pub moved : (from by to : ℕ) → from + by ≤ to → to ≤ length l
      → take (to - by) (paste l from (drop (from + by) l) (to - (from + by))) ≡ take from l ++ drop (from + by) (take to l)
  moved from by to a b =
      let h = length-drop (from + by) l in
      let x : to - by ≡ from + (to - (from + by)) = omega arith in
      let y : from + by + (to - (from + by)) ≡ to = omega arith in
      ap (λ (i : ℕ). take i (paste l from (drop (from + by) l) (to - (from + by)))) x
      ∙ take-paste l from (drop (from + by) l) (to - (from + by)) (omega arith) (omega arith)
      ∙ ap (λ (f : List A). take from l ++ f)
      (sym (drop-take (from + by) (to - (from + by)) l) ∙ ap (λ (j : ℕ). drop (from + by) (take j l)) y)
