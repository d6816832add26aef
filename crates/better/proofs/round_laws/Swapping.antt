-- Laws of a swap. Assumes nothing.
use Prim.Native.Nat.{ℕ, ◌+◌, ◌≤◌, ◌<◌, ◌^◌}
use native.Mathlib.Omega.{arith}
use mathlib.Core.Path.{◌≡◌, refl, ap, sym, ◌∙◌}
use mathlib.Core.Logic.{◌⊎◌, inl, inr}
use mathlib.Core.Bool.{Bool, true, false}
use mathlib.Core.List.{List}
use lib.ListN.{length, get_or, set, length-set}
use lib.Seq.{get_or-set_same, get_or-set_other, ext_get_or}
use lib.Dec.{eqb}
use borrow.Author.Tests.{eqb-true, eqb-false}
use Rattle.std.specs.List.{swap}
use Rattle.std.proofs.lemmas.List.Edits.{swap_is}
use Rattle.job.specs.Jobs.{Job}
use Rattle.filling.specs.Order.{rearranged}
use Rattle.nesting.specs.Rounds.{swapped}
use Rattle.copy_order.proofs.Rearranged.{length-swapped, swapped-rearranged}

pub fits : {m m' n n' : ℕ} → m' ≡ m → n' ≡ n → m ≤ n → m' ≤ n'
fits e f h = omega arith

pub few-enough : {b m n : ℕ} → b ≡ 0 → m ≤ n → n < 2 ^ 64 → b + m < 2 ^ 64
few-enough e h g = omega arith

-- what std's swap leaves
pub swapped_is : (order now : List ℕ) (a b : ℕ) → a < length order → b < length order → now ≡ swap order a b → now ≡ swapped a b order
unfolding swapped
swapped_is order now a b h g e = e ∙ sym (swap_is order a b 0 h g)

module _ (a b : ℕ) where
  at_second : (l : List ℕ) → b < length l → get_or (swapped a b l) b 0 ≡ get_or l a 0
  unfolding swapped
  at_second l h = get_or-set_same (set l a (get_or l b 0)) b (get_or l a 0) 0 (let e : length (set l a (get_or l b 0)) ≡ length l = length-set l a (get_or l b 0) in omega
      arith)

  at_first : (l : List ℕ) → a < length l → b < length l → get_or (swapped a b l) a 0 ≡ get_or l b 0
  unfolding swapped
  at_first l h g = go (eqb a b) refl
    where
      go : (t : Bool) → eqb a b ≡ t → get_or (set (set l a (get_or l b 0)) b (get_or l a 0)) a 0 ≡ get_or l b 0
      go true e =
          let s : a ≡ b = eqb-true a b e in
          ap (λ (q : ℕ). get_or (set (set l a (get_or l b 0)) b (get_or l a 0)) q 0) s
          ∙ (get_or-set_same (set l a (get_or l b 0)) b (get_or l a 0) 0 (let z : length (set l a (get_or l b 0)) ≡ length l = length-set l a (get_or l b 0) in omega
          arith)
          ∙ ap (λ (q : ℕ). get_or l q 0) s)
      go false e = get_or-set_other (set l a (get_or l b 0)) b a (get_or l a 0) 0 (eqb-false a b e) ∙ get_or-set_same l a (get_or l b 0) 0 h

  elsewhere : (l : List ℕ) (q : ℕ) → (q ≡ a → ⊥) → (q ≡ b → ⊥) → get_or (swapped a b l) q 0 ≡ get_or l q 0
  unfolding swapped
  elsewhere l q h g = get_or-set_other (set l a (get_or l b 0)) b q (get_or l a 0) 0 g ∙ get_or-set_other l a q (get_or l b 0) 0 h

  -- swapped back
  pub swapped_twice : (l : List ℕ) → a < length l → b < length l → swapped a b (swapped a b l) ≡ l
  swapped_twice l h g = ext_get_or 0 (swapped a b (swapped a b l)) l (length-swapped a b (swapped a b l) ∙ length-swapped a b l)
      (λ q w. go q (eqb q a) refl (eqb q b) refl)
    where
      s : length (swapped a b l) ≡ length l
      s = length-swapped a b l

      go : (q : ℕ) (t : Bool) → eqb q a ≡ t → (u : Bool) → eqb q b ≡ u → get_or (swapped a b (swapped a b l)) q 0 ≡ get_or l q 0
      go q true e u f =
          let z : q ≡ a = eqb-true q a e in
          ap (λ (i : ℕ). get_or (swapped a b (swapped a b l)) i 0) z
          ∙ (at_first (swapped a b l) (omega (arith, s)) (omega (arith, s)) ∙ (at_second l g ∙ ap (λ (i : ℕ). get_or l i 0) (sym z)))
      go q false e true f =
          let z : q ≡ b = eqb-true q b f in
          ap (λ (i : ℕ). get_or (swapped a b (swapped a b l)) i 0) z
          ∙ (at_second (swapped a b l) (omega (arith, s)) ∙ (at_first l h g ∙ ap (λ (i : ℕ). get_or l i 0) (sym z)))
      go q false e false f = elsewhere (swapped a b l) q (eqb-false q a e) (eqb-false q b f) ∙ elsewhere l q (eqb-false q a e) (eqb-false q b f)

  module _ (order now : List ℕ) (e : now ≡ swapped a b order) (h : a < length order) (g : b < length order) where
    pub length_now : length now ≡ length order
    length_now = ap length e ∙ length-swapped a b order

    -- the order with two copies swapped is a rearrangement too
    pub now_arranged : (j : Job) → rearranged j order ≡ true → rearranged j now ≡ true
    now_arranged j r = ap (rearranged j) e ∙ (swapped-rearranged j a b order h g ∙ r)

    -- so is what is left of it: it stays, or is swapped back
    pub left_arranged : (left : List ℕ) → (left ≡ now) ⊎ (left ≡ swapped a b now) → (j : Job) → rearranged j order ≡ true → rearranged j left ≡ true
    left_arranged left (inl s) j r = ap (rearranged j) s ∙ now_arranged j r
    left_arranged left (inr s) j r = ap (rearranged j) (s ∙ (ap (swapped a b) e ∙ swapped_twice order h g)) ∙ r

    pub back : swapped a b now ≡ order
    back = ap (swapped a b) e ∙ swapped_twice order h g
