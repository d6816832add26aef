-- One strip: a number at the end of each of its buckets, and their starts. Assumes nothing.
use Prim.Native.Nat.{ℕ, ◌+◌, ◌-◌, ◌<◌, ◌≤◌}
use native.Mathlib.Omega.{arith}
use native.Mathlib.Nat.{eq-or-lt_of_le}
use mathlib.Core.Path.{◌≡◌, refl, sym, ◌∙◌, subst}
use mathlib.Core.Logic.{◌⊎◌, inl, inr}
use mathlib.Core.List.{List}
use lib.ListN.{length, get_or, set, length-set}
use lib.Seq.{get_or-set_same, get_or-set_other}
use Rattle.numbers.proofs.Truth.{below_or_not}
use Rattle.moves.specs.inner.Moves.{Moved}
use Rattle.gaps.specs.inner.OpenGaps.{Inserted, Stepped}

-- ---- the buckets, from the last to the first
pub inserted_start : (lo width number : ℕ) (st e : List ℕ) → Inserted lo width number st e width e
inserted_start lo width number st e = record { size = refl; moved = λ d a l. absurd (no d a l); put = λ d a l. absurd (no d a l); kept = λ j a. refl; rest = λ j a. refl }
  where
    no : (d : ℕ) → width ≤ d → d < width → ⊥
    no d a l = omega arith

module _ (lo width number : ℕ) (st e₀ : List ℕ) (T : lo + width < length st) (R : (b c : ℕ) → b ≤ c → c < length st → get_or st b 0 ≤ get_or st c 0) (F : get_or st (lo + width) 0 + width ≤ length e₀) where
  pub inserted_step : (d : ℕ) (e e' : List ℕ) → d < width → Inserted lo width number st e₀ (d + 1) e → Moved (get_or st (lo + d) 0) (get_or st (lo + d + 1) 0) d e e' → Inserted lo width number st e₀ d (set e' (get_or st (lo + d + 1) 0 + d) number)
  inserted_step d e e' h I M = record { size = length-set e' (get_or st (lo + d + 1) 0 + d) number ∙ (M.size ∙ I.size); moved = λ c a l. moved c l (eq-or-lt_of_le a); put = λ c a l. put c l (eq-or-lt_of_le a); kept = kept; rest = rest }
    where
      rise : get_or st (lo + d) 0 ≤ get_or st (lo + d + 1) 0
      rise = R (lo + d) (lo + d + 1) (omega arith) (omega arith)

      top : get_or st (lo + d + 1) 0 ≤ get_or st (lo + width) 0
      top = R (lo + d + 1) (lo + width) (omega arith) T

      far : (c : ℕ) → d < c → c < width → (get_or st (lo + d + 1) 0 ≤ get_or st (lo + c) 0) × (get_or st (lo + c) 0 ≤ get_or st (lo + c + 1) 0)
      far c a l = (R (lo + d + 1) (lo + c) (omega arith) (omega arith), R (lo + c) (lo + c + 1) (omega arith) (omega arith))

      below : (j : ℕ) → j < get_or st (lo + d + 1) 0 + d → j ≡ get_or st (lo + d + 1) 0 + d → ⊥
      below j a q = omega arith

      above : (j : ℕ) → get_or st (lo + d + 1) 0 + d < j → j ≡ get_or st (lo + d + 1) 0 + d → ⊥
      above j a q = omega arith

      moved : (c : ℕ) → c < width → (d ≡ c) ⊎ (d < c) → (j : ℕ) → get_or st (lo + c) 0 ≤ j → j < get_or st (lo + c + 1) 0 → get_or (set e' (get_or st (lo + d + 1) 0 + d) number) (j + c) 0 ≡ get_or e₀ j 0
      moved c l (inl q) = subst (λ (k : ℕ). (j : ℕ) → get_or st (lo + k) 0 ≤ j → j < get_or st (lo + k + 1) 0 → get_or (set e' (get_or st (lo + d + 1) 0 + d) number) (j + k) 0 ≡ get_or e₀ j 0) q (λ j x y. get_or-set_other e' (get_or st (lo + d + 1) 0 + d) (j + d) number 0 (below (j + d) (omega arith)) ∙ (M.up j x y ∙ I.kept j (kept_there j y)))
        where
          same : lo + (d + 1) ≡ lo + d + 1
          same = omega arith

          kept_there : (j : ℕ) → j < get_or st (lo + d + 1) 0 → j < get_or st (lo + (d + 1)) 0 + (d + 1)
          kept_there j y = subst (λ (k : ℕ). j < get_or st k 0 + (d + 1)) (sym same) (omega arith)
      moved c l (inr q) = λ j x y. (let f = far c q l in let u = f.0 in get_or-set_other e' (get_or st (lo + d + 1) 0 + d) (j + c) number 0 (above (j + c) (omega arith)) ∙ (M.back (j + c) (omega arith) ∙ I.moved c (omega arith) l j x y))

      put : (c : ℕ) → c < width → (d ≡ c) ⊎ (d < c) → get_or (set e' (get_or st (lo + d + 1) 0 + d) number) (get_or st (lo + c + 1) 0 + c) 0 ≡ number
      put c l (inl q) = subst (λ (k : ℕ). get_or (set e' (get_or st (lo + d + 1) 0 + d) number) (get_or st (lo + k + 1) 0 + k) 0 ≡ number) q (get_or-set_same e' (get_or st (lo + d + 1) 0 + d) number 0 (let z = M.size in let y = I.size in let t = top in omega arith))
      put c l (inr q) = let f = far c q l in let u = f.0 in let v = f.1 in get_or-set_other e' (get_or st (lo + d + 1) 0 + d) (get_or st (lo + c + 1) 0 + c) number 0 (above (get_or st (lo + c + 1) 0 + c) (omega arith)) ∙ (M.back (get_or st (lo + c + 1) 0 + c) (omega arith) ∙ I.put c (omega arith) l)

      kept : (j : ℕ) → j < get_or st (lo + d) 0 + d → get_or (set e' (get_or st (lo + d + 1) 0 + d) number) j 0 ≡ get_or e₀ j 0
      kept j a =
          let r = rise in
          let q : lo + d + 1 ≡ lo + (d + 1) = omega arith in
          get_or-set_other e' (get_or st (lo + d + 1) 0 + d) j number 0 (below j (omega arith)) ∙ (M.front j a ∙ I.kept j (subst (λ (k : ℕ). j < get_or st k 0 + (d + 1)) q (omega arith)))

      rest : (j : ℕ) → get_or st (lo + width) 0 + width ≤ j → get_or (set e' (get_or st (lo + d + 1) 0 + d) number) j 0 ≡ get_or e₀ j 0
      rest j a = let t = top in get_or-set_other e' (get_or st (lo + d + 1) 0 + d) j number 0 (above j (omega arith)) ∙ (M.back j (omega arith) ∙ I.rest j a)

-- ---- the starts
pub stepped_start : (lo : ℕ) (st : List ℕ) → Stepped lo st 0 st
stepped_start lo st = record { size = refl; done = λ c a. (let q : c - lo ≡ 0 = omega arith in let z : get_or st c 0 ≡ get_or st c 0 + (c - lo) = omega arith in z); todo = λ c a. refl }

pub stepped_step : (lo : ℕ) (st : List ℕ) (d : ℕ) (s : List ℕ) → 0 < d → lo + d < length st → Stepped lo st (d - 1) s → Stepped lo st (d + 1 - 1) (set s (lo + d) (get_or s (lo + d) 0 + d))
stepped_step lo st d s h w S =
    record {
      size = length-set s (lo + d) (get_or s (lo + d) 0 + d) ∙ S.size;
      done = λ c a. done c (below_or_not c (lo + d)) (omega arith);
      todo = λ c a. get_or-set_other s (lo + d) c (get_or s (lo + d) 0 + d) 0 (λ q. omega (arith, q)) ∙ S.todo c (omega arith);
    }
  where
    here : get_or s (lo + d) 0 + d ≡ get_or st (lo + d) 0 + (lo + d - lo)
    here = omega (arith, S.todo (lo + d) (omega arith))

    done : (c : ℕ) → (c < lo + d) ⊎ (lo + d ≤ c) → c ≤ lo + d → get_or (set s (lo + d) (get_or s (lo + d) 0 + d)) c 0 ≡ get_or st c 0 + (c - lo)
    done c (inl l) a = get_or-set_other s (lo + d) c (get_or s (lo + d) 0 + d) 0 (λ q. omega (arith, q)) ∙ S.done c (omega arith)
    done c (inr l) a =
        let q : lo + d ≡ c = omega arith in
        subst (λ (k : ℕ). get_or (set s (lo + d) (get_or s (lo + d) 0 + d)) k 0 ≡ get_or st k 0 + (k - lo)) q
        (get_or-set_same s (lo + d) (get_or s (lo + d) 0 + d) 0 (omega (arith, S.size)) ∙ here)
