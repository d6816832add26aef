-- The buckets after the last with new entries, moved up as one block. Assumes nothing.
use Prim.Native.Nat.{ℕ, zero, suc, ◌+◌, ◌-◌, ◌<◌, ◌≤◌}
use native.Mathlib.Omega.{arith}
use mathlib.Core.Path.{◌≡◌, sym, ap, ◌∙◌, subst}
use mathlib.Core.Logic.{◌⊎◌, inl, inr}
use mathlib.Core.List.{List}
use lib.ListN.{length, get_or}
use Rattle.numbers.proofs.Truth.{below_or_not}
use Rattle.index.specs.Buckets.{buckets}
use Rattle.moves.specs.inner.Moves.{Moved, Shifted}
use Rattle.gaps.specs.inner.OpenGaps.{before, Opened}
use Rattle.gaps.proofs.Before.{before-next}

-- ---- no new entries from `end` on
before_on : (g : List ℕ) (end d : ℕ) → end + d ≤ buckets → ((b : ℕ) → end ≤ b → b < buckets → get_or g b 0 ≡ 0) → before g (end + d) ≡ before g end
before_on g end zero h z = let e : end + 0 ≡ end = omega arith in rw e
before_on g end (suc d) h z =
    let e : end + suc d ≡ end + d + 1 = omega arith in
    let i = before_on g end d (omega arith) z in
    let s = before-next g (end + d) in
    let y = z (end + d) (omega arith) (omega arith) in
    rw e (omega arith)

pub before-flat : (g : List ℕ) (end c : ℕ) → end ≤ c → c ≤ buckets → ((b : ℕ) → end ≤ b → b < buckets → get_or g b 0 ≡ 0) → before g c ≡ before g end
before-flat g end c h l z = let e : end + (c - end) ≡ c = omega arith in subst (λ (k : ℕ). before g k ≡ before g end) e (before_on g end (c - end) (omega arith) z)

-- ---- the tail, and then the buckets before it
module _ (end more : ℕ) (st g e₀ e₁ s₁ : List ℕ) (R : (b c : ℕ) → b ≤ c → c < buckets + 1 → get_or st b 0 ≤ get_or st c 0) (T : length st ≡ buckets + 1) (h : end ≤ buckets) (n : more ≡ before g buckets)
    (z : (b : ℕ) → end ≤ b → b < buckets → get_or g b 0 ≡ 0) (M : Moved (get_or st end 0) (get_or st buckets 0) more e₀ e₁) (S : Shifted (end + 1) more st (length st) s₁) where
  flat : (c : ℕ) → end ≤ c → c ≤ buckets → before g c ≡ more
  flat c a b = before-flat g end c a b z ∙ (sym (before-flat g end buckets h (native.Mathlib.Nat.le_refl buckets) z) ∙ sym n)

  same : (c : ℕ) → c ≤ end → get_or s₁ c 0 ≡ get_or st c 0
  same c a = S.early c (omega arith)

  pub tail_rise : (b c : ℕ) → b ≤ c → c < end + 1 → get_or s₁ b 0 ≤ get_or s₁ c 0
  tail_rise b c a l = let x = same b (omega arith) in let y = same c (omega arith) in let w = R b c a (omega arith) in omega arith

  pub tail_more : more ≡ before g end
  tail_more = sym (flat end (native.Mathlib.Nat.le_refl end) h)

  pub tail_fits : get_or st buckets 0 + more ≤ length e₀ → get_or s₁ end 0 + more ≤ length e₁
  tail_fits f = let x = same end (native.Mathlib.Nat.le_refl end) in let w = R end buckets h (omega arith) in let q = M.size in omega arith

  pub opened_tail : (e s : List ℕ) → Opened end s₁ g e₁ 0 e s → Opened buckets st g e₀ 0 e s
  opened_tail e s O = record { size = O.size ∙ M.size; table = O.table ∙ S.size; old = λ c a. O.old c a ∙ same c (omega arith); new = λ c a l. new c l (below_or_not c end); above = λ c a. O.above c (omega arith) ∙ out c a; moved = λ c a l. moved c l (below_or_not c end); kept = kept; rest = rest }
    where
      out : (c : ℕ) → buckets < c → get_or s₁ c 0 ≡ get_or st c 0
      out c a = S.todo c (omega arith)

      new : (c : ℕ) → c < buckets → (c < end) ⊎ (end ≤ c) → get_or s (c + 1) 0 ≡ get_or st (c + 1) 0 + before g c
      new c l (inl a) = O.new c (omega arith) a ∙ ap (λ (k : ℕ). k + before g c) (same (c + 1) (omega arith))
      new c l (inr a) = O.above (c + 1) (omega arith) ∙ (S.done (c + 1) (omega arith) (omega arith) ∙ ap (λ (k : ℕ). get_or st (c + 1) 0 + k) (sym (flat c a (omega arith))))

      moved : (c : ℕ) → c < buckets → (c < end) ⊎ (end ≤ c) → (j : ℕ) → get_or st c 0 ≤ j → j < get_or st (c + 1) 0 → get_or e (j + before g c) 0 ≡ get_or e₀ j 0
      moved c l (inl a) j x y =
          let u = same c (omega arith) in
          let v = same (c + 1) (omega arith) in
          let w = R (c + 1) end (omega arith) (omega arith) in
          O.moved c (omega arith) a j (omega arith) (omega arith) ∙ M.front j (omega arith)
      moved c l (inr a) j x y =
          let u = R end c a (omega arith) in
          let v = R (c + 1) buckets (omega arith) (omega arith) in
          let f = flat c a (omega arith) in
          let k = same end (native.Mathlib.Nat.le_refl end) in
          let m = tail_more in
          ap (λ (i : ℕ). get_or e (j + i) 0) f ∙ (O.rest (j + more) (omega arith) ∙ M.up j (omega arith) (omega arith))

      kept : (j : ℕ) → j < get_or st 0 0 → get_or e j 0 ≡ get_or e₀ j 0
      kept j a =
          let u = same 0 (omega arith) in
          let v = R 0 end (omega arith) (omega arith) in
          O.kept j (omega arith) ∙ M.front j (omega arith)

      rest : (j : ℕ) → get_or st buckets 0 + before g buckets ≤ j → get_or e j 0 ≡ get_or e₀ j 0
      rest j a =
          let k = same end (native.Mathlib.Nat.le_refl end) in
          let w = R end buckets h (omega arith) in
          let m = tail_more in
          O.rest j (omega arith) ∙ M.back j (omega arith)
