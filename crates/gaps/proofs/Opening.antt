-- Buckets moved up from the back, one after the other. Assumes nothing.
use Prim.Native.Nat.{ℕ, ◌+◌, ◌-◌, ◌<◌, ◌≤◌}
use native.Mathlib.Omega.{arith}
use native.Mathlib.Nat.{eq-or-lt_of_le}
use mathlib.Core.Path.{◌≡◌, refl, sym, ap, ◌∙◌, subst}
use mathlib.Core.Logic.{◌⊎◌, inl, inr}
use mathlib.Core.List.{List}
use lib.ListN.{length, get_or, set, length-set}
use lib.Seq.{get_or-set_same, get_or-set_other}
use Rattle.numbers.proofs.Truth.{below_or_not}
use Rattle.moves.specs.inner.Moves.{Moved}
use Rattle.gaps.specs.inner.OpenGaps.{before, Opened, Marked}
use Rattle.gaps.proofs.Before.{before-rise, before-pos, before_back}

-- ---- opening the gaps
pub opened_start : (top : ℕ) (st g e₀ : List ℕ) → Opened top st g e₀ top e₀ st
opened_start top st g e₀ = record { size = refl; table = refl; old = λ c h. refl; new = λ c h l. absurd (no c h l); above = λ c h. refl; moved = λ c h l. absurd (no c h l); kept = λ j h. refl; rest = λ j h. refl }
  where
    no : (c : ℕ) → top ≤ c → c < top → ⊥
    no c h l = omega arith

module _ (top : ℕ) (st g e₀ : List ℕ) (T : top < length st) (R : (b c : ℕ) → b ≤ c → c < top + 1 → get_or st b 0 ≤ get_or st c 0) where
  pub opened_step : (b : ℕ) (e s e' : List ℕ) → b < top → Opened top st g e₀ (b + 1) e s → Moved (get_or st b 0) (get_or st (b + 1) 0) (before g b) e e' → Opened top st g e₀ b e' (set s (b + 1) (get_or st (b + 1) 0 + before g b))
  opened_step b e s e' h O M = record { size = M.size ∙ O.size; table = length-set s (b + 1) (get_or st (b + 1) 0 + before g b) ∙ O.table; old = old; new = λ c a l. new c l (eq-or-lt_of_le a); above = above; moved = λ c a l. moved c l (eq-or-lt_of_le a); kept = kept; rest = rest }
    where
      rise : get_or st b 0 ≤ get_or st (b + 1) 0
      rise = R b (b + 1) (omega arith) (omega arith)

      apart : (c : ℕ) → c ≤ b → c ≡ b + 1 → ⊥
      apart c a q = omega arith

      later : (c : ℕ) → b < c → c + 1 ≡ b + 1 → ⊥
      later c a q = omega arith

      beyond : (c : ℕ) → top < c → c ≡ b + 1 → ⊥
      beyond c a q = omega arith

      above : (c : ℕ) → top < c → get_or (set s (b + 1) (get_or st (b + 1) 0 + before g b)) c 0 ≡ get_or st c 0
      above c a = get_or-set_other s (b + 1) c (get_or st (b + 1) 0 + before g b) 0 (λ q. beyond c a q) ∙ O.above c a

      old : (c : ℕ) → c ≤ b → get_or (set s (b + 1) (get_or st (b + 1) 0 + before g b)) c 0 ≡ get_or st c 0
      old c a = get_or-set_other s (b + 1) c (get_or st (b + 1) 0 + before g b) 0 (λ q. apart c a q) ∙ O.old c (omega arith)

      new : (c : ℕ) → c < top → (b ≡ c) ⊎ (b < c) → get_or (set s (b + 1) (get_or st (b + 1) 0 + before g b)) (c + 1) 0 ≡ get_or st (c + 1) 0 + before g c
      new c l (inl q) = subst (λ (d : ℕ). get_or (set s (b + 1) (get_or st (b + 1) 0 + before g b)) (d + 1) 0 ≡ get_or st (d + 1) 0 + before g d) q (get_or-set_same s (b + 1) (get_or st (b + 1) 0 + before g b) 0 (let t = O.table in omega arith))
      new c l (inr q) = get_or-set_other s (b + 1) (c + 1) (get_or st (b + 1) 0 + before g b) 0 (λ z. later c q z) ∙ O.new c (omega arith) l

      moved : (c : ℕ) → c < top → (b ≡ c) ⊎ (b < c) → (j : ℕ) → get_or st c 0 ≤ j → j < get_or st (c + 1) 0 → get_or e' (j + before g c) 0 ≡ get_or e₀ j 0
      moved c l (inl q) = subst (λ (d : ℕ). (j : ℕ) → get_or st d 0 ≤ j → j < get_or st (d + 1) 0 → get_or e' (j + before g d) 0 ≡ get_or e₀ j 0) q (λ j a z. M.up j a z ∙ O.kept j z)
      moved c l (inr q) = λ j a z.
          (let t = R (b + 1) c (omega arith) (omega arith) in
          let u = before-rise g b c (omega arith) in
          M.back (j + before g c) (omega arith) ∙ O.moved c (omega arith) l j a z)

      kept : (j : ℕ) → j < get_or st b 0 → get_or e' j 0 ≡ get_or e₀ j 0
      kept j a = M.front j (omega arith) ∙ O.kept j (let t = rise in omega arith)

      rest : (j : ℕ) → get_or st top 0 + before g top ≤ j → get_or e' j 0 ≡ get_or e₀ j 0
      rest j a =
          let t = R (b + 1) top (omega arith) (omega arith) in
          let u = before-rise g b top (omega arith) in
          M.back j (omega arith) ∙ O.rest j a

  -- where no new entries come before a bucket, it and those before it stay
  pub opened_end : (b : ℕ) (e s : List ℕ) → b ≤ top → before g b ≡ 0 → Opened top st g e₀ b e s → Opened top st g e₀ 0 e s
  opened_end b e s h z O = record { size = O.size; table = O.table; old = λ c a. O.old c (omega arith); new = λ c a l. new c l (split c); above = O.above; moved = λ c a l. moved c l (split c); kept = λ j a. O.kept j (let t = R 0 b (omega arith) (omega arith) in omega arith); rest = O.rest }
    where
      split : (c : ℕ) → (c < b) ⊎ (b ≤ c)
      split c = below_or_not c b

      none : (c : ℕ) → c < b → before g c ≡ 0
      none c a = let t = before-rise g c b (omega arith) in omega arith

      new : (c : ℕ) → c < top → (c < b) ⊎ (b ≤ c) → get_or s (c + 1) 0 ≡ get_or st (c + 1) 0 + before g c
      new c l (inl a) = let n = none c a in O.old (c + 1) (omega arith) ∙ (let q : get_or st (c + 1) 0 ≡ get_or st (c + 1) 0 + before g c = omega arith in q)
      new c l (inr a) = O.new c a l

      moved : (c : ℕ) → c < top → (c < b) ⊎ (b ≤ c) → (j : ℕ) → get_or st c 0 ≤ j → j < get_or st (c + 1) 0 → get_or e (j + before g c) 0 ≡ get_or e₀ j 0
      moved c l (inl a) j x y =
          let n = none c a in
          let q : j + before g c ≡ j = omega arith in
          let t = R (c + 1) b (omega arith) (omega arith) in
          ap (λ (i : ℕ). get_or e i 0) q ∙ O.kept j (omega arith)
      moved c l (inr a) j x y = O.moved c a l j x y

-- one turn of the loop: w is how many new entries the bucket has
pub opened_turn : (top : ℕ) (st g e₀ : List ℕ) → top < length st → ((b c : ℕ) → b ≤ c → c < top + 1 → get_or st b 0 ≤ get_or st c 0) → (b left w : ℕ) (e s e' : List ℕ) → 0 < b → b ≤ top → left ≡ before g b → w ≡ get_or g (b - 1) 0 → Opened top st g e₀ b e s
    → Moved (get_or s (b - 1) 0) (get_or s (b - 1 + 1) 0) (left - w) e e' → Opened top st g e₀ (b - 1) e' (set s (b - 1 + 1) (get_or s (b - 1 + 1) 0 + (left - w)))
opened_turn top st g e₀ T R b left w e s e' h l q n O M =
    subst (λ (k : ℕ). Opened top st g e₀ (b - 1) e' (set s (b - 1 + 1) k)) sum
    (opened_step top st g e₀ T R (b - 1) e s e' (omega arith) (subst (λ (k : ℕ). Opened top st g e₀ k e s) (sym back) O)
    (subst (λ (k : ℕ). Moved (get_or st (b - 1) 0) (get_or st (b - 1 + 1) 0) k e e') gone (subst (λ (k : ℕ). Moved (get_or st (b - 1) 0) k (left - w) e e') high (subst (λ (k : ℕ). Moved k (get_or s (b - 1 + 1) 0) (left - w) e e') low M))))
  where
    back : b - 1 + 1 ≡ b
    back = omega arith

    low : get_or s (b - 1) 0 ≡ get_or st (b - 1) 0
    low = O.old (b - 1) (omega arith)

    high : get_or s (b - 1 + 1) 0 ≡ get_or st (b - 1 + 1) 0
    high = O.old (b - 1 + 1) (omega arith)

    gone : left - w ≡ before g (b - 1)
    gone = let z = before_back g b h in omega arith

    sum : get_or st (b - 1 + 1) 0 + before g (b - 1) ≡ get_or s (b - 1 + 1) 0 + (left - w)
    sum = let x = high in let y = gone in omega arith

-- what the marks tell in that turn
pub marks_tell : (count end : ℕ) (g m : List ℕ) (b left new : ℕ) → Marked count end g m → b ≤ end → 0 < left → left ≡ before g b → new ≡ get_or g b 0
    → (0 < b) × (count ≤ new + get_or m (b - 1) 0) × (new + get_or m (b - 1) 0 - count ≡ get_or g (b - 1) 0) × (left ≡ before g (b - 1) + get_or g (b - 1) 0)
marks_tell count end g m b left new K h p q n = (pos, omega (arith, tell), omega (arith, tell), q ∙ before_back g b pos)
  where
    pos : 0 < b
    pos = before-pos g b left q p

    e : b - 1 + 1 ≡ b
    e = let z = pos in omega arith

    tell : get_or m (b - 1) 0 + get_or g b 0 ≡ count + get_or g (b - 1) 0
    tell = subst (λ (k : ℕ). get_or m (b - 1) 0 + get_or g k 0 ≡ count + get_or g (b - 1) 0) e (K.falls (b - 1) (let z = pos in omega arith) (subst (λ (k : ℕ). 0 < before g k) (sym e) (omega arith)))
