-- Entries moved up from the back, and starts made larger, one after the other. Assumes nothing.
use Prim.Native.Nat.{ℕ, ◌+◌, ◌<◌, ◌≤◌, min}
use native.Mathlib.Omega.{arith}
use native.Mathlib.Nat.{eq-or-lt_of_le}
use mathlib.Core.Path.{◌≡◌, refl, sym, ◌∙◌, subst}
use mathlib.Core.Logic.{◌⊎◌, inl, inr}
use mathlib.Core.List.{List}
use lib.ListN.{length, get_or, set, length-set}
use lib.Seq.{get_or-set_same, get_or-set_other}
use Rattle.numbers.proofs.Truth.{below_or_not}
use Rattle.moves.specs.inner.Moves.{Moved, Shifted}

-- ---- moving up, from the back: j is the first that is moved already
pub moved-start : (from to by : ℕ) (s : List ℕ) → from ≤ to → Moved to to by s s
moved-start from to by s h = record { size = refl; up = λ j a b. absurd (no j a b); front = λ j a. refl; back = λ j a. refl }
  where
    no : (j : ℕ) → to ≤ j → j < to → ⊥
    no j a b = omega arith

-- the value v is put one place before those that are moved
pub moved-put : (j m to by v : ℕ) (s r : List ℕ) → m ≡ j + 1 → j < to → to + by ≤ length s → v ≡ get_or s j 0 → Moved m to by s r → Moved j to by s (set r (j + by) v)
moved-put j m to by v s r w h l x M = record { size = length-set r (j + by) v ∙ M.size; up = λ i a b. up i a b (eq-or-lt_of_le a); front = λ i a. get_or-set_other r (j + by) i v 0 (λ e. no i a e) ∙ M.front i (omega arith); back = λ i a. get_or-set_other r (j + by) i v 0 (λ e. never i a e) ∙ M.back i a }
  where
    no : (i : ℕ) → i < j + by → i ≡ j + by → ⊥
    no i a e = omega arith

    never : (i : ℕ) → to + by ≤ i → i ≡ j + by → ⊥
    never i a e = omega arith

    other : (i : ℕ) → j < i → i + by ≡ j + by → ⊥
    other i a e = omega arith

    up : (i : ℕ) → j ≤ i → i < to → (j ≡ i) ⊎ (j < i) → get_or (set r (j + by) v) (i + by) 0 ≡ get_or s i 0
    up i a b (inl e) = subst (λ (k : ℕ). get_or (set r (j + by) v) (k + by) 0 ≡ get_or s k 0) e (get_or-set_same r (j + by) v 0 (let z = M.size in omega arith) ∙ x)
    up i a b (inr e) = get_or-set_other r (j + by) (i + by) v 0 (λ q. other i e q) ∙ M.up i (omega arith) b

pub moved-step : (j to by : ℕ) (s r : List ℕ) → j < to → to + by ≤ length s → Moved (j + 1) to by s r → Moved j to by s (set r (j + by) (get_or r j 0))
moved-step j to by s r h l M = moved-put j (j + 1) to by (get_or r j 0) s r refl h l (M.front j (omega arith)) M

-- the same at a place k that is j + by
moved_at : (j m to by k v : ℕ) (s r : List ℕ) → m ≡ j + 1 → k ≡ j + by → j < to → to + by ≤ length s → v ≡ get_or s j 0 → Moved m to by s r → Moved j to by s (set r k v)
moved_at j m to by k v s r w e h l x M = subst (λ (q : ℕ). Moved j to by s (set r q v)) (sym e) (moved-put j m to by v s r w h l x M)

-- four values at four places
four_at_lem : (j to by k3 k2 k1 k0 d c b a : ℕ) (s r : List ℕ) → k3 ≡ j + 3 + by → k2 ≡ j + 2 + by → k1 ≡ j + 1 + by → k0 ≡ j + by
    → d ≡ get_or s (j + 3) 0 → c ≡ get_or s (j + 2) 0 → b ≡ get_or s (j + 1) 0 → a ≡ get_or s j 0
    → j + 4 ≤ to → to + by ≤ length s → Moved (j + 4) to by s r
    → Moved j to by s (set (set (set (set r k3 d) k2 c) k1 b) k0 a)
four_at_lem j to by k3 k2 k1 k0 d c b a s r e3 e2 e1 e0 x3 x2 x1 x0 h l M =
    let M3 = moved_at (j + 3) (j + 4) to by k3 d s r (omega arith) e3 (omega arith) l x3 M in
    let M2 = moved_at (j + 2) (j + 3) to by k2 c s (set r k3 d) (omega arith) e2 (omega arith) l x2 M3 in
    let M1 = moved_at (j + 1) (j + 2) to by k1 b s (set (set r k3 d) k2 c) (omega arith) e1 (omega arith) l x1 M2 in
    moved_at j (j + 1) to by k0 a s (set (set (set r k3 d) k2 c) k1 b) refl e0 (omega arith) l x0 M1

-- four at once
pub moved_four : (j to by : ℕ) (s r : List ℕ) → j + 4 ≤ to → to + by ≤ length s → Moved (j + 4) to by s r
    → Moved j to by s (set (set (set (set r (j + by + 3) (get_or r (j + 3) 0)) (j + by + 2) (get_or r (j + 2) 0)) (j + by + 1) (get_or r (j + 1) 0)) (j + by) (get_or r j 0))
moved_four j to by s r h l M =
    let x : (i : ℕ) → i < j + 4 + by → get_or r i 0 ≡ get_or s i 0 = M.front in
    four_at_lem j to by (j + by + 3) (j + by + 2) (j + by + 1) (j + by) (get_or r (j + 3) 0) (get_or r (j + 2) 0) (get_or r (j + 1) 0) (get_or r j 0) s r
    (omega arith) (omega arith) (omega arith) refl
    (x (j + 3) (omega arith)) (x (j + 2) (omega arith)) (x (j + 1) (omega arith)) (x j (omega arith)) h l M

-- eight at once
abbrev four_set : ℕ → ℕ → ℕ → ℕ → ℕ → ℕ → ℕ → ℕ → List ℕ → List ℕ
four_set k3 k2 k1 k0 d c b a r = set (set (set (set r k3 d) k2 c) k1 b) k0 a

pub moved_eight : (j to by : ℕ) (s r : List ℕ) → j + 8 ≤ to → to + by ≤ length s → Moved (j + 8) to by s r
    → Moved j to by s
    (four_set (j + by + 3) (j + by + 2) (j + by + 1) (j + by) (get_or r (j + 3) 0) (get_or r (j + 2) 0) (get_or r (j + 1) 0) (get_or r j 0)
    (four_set (j + by + 7) (j + by + 6) (j + by + 5) (j + by + 4) (get_or r (j + 7) 0) (get_or r (j + 6) 0) (get_or r (j + 5) 0) (get_or r (j + 4) 0) r))
moved_eight j to by s r h l M =
    let x : (i : ℕ) → i < j + 8 + by → get_or r i 0 ≡ get_or s i 0 = M.front in
    let e : j + 8 ≡ j + 4 + 4 = omega arith in
    let y : (i : ℕ) → j + 4 + i < j + 8 → get_or r (j + (i + 4)) 0 ≡ get_or s (j + 4 + i) 0 = λ i q. (let f : j + (i + 4) ≡ j + 4 + i = omega arith in subst (λ (k : ℕ). get_or r k 0 ≡ get_or s (j + 4 + i) 0) (sym f) (x (j + 4 + i) (omega arith))) in
    four_at_lem j to by (j + by + 3) (j + by + 2) (j + by + 1) (j + by) (get_or r (j + 3) 0) (get_or r (j + 2) 0) (get_or r (j + 1) 0) (get_or r j 0) s
    (four_set (j + by + 7) (j + by + 6) (j + by + 5) (j + by + 4) (get_or r (j + 7) 0) (get_or r (j + 6) 0) (get_or r (j + 5) 0) (get_or r (j + 4) 0) r)
    (omega arith) (omega arith) (omega arith) refl
    (x (j + 3) (omega arith)) (x (j + 2) (omega arith)) (x (j + 1) (omega arith)) (x j (omega arith)) (omega arith) l
    (four_at_lem (j + 4) to by (j + by + 7) (j + by + 6) (j + by + 5) (j + by + 4) (get_or r (j + 7) 0) (get_or r (j + 6) 0) (get_or r (j + 5) 0) (get_or r (j + 4) 0) s r
    (omega arith) (omega arith) (omega arith) (omega arith)
    (y 3 (omega arith)) (y 2 (omega arith)) (y 1 (omega arith)) (x (j + 4) (omega arith)) (omega arith) l
    (subst (λ (k : ℕ). Moved k to by s r) e M))

-- a part and the part before it
pub moved_join : (from mid to by : ℕ) (s r q : List ℕ) → from ≤ mid → mid ≤ to → Moved mid to by s r → Moved from mid by r q → Moved from to by s q
moved_join from mid to by s r q h l M N = record { size = N.size ∙ M.size; up = λ j a b. up j a b (below_or_not j mid); front = λ j a. N.front j a ∙ M.front j (omega arith); back = λ j a. N.back j (omega arith) ∙ M.back j a }
  where
    up : (j : ℕ) → from ≤ j → j < to → (j < mid) ⊎ (mid ≤ j) → get_or q (j + by) 0 ≡ get_or s j 0
    up j a b (inl c) = N.up j a c ∙ M.front j (omega arith)
    up j a b (inr c) = N.back (j + by) (omega arith) ∙ M.up j c b

-- a value is put at its new place, just before those that are moved or among them
moved_over : (j m to by v : ℕ) (s r : List ℕ) → m ≤ j + 1 → j < to → to + by ≤ length s → v ≡ get_or s j 0 → Moved m to by s r → Moved (min m j) to by s (set r (j + by) v)
moved_over j m to by v s r w h l x M = record { size = length-set r (j + by) v ∙ M.size; up = λ i a b. up i a b (below_or_not i j) (below_or_not j i); front = λ i a. get_or-set_other r (j + by) i v 0 (λ e. no i a e) ∙ M.front i (omega arith); back = λ i a. get_or-set_other r (j + by) i v 0 (λ e. never i a e) ∙ M.back i a }
  where
    no : (i : ℕ) → i < min m j + by → i ≡ j + by → ⊥
    no i a e = omega arith

    never : (i : ℕ) → to + by ≤ i → i ≡ j + by → ⊥
    never i a e = omega arith

    below : (i : ℕ) → i < j → i + by ≡ j + by → ⊥
    below i a e = omega arith

    above : (i : ℕ) → j < i → i + by ≡ j + by → ⊥
    above i a e = omega arith

    up : (i : ℕ) → min m j ≤ i → i < to → (i < j) ⊎ (j ≤ i) → (j < i) ⊎ (i ≤ j) → get_or (set r (j + by) v) (i + by) 0 ≡ get_or s i 0
    up i a b (inl c) d = get_or-set_other r (j + by) (i + by) v 0 (λ q. below i c q) ∙ M.up i (omega arith) b
    up i a b (inr c) (inl d) = get_or-set_other r (j + by) (i + by) v 0 (λ q. above i d q) ∙ M.up i (omega arith) b
    up i a b (inr c) (inr d) = let e : j ≡ i = omega arith in subst (λ (k : ℕ). get_or (set r (j + by) v) (k + by) 0 ≡ get_or s k 0) e (get_or-set_same r (j + by) v 0 (let z = M.size in omega arith) ∙ x)

-- the first four once more
pub moved-head : (f m to by : ℕ) (s r : List ℕ) → f ≤ m → m ≤ f + 4 → f + 4 ≤ to → to + by ≤ length s → Moved m to by s r
    → Moved f to by s (set (set (set (set r (f + by + 3) (get_or s (f + 3) 0)) (f + by + 2) (get_or s (f + 2) 0)) (f + by + 1) (get_or s (f + 1) 0)) (f + by) (get_or s f 0))
moved-head f m to by s r a b h l M =
    let e : min (min (min (min m (f + 3)) (f + 2)) (f + 1)) f ≡ f = omega arith in
    let e3 : f + 3 + by ≡ f + by + 3 = omega arith in
    let e2 : f + 2 + by ≡ f + by + 2 = omega arith in
    let e1 : f + 1 + by ≡ f + by + 1 = omega arith in
    let M3 = subst (λ (k : ℕ). Moved (min m (f + 3)) to by s (set r k (get_or s (f + 3) 0))) e3 (moved_over (f + 3) m to by (get_or s (f + 3) 0) s r (omega arith) (omega arith) l refl M) in
    let M2 = subst (λ (k : ℕ). Moved (min (min m (f + 3)) (f + 2)) to by s (set (set r (f + by + 3) (get_or s (f + 3) 0)) k (get_or s (f + 2) 0))) e2 (moved_over (f + 2) (min m (f + 3)) to by (get_or s (f + 2) 0) s (set r (f + by + 3) (get_or s (f + 3) 0)) (omega arith) (omega arith) l refl M3) in
    let M1 = subst (λ (k : ℕ). Moved (min (min (min m (f + 3)) (f + 2)) (f + 1)) to by s (set (set (set r (f + by + 3) (get_or s (f + 3) 0)) (f + by + 2) (get_or s (f + 2) 0)) k (get_or s (f + 1) 0))) e1 (moved_over (f + 1) (min (min m (f + 3)) (f + 2)) to by (get_or s (f + 1) 0) s (set (set r (f + by + 3) (get_or s (f + 3) 0)) (f + by + 2) (get_or s (f + 2) 0)) (omega arith) (omega arith) l refl M2) in
    let M0 = moved_over f (min (min (min m (f + 3)) (f + 2)) (f + 1)) to by (get_or s f 0) s (set (set (set r (f + by + 3) (get_or s (f + 3) 0)) (f + by + 2) (get_or s (f + 2) 0)) (f + by + 1) (get_or s (f + 1) 0)) (omega arith) (omega arith) l refl M1 in
    subst (λ (k : ℕ). Moved k to by s (set (set (set (set r (f + by + 3) (get_or s (f + 3) 0)) (f + by + 2) (get_or s (f + 2) 0)) (f + by + 1) (get_or s (f + 1) 0)) (f + by) (get_or s f 0))) e M0

-- ---- adding to the starts
pub shifted_start : (from by : ℕ) (st : List ℕ) → Shifted from by st from st
shifted_start from by st = record { size = refl; early = λ c h. refl; done = λ c h l. absurd (no c h l); todo = λ c h. refl }
  where
    no : (c : ℕ) → from ≤ c → c < from → ⊥
    no c h l = omega arith

pub shifted_step : (from by : ℕ) (st : List ℕ) (b : ℕ) (s : List ℕ) → from ≤ b → b < length st → Shifted from by st b s → Shifted from by st (b + 1) (set s b (get_or s b 0 + by))
shifted_step from by st b s h l S = record { size = length-set s b (get_or s b 0 + by) ∙ S.size; early = λ c a. get_or-set_other s b c (get_or s b 0 + by) 0 (λ q. before_b c a q) ∙ S.early c a; done = λ c a d. done c a (eq-or-lt_of_le (let q : c ≤ b = omega arith in q)); todo = λ c a. get_or-set_other s b c (get_or s b 0 + by) 0 (λ q. after_b c a q) ∙ S.todo c (omega arith) }
  where
    before_b : (c : ℕ) → c < from → c ≡ b → ⊥
    before_b c a q = omega arith

    after_b : (c : ℕ) → b + 1 ≤ c → c ≡ b → ⊥
    after_b c a q = omega arith

    less_b : (c : ℕ) → c < b → c ≡ b → ⊥
    less_b c a q = omega arith

    done : (c : ℕ) → from ≤ c → (c ≡ b) ⊎ (c < b) → get_or (set s b (get_or s b 0 + by)) c 0 ≡ get_or st c 0 + by
    done c a (inl q) = subst (λ (d : ℕ). get_or (set s b (get_or s b 0 + by)) d 0 ≡ get_or st d 0 + by) (sym q) (get_or-set_same s b (get_or s b 0 + by) 0 (let z = S.size in omega arith) ∙ (let t = S.todo b (native.Mathlib.Nat.le_refl b) in let y : get_or s b 0 + by ≡ get_or st b 0 + by = omega arith in y))
    done c a (inr q) = get_or-set_other s b c (get_or s b 0 + by) 0 (λ z. less_b c q z) ∙ S.done c a q
