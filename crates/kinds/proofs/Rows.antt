-- Laws of the kinds' rows, and one turn of the loop that reads kinds. Assumes nothing.
use mathlib.Core.Path.{◌≡◌, refl, sym, ap, ◌∙◌, subst}
use mathlib.Core.Logic.{◌⊎◌, inl, inr}
use Prim.Native.Nat.{ℕ, suc, ◌+◌, ◌-◌, ◌*◌, ◌≤◌, ◌<◌}
use native.Mathlib.Omega.{arith}
use mathlib.Core.List.{List, [], ◌∷◌, ◌++◌}
use lib.ListN.{length, take, set, get_or, length-set}
use lib.Seq.{get_or-set_same, get_or-set_other, take-set-le}
use lib.Ieee.{Float, nan}
use Rattle.numbers.proofs.Truth.{below_or_not, not-below-zero}
use Rattle.bits.specs.declared.Refusal.{Refusal}
use Rattle.bits.specs.Reading.{ok, bad, after}
use Rattle.kinds.specs.declared.KindHead.{KindHead}
use Rattle.kinds.specs.Kinds.{Orientation, Kind, kind_of, a_kind, some_kinds, head_at, copies_of}
use Rattle.kinds.specs.inner.Tables.{tabulate, orientation_at, orientations_of, kind_with, kind_at}
use Rattle.kinds.proofs.Tables.{get_d_same, tabulate-same, tabulate_more, orientation-same}

-- four numbers stored one after the other
module _ (s : List ℕ) (j a b c d : ℕ) where
  abbrev pub four : List ℕ
  four = set (set (set (set s j a) (j + 1) b) (j + 2) c) (j + 3) d

  pub four_below : take j four ≡ take j s
  four_below =
      take-set-le j (set (set (set s j a) (j + 1) b) (j + 2) c) (j + 3) d (omega arith)
      ∙ take-set-le j (set (set s j a) (j + 1) b) (j + 2) c (omega arith)
      ∙ take-set-le j (set s j a) (j + 1) b (omega arith)
      ∙ take-set-le j s j a (omega arith)

  module _ (h : j + 3 < length s) where
    l2 : length (set (set (set s j a) (j + 1) b) (j + 2) c) ≡ length s
    l2 = length-set (set (set s j a) (j + 1) b) (j + 2) c ∙ length-set (set s j a) (j + 1) b ∙ length-set s j a

    l1 : length (set (set s j a) (j + 1) b) ≡ length s
    l1 = length-set (set s j a) (j + 1) b ∙ length-set s j a

    pub four-0 : get_or four j 0 ≡ a
    four-0 =
        get_or-set_other (set (set (set s j a) (j + 1) b) (j + 2) c) (j + 3) j d 0 (λ e. omega arith)
        ∙ get_or-set_other (set (set s j a) (j + 1) b) (j + 2) j c 0 (λ e. omega arith)
        ∙ get_or-set_other (set s j a) (j + 1) j b 0 (λ e. omega arith)
        ∙ get_or-set_same s j a 0 (omega arith)

    pub four-1 : get_or four (j + 1) 0 ≡ b
    four-1 =
        get_or-set_other (set (set (set s j a) (j + 1) b) (j + 2) c) (j + 3) (j + 1) d 0 (λ e. omega arith)
        ∙ get_or-set_other (set (set s j a) (j + 1) b) (j + 2) (j + 1) c 0 (λ e. omega arith)
        ∙ get_or-set_same (set s j a) (j + 1) b 0 (omega (arith, length-set s j a))

    pub four-2 : get_or four (j + 2) 0 ≡ c
    four-2 =
        get_or-set_other (set (set (set s j a) (j + 1) b) (j + 2) c) (j + 3) (j + 2) d 0 (λ e. omega arith)
        ∙ get_or-set_same (set (set s j a) (j + 1) b) (j + 2) c 0 (omega (arith, l1))

    pub four-3 : get_or four (j + 3) 0 ≡ d
    four-3 = get_or-set_same (set (set (set s j a) (j + 1) b) (j + 2) c) (j + 3) d 0 (omega (arith, l2))

-- a kind's fields stored in the tables
pub head-put : (rows : List ℕ) (areas : List Float) (k : ℕ) (h : KindHead) → 4 * k + 3 < length rows → k < length areas → head_at (four rows (4 * k) h.quantity h.fill h.priority h.orientations) (set areas k h.area) k ≡ h
unfolding head_at
head-put rows areas k h l m =
    rw (four-0 rows (4 * k) h.quantity h.fill h.priority h.orientations l, four-1 rows (4 * k) h.quantity h.fill h.priority h.orientations l, four-2 rows (4 * k) h.quantity h.fill h.priority h.orientations l, four-3 rows (4 * k) h.quantity h.fill h.priority h.orientations l, get_or-set_same areas k h.area nan m)

-- ---- kinds
module _ (bytes : List ℕ) (ks : List Kind) (n i p : ℕ) where
  kinds-step : {k : Kind} {q : ℕ} → a_kind bytes p ≡ ok k q → i < n → some_kinds (n - i) ks bytes p ≡ some_kinds (n - (i + 1)) (ks ++ (k ∷ [])) bytes q
  unfolding some_kinds after
  kinds-step e h =
      let m : n - i ≡ suc (n - (i + 1)) = omega arith in
      ap (λ (k : ℕ). some_kinds k ks bytes p) m ∙ rw e

  kinds-bad : {k : Refusal} → a_kind bytes p ≡ bad k → i < n → some_kinds (n - i) ks bytes p ≡ bad k
  unfolding some_kinds after
  kinds-bad e h =
      let m : n - i ≡ suc (n - (i + 1)) = omega arith in
      ap (λ (k : ℕ). some_kinds k ks bytes p) m ∙ rw e

  kinds-done : n ≤ i → some_kinds (n - i) ks bytes p ≡ ok ks p
  unfolding some_kinds
  kinds-done h =
      let m : n - i ≡ 0 = omega arith in
      ap (λ (k : ℕ). some_kinds k ks bytes p) m

pub copies_more : (ks : List Kind) (k : Kind) → copies_of (ks ++ (k ∷ [])) ≡ copies_of ks + k.quantity
unfolding copies_of
copies_more [] k = omega arith
copies_more (l ∷ ks) k = rw (copies_more ks k) (omega arith)

head-same : (R R' : List ℕ) (A A' : List Float) (i j : ℕ) → take (4 * i) R' ≡ take (4 * i) R → take i A' ≡ take i A → j < i → head_at R' A' j ≡ head_at R A j
unfolding head_at
head-same R R' A A' i j e f h =
    rw (get_d_same R' R (4 * i) (4 * j) 0 e (omega arith), get_d_same R' R (4 * i) (4 * j + 1) 0 e (omega arith), get_d_same R' R (4 * i) (4 * j + 2) 0 e (omega arith), get_d_same R' R (4 * i) (4 * j + 3) 0 e (omega arith), get_d_same A' A i j nan f h)

-- the number of orientations in a kind's row
pub turns_at : (R : List ℕ) (A : List Float) (j : ℕ) → (head_at R A j).orientations ≡ get_or R (4 * j + 3) 0
unfolding head_at
turns_at R A j = refl

sets_same : (bytes P P' : List ℕ) (i j : ℕ) (h : KindHead) → take (32 * i) P' ≡ take (32 * i) P → j < i → h.orientations ≤ 16 → kind_with bytes P' j h ≡ kind_with bytes P j h
unfolding kind_with orientations_of
sets_same bytes P P' i j h e l m =
    ap (λ (os : List Orientation). kind_of h os) (tabulate-same (λ (o : ℕ). orientation_at bytes P' (16 * j + o)) (λ (o : ℕ). orientation_at bytes P (16 * j + o)) h.orientations (λ o k. orientation-same bytes P' P (32 * i) (16 * j + o) e (omega arith)))

kind-same : (bytes R R' : List ℕ) (A A' : List Float) (P P' : List ℕ) (i j : ℕ) → take (4 * i) R' ≡ take (4 * i) R → take i A' ≡ take i A → take (32 * i) P' ≡ take (32 * i) P → get_or R (4 * j + 3) 0 ≤ 16 → j < i → kind_at bytes R' A' P' j ≡ kind_at bytes R A P j
unfolding kind_at
kind-same bytes R R' A A' P P' i j e f g m h =
    ap (λ (x : KindHead). kind_with bytes P' j x) (head-same R R' A A' i j e f h) ∙ sets_same bytes P P' i j (head_at R A j) g h (subst (λ (n : ℕ). n ≤ 16) (sym (turns_at R A j)) m)

kind_at_lem : (bytes R : List ℕ) (A : List Float) (P : List ℕ) (i : ℕ) (h : KindHead) → head_at R A i ≡ h → kind_at bytes R A P i ≡ kind_with bytes P i h
unfolding kind_at
kind_at_lem bytes R A P i h e = ap (λ (x : KindHead). kind_with bytes P i x) e

with-quantity : (bytes P : List ℕ) (i : ℕ) (h : KindHead) → (kind_with bytes P i h).quantity ≡ h.quantity
unfolding kind_with kind_of
with-quantity bytes P i h = refl

no_kinds : (f : ℕ → Kind) → tabulate f 0 ≡ []
unfolding tabulate
no_kinds f = refl

no_copies : (f : ℕ → Kind) → 0 ≡ copies_of (tabulate f 0)
unfolding tabulate copies_of
no_copies f = refl

-- i of n kinds are read into the tables
pub record KindsTo (bytes : List ℕ) (at n : ℕ) (R₀ : List ℕ) (A₀ : List Float) (P₀ : List ℕ) (room₀ : List Float) (ends₀ R : List ℕ) (A : List Float) (P : List ℕ) (room : List Float) (ends : List ℕ) (i p copies : ℕ) : Type 0 where
  pub same : some_kinds n [] bytes at ≡ some_kinds (n - i) (tabulate (kind_at bytes R A P) i) bytes p
  pub total : copies ≡ copies_of (tabulate (kind_at bytes R A P) i)
  pub turns : (j : ℕ) → j < i → get_or R (4 * j + 3) 0 ≤ 16
  pub few : copies ≤ 4095 * i
  pub place : p ≤ at + 2117970 * i
  pub inside : i ≤ n
  pub long_r : length R ≡ length R₀
  pub long_a : length A ≡ length A₀
  pub long_p : length P ≡ length P₀
  pub long_room : length room ≡ length room₀
  pub long_ends : length ends ≡ length ends₀

-- what one kind more leaves of the tables
pub record OneMore (bytes : List ℕ) (R : List ℕ) (A : List Float) (P : List ℕ) (room : List Float) (ends R' : List ℕ) (A' : List Float) (P' : List ℕ) (room' : List Float) (ends' : List ℕ) (i p q : ℕ) (h : KindHead) : Type 0 where
  pub read : a_kind bytes p ≡ ok (kind_with bytes P' i h) q
  pub head : head_at R' A' i ≡ h
  pub quantity : h.quantity ≤ 4095
  pub turns : h.orientations ≤ 16
  pub place : q ≤ p + 2117970
  pub kept_r : take (4 * i) R' ≡ take (4 * i) R
  pub kept_a : take i A' ≡ take i A
  pub kept_p : take (32 * i) P' ≡ take (32 * i) P
  pub long_r : length R' ≡ length R
  pub long_a : length A' ≡ length A
  pub long_p : length P' ≡ length P
  pub long_room : length room' ≡ length room
  pub long_ends : length ends' ≡ length ends

module _ (bytes : List ℕ) (at n : ℕ) (R₀ : List ℕ) (A₀ : List Float) (P₀ : List ℕ) (room₀ : List Float) (ends₀ : List ℕ) where
  pub kinds-start : KindsTo bytes at n R₀ A₀ P₀ room₀ ends₀ R₀ A₀ P₀ room₀ ends₀ 0 at 0
  kinds-start =
      let a : n ≡ n - 0 = omega arith in
      record {
        same = ap (λ (k : ℕ). some_kinds k [] bytes at) a ∙ ap (λ (ks : List Kind). some_kinds (n - 0) ks bytes at) (sym (no_kinds (kind_at bytes R₀ A₀ P₀)));
        total = no_copies (kind_at bytes R₀ A₀ P₀);
        turns = λ j h. absurd (not-below-zero j h);
        few = omega arith;
        place = omega arith;
        inside = omega arith;
        long_r = refl;
        long_a = refl;
        long_p = refl;
        long_room = refl;
        long_ends = refl;
      }

  module _ (R : List ℕ) (A : List Float) (P : List ℕ) (room : List Float) (ends : List ℕ) (i p copies : ℕ) (r : KindsTo bytes at n R₀ A₀ P₀ room₀ ends₀ R A P room ends i p copies) where
    module _ (R' : List ℕ) (A' : List Float) (P' : List ℕ) (room' : List Float) (ends' : List ℕ) (q : ℕ) (h : KindHead) (m : OneMore bytes R A P room ends R' A' P' room' ends' i p q h) where
      more : tabulate (kind_at bytes R' A' P') (i + 1) ≡ tabulate (kind_at bytes R A P) i ++ (kind_with bytes P' i h ∷ [])
      more =
          tabulate_more (kind_at bytes R' A' P') i
          ∙ ap (λ (k : Kind). tabulate (kind_at bytes R' A' P') i ++ (k ∷ [])) (kind_at_lem bytes R' A' P' i h m.head)
          ∙ ap (λ (l : List Kind). l ++ (kind_with bytes P' i h ∷ [])) (tabulate-same (kind_at bytes R' A' P') (kind_at bytes R A P) i (λ j k. kind-same bytes R R' A A' P P' i j m.kept_r m.kept_a m.kept_p (r.turns j k) k))

      turns_more : (j : ℕ) → (j < i) ⊎ (i ≤ j) → j < i + 1 → get_or R' (4 * j + 3) 0 ≤ 16
      turns_more j (inl k) l = subst (λ (x : ℕ). x ≤ 16) (sym (get_d_same R' R (4 * i) (4 * j + 3) 0 m.kept_r (omega arith))) (r.turns j k)
      turns_more j (inr k) l =
          let e : j ≡ i = omega arith in
          subst (λ (x : ℕ). get_or R' (4 * x + 3) 0 ≤ 16) (sym e) (subst (λ (x : ℕ). x ≤ 16) (turns_at R' A' i) (subst (λ (x : KindHead). x.orientations ≤ 16) (sym m.head) m.turns))

      pub kinds_on : i < n → KindsTo bytes at n R₀ A₀ P₀ room₀ ends₀ R' A' P' room' ends' (i + 1) q (copies + h.quantity)
      kinds_on l =
          record {
            same = r.same ∙ kinds-step bytes (tabulate (kind_at bytes R A P) i) n i p m.read l ∙ ap (λ (ks : List Kind). some_kinds (n - (i + 1)) ks bytes q) (sym more);
            total = ap (λ (c : ℕ). c + h.quantity) r.total ∙ ap (λ (x : ℕ). copies_of (tabulate (kind_at bytes R A P) i) + x) (sym (with-quantity bytes P' i h)) ∙ sym (copies_more (tabulate (kind_at bytes R A P) i) (kind_with bytes P' i h)) ∙ ap copies_of (sym more);
            turns = λ j k. turns_more j (below_or_not j i) k;
            few = omega (arith, r.few, m.quantity);
            place = omega (arith, r.place, m.place);
            inside = omega arith;
            long_r = m.long_r ∙ r.long_r;
            long_a = m.long_a ∙ r.long_a;
            long_p = m.long_p ∙ r.long_p;
            long_room = m.long_room ∙ r.long_room;
            long_ends = m.long_ends ∙ r.long_ends;
          }

    pub kinds-end : {k : Refusal} → a_kind bytes p ≡ bad k → i < n → some_kinds n [] bytes at ≡ bad k
    kinds-end e h = r.same ∙ kinds-bad bytes (tabulate (kind_at bytes R A P) i) n i p e h

    pub kinds_all : n ≤ i → (some_kinds n [] bytes at ≡ ok (tabulate (kind_at bytes R A P) n) p) × ((copies ≡ copies_of (tabulate (kind_at bytes R A P) n)) × (p ≤ at + 2117970 * n))
    kinds_all h =
        let a : i ≡ n = omega (arith, r.inside) in
        (r.same ∙ kinds-done bytes (tabulate (kind_at bytes R A P) i) n i p h ∙ ap (λ (k : ℕ). ok (tabulate (kind_at bytes R A P) k) p) a, (r.total ∙ ap (λ (k : ℕ). copies_of (tabulate (kind_at bytes R A P) k)) a, omega (arith, r.place, r.inside)))
