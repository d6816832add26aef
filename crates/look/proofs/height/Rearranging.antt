-- Intervals exchanged in a room are the same intervals. Assumes nothing.
use Prim.Native.Nat.{ℕ, zero, suc, ◌+◌, ◌*◌, ◌%◌, ◌≤◌, ◌<◌}
use native.Mathlib.Omega.{arith}
use mathlib.Core.Path.{◌≡◌, refl, sym, ap, ◌∙◌}
use mathlib.Core.Logic.{◌⊎◌, inl, inr}
use mathlib.Core.Bool.{true, false}
use mathlib.Core.List.Memᴰ
use mathlib.Core.List.{List, ◌∷◌, map, Memᴰ}
use lib.ListN.{length, get_or, set, length-set}
use lib.Seq.{get_or-set_same, get_or-set_other}
use lib.Dec.{eqb}
use lib.Ieee.{Float, nan}
use borrow.Author.Tests.{eq-eqb, ne_eqb}
use Rattle.index.specs.declared.Interval.{Interval}
use Rattle.index.specs.Buckets.{up_from}
use Rattle.index.specs.inner.Listing.{interval_at, intervals}
use Rattle.numbers.proofs.Doubles.{k}
use Rattle.numbers.proofs.Truth.{either, same_or_not, below_or_not}
use Rattle.look.specs.height.Smallest.{outside}
use Rattle.look.specs.height.inner.Raising.{raised, from_last, in_turn, swapped, Rearranged, FiniteEnds}
use Rattle.look.proofs.height.SmallestHeight.{of_outside}
use Rattle.look.proofs.height.Passes.{Reached, raised_reach, still}

pub rearranged-refl : (n : ℕ) (r : List Float) → Rearranged n r r
rearranged-refl n r = record { size = refl; to = λ c h. (c, h, refl); back = λ c h. (c, h, refl); rest = λ c h. refl }

pub rearranged_trans : (n : ℕ) (r s t : List Float) → Rearranged n r s → Rearranged n s t → Rearranged n r t
rearranged_trans n r s t A B = record {
  size = B.size ∙ A.size;
  to = λ c h. (let a = A.to c h in let b = B.to a.0 a.1 in (b.0, b.1, a.2 ∙ b.2));
  back = λ c h. (let b = B.back c h in let a = A.back b.0 b.1 in (a.0, a.1, b.2 ∙ a.2));
  rest = λ c h. B.rest c h ∙ A.rest c h;
}

-- a rearrangement of fewer
pub rearranged_more : (m n : ℕ) (r s : List Float) → m ≤ n → Rearranged m r s → Rearranged n r s
rearranged_more m n r s l A = record { size = A.size; to = λ c h. to c h (below_or_not c m); back = λ c h. back c h (below_or_not c m); rest = λ c h. A.rest c (omega arith) }
  where
    to : (c : ℕ) → c < n → (c < m) ⊎ (m ≤ c) → (j : ℕ) × (j < n) × (interval_at r c ≡ interval_at s j)
    to c h (inl g) = let a = A.to c g in (a.0, (let q = a.1 in omega arith), a.2)
    to c h (inr g) = (c, h, sym (A.rest c g))

    back : (c : ℕ) → c < n → (c < m) ⊎ (m ≤ c) → (j : ℕ) × (j < n) × (interval_at s c ≡ interval_at r j)
    back c h (inl g) = let a = A.back c g in (a.0, (let q = a.1 in omega arith), a.2)
    back c h (inr g) = (c, h, A.rest c g)

-- ---- an exchange
module _ (r : List Float) (i j : ℕ) (I : 2 * i + 2 ≤ length r) (J : 2 * j + 2 ≤ length r) where
  abbrev r1 : List Float
  r1 = set r (2 * i) (get_or r (2 * j) nan)

  abbrev r2 : List Float
  r2 = set r1 (2 * i + 1) (get_or r1 (2 * j + 1) nan)

  abbrev r3 : List Float
  r3 = set r2 (2 * j) (get_or r (2 * i) nan)

  length1 : length r1 ≡ length r
  length1 = length-set r (2 * i) (get_or r (2 * j) nan)

  length2 : length r2 ≡ length r
  length2 = length-set r1 (2 * i + 1) (get_or r1 (2 * j + 1) nan) ∙ length1

  length3 : length r3 ≡ length r
  length3 = length-set r2 (2 * j) (get_or r (2 * i) nan) ∙ length2

  pub length-swapped : length (swapped r i j) ≡ length r
  unfolding swapped
  length-swapped = length-set r3 (2 * j + 1) (get_or r (2 * i + 1) nan) ∙ length3

  -- a slot that is neither of the two written last
  early : (c : ℕ) → (c ≡ 2 * j → ⊥) → (c ≡ 2 * j + 1 → ⊥) → get_or (swapped r i j) c nan ≡ get_or r2 c nan
  unfolding swapped
  early c p q = get_or-set_other r3 (2 * j + 1) c (get_or r (2 * i + 1) nan) nan q ∙ get_or-set_other r2 (2 * j) c (get_or r (2 * i) nan) nan p

  swapped_other : (c : ℕ) → (c ≡ i → ⊥) → (c ≡ j → ⊥) → interval_at (swapped r i j) c ≡ interval_at r c
  unfolding interval_at
  swapped_other c p q = rw (low, high)
    where
      plain : (d : ℕ) → (d ≡ 2 * i → ⊥) → (d ≡ 2 * i + 1 → ⊥) → get_or r2 d nan ≡ get_or r d nan
      plain d a b = get_or-set_other r1 (2 * i + 1) d (get_or r1 (2 * j + 1) nan) nan b ∙ get_or-set_other r (2 * i) d (get_or r (2 * j) nan) nan a

      low : get_or (swapped r i j) (2 * c) nan ≡ get_or r (2 * c) nan
      low = early (2 * c) (λ e. q (omega arith)) (λ e. (let z : ⊥ = omega arith in z)) ∙ plain (2 * c) (λ e. p (omega arith)) (λ e. (let z : ⊥ = omega arith in z))

      high : get_or (swapped r i j) (2 * c + 1) nan ≡ get_or r (2 * c + 1) nan
      high = early (2 * c + 1) (λ e. (let z : ⊥ = omega arith in z)) (λ e. q (omega arith)) ∙ plain (2 * c + 1) (λ e. (let z : ⊥ = omega arith in z)) (λ e. p (omega arith))

  swapped_second : interval_at (swapped r i j) j ≡ interval_at r i
  unfolding interval_at swapped
  swapped_second = rw (low, high)
    where
      low : get_or (set r3 (2 * j + 1) (get_or r (2 * i + 1) nan)) (2 * j) nan ≡ get_or r (2 * i) nan
      low = get_or-set_other r3 (2 * j + 1) (2 * j) (get_or r (2 * i + 1) nan) nan (λ e. (let z : ⊥ = omega arith in z)) ∙ get_or-set_same r2 (2 * j) (get_or r (2 * i) nan) nan (omega (arith, length2))

      high : get_or (set r3 (2 * j + 1) (get_or r (2 * i + 1) nan)) (2 * j + 1) nan ≡ get_or r (2 * i + 1) nan
      high = get_or-set_same r3 (2 * j + 1) (get_or r (2 * i + 1) nan) nan (omega (arith, length3))

  swapped-first : (i ≡ j → ⊥) → interval_at (swapped r i j) i ≡ interval_at r j
  unfolding interval_at
  swapped-first p = rw (low, high)
    where
      low : get_or (swapped r i j) (2 * i) nan ≡ get_or r (2 * j) nan
      low = early (2 * i) (λ e. p (omega arith)) (λ e. (let z : ⊥ = omega arith in z)) ∙ get_or-set_other r1 (2 * i + 1) (2 * i) (get_or r1 (2 * j + 1) nan) nan (λ e. (let z : ⊥ = omega arith in z)) ∙ get_or-set_same r (2 * i) (get_or r (2 * j) nan) nan (omega arith)

      high : get_or (swapped r i j) (2 * i + 1) nan ≡ get_or r (2 * j + 1) nan
      high = early (2 * i + 1) (λ e. (let z : ⊥ = omega arith in z)) (λ e. p (omega arith)) ∙ get_or-set_same r1 (2 * i + 1) (get_or r1 (2 * j + 1) nan) nan (omega (arith, length1)) ∙ get_or-set_other r (2 * i) (2 * j + 1) (get_or r (2 * j) nan) nan (λ e. (let z : ⊥ = omega arith in z))

  pub swapped-rearranged : (n : ℕ) → i < n → j < n → Rearranged n r (swapped r i j)
  swapped-rearranged n a b = record { size = length-swapped; to = λ c h. to c h (same_or_not c i) (same_or_not c j); back = λ c h. back c h (same_or_not c j) (same_or_not c i); rest = λ c h. swapped_other c (λ e. (let z : ⊥ = omega arith in z)) (λ e. (let z : ⊥ = omega arith in z)) }
    where
      to : (c : ℕ) → c < n → (c ≡ i) ⊎ (c ≡ i → ⊥) → (c ≡ j) ⊎ (c ≡ j → ⊥) → (d : ℕ) × (d < n) × (interval_at r c ≡ interval_at (swapped r i j) d)
      to c h (inl e) f = (j, b, ap (interval_at r) e ∙ sym swapped_second)
      to c h (inr e) (inl f) = (i, a, ap (interval_at r) f ∙ sym (swapped-first (λ q. e (f ∙ sym q))))
      to c h (inr e) (inr f) = (c, h, sym (swapped_other c e f))

      back : (c : ℕ) → c < n → (c ≡ j) ⊎ (c ≡ j → ⊥) → (c ≡ i) ⊎ (c ≡ i → ⊥) → (d : ℕ) × (d < n) × (interval_at (swapped r i j) c ≡ interval_at r d)
      back c h (inl e) f = (i, a, ap (interval_at (swapped r i j)) e ∙ swapped_second)
      back c h (inr e) (inl f) = (j, b, ap (interval_at (swapped r i j)) f ∙ swapped-first (λ q. e (f ∙ q)))
      back c h (inr e) (inr f) = (c, h, swapped_other c f e)

-- ---- the lists of a room
map-up_from_mem : (r : List Float) (n c : ℕ) (d : ℕ) → c ≤ d → d < c + n → Memᴰ (interval_at r d) (map (interval_at r) (up_from n c))
unfolding up_from
map-up_from_mem r zero c d h l = absurd (no h l)
  where
    no : c ≤ d → d < c + zero → ⊥
    no h l = omega arith
map-up_from_mem r (suc n) c d h l = go (same_or_not d c) (λ g. map-up_from_mem r n (suc c) d g (omega arith))
  where
    go : (d ≡ c) ⊎ (d ≡ c → ⊥) → (suc c ≤ d → Memᴰ (interval_at r d) (map (interval_at r) (up_from n (suc c)))) → Memᴰ (interval_at r d) (interval_at r c ∷ map (interval_at r) (up_from n (suc c)))
    go (inl e) below = Memᴰ.head (ap (interval_at r) e)
    go (inr e) below = Memᴰ.tail (below (let z = native.Mathlib.Nat.eq-or-lt_of_le h in pick z))
      where
        pick : (c ≡ d) ⊎ (c < d) → suc c ≤ d
        pick (inl q) = absurd (e (sym q))
        pick (inr q) = omega arith

mem_map-up_from : (r : List Float) (n c : ℕ) (i : Interval) → Memᴰ i (map (interval_at r) (up_from n c)) → (d : ℕ) × (d < c + n) × (i ≡ interval_at r d)
unfolding up_from
mem_map-up_from r zero c i m = absurd (Memᴰ.not-nil m)
mem_map-up_from r (suc n) c i m = go (mem_map-up_from r n (suc c) i) (Memᴰ.cases_cons m)
  where
    go : (Memᴰ i (map (interval_at r) (up_from n (suc c))) → (d : ℕ) × (d < suc c + n) × (i ≡ interval_at r d)) → (i ≡ interval_at r c) ⊎ Memᴰ i (map (interval_at r) (up_from n (suc c))) → (d : ℕ) × (d < c + suc n) × (i ≡ interval_at r d)
    go below (inl e) = (c, omega arith, e)
    go below (inr t) = let w = below t in (w.0, (let q = w.1 in omega arith), w.2)

pub mem_intervals : (r : List Float) (n d : ℕ) → d < n → Memᴰ (interval_at r d) (intervals r n)
unfolding intervals
mem_intervals r n d h = map-up_from_mem r n 0 d (omega arith) (omega arith)

pub intervals_mem : (r : List Float) (n : ℕ) (i : Interval) → Memᴰ i (intervals r n) → (d : ℕ) × (d < n) × (i ≡ interval_at r d)
unfolding intervals
intervals_mem r n i m = let w = mem_map-up_from r n 0 i m in (w.0, (let q = w.1 in omega arith), w.2)

from_last_mem : (r : List Float) (n : ℕ) (i : Interval) → Memᴰ i (from_last r n) → (d : ℕ) × (d < n) × (i ≡ interval_at r d)
unfolding from_last
from_last_mem r zero i m = absurd (Memᴰ.not-nil m)
from_last_mem r (suc n) i m = go (from_last_mem r n i) (Memᴰ.cases_cons m)
  where
    go : (Memᴰ i (from_last r n) → (d : ℕ) × (d < n) × (i ≡ interval_at r d)) → (i ≡ interval_at r n) ⊎ Memᴰ i (from_last r n) → (d : ℕ) × (d < suc n) × (i ≡ interval_at r d)
    go below (inl e) = (n, omega arith, e)
    go below (inr t) = let w = below t in (w.0, (let q = w.1 in omega arith), w.2)

mem_from_last : (r : List Float) (n d : ℕ) → d < n → Memᴰ (interval_at r d) (from_last r n)
unfolding from_last
mem_from_last r zero d h = absurd (no h)
  where
    no : d < zero → ⊥
    no h = omega arith
mem_from_last r (suc n) d h = go (same_or_not d n) (mem_from_last r n d)
  where
    go : (d ≡ n) ⊎ (d ≡ n → ⊥) → (d < n → Memᴰ (interval_at r d) (from_last r n)) → Memᴰ (interval_at r d) (interval_at r n ∷ from_last r n)
    go (inl e) below = Memᴰ.head (ap (interval_at r) e)
    go (inr e) below = Memᴰ.tail (below (omega (arith, e)))

in_turn-true : (r : List Float) (n t : ℕ) → eqb (t % 2) 0 ≡ true → in_turn r n t ≡ intervals r n
unfolding in_turn
in_turn-true r n t e = rw (e, in_turn)

in_turn-false : (r : List Float) (n t : ℕ) → eqb (t % 2) 0 ≡ false → in_turn r n t ≡ from_last r n
unfolding in_turn
in_turn-false r n t e = rw (e, in_turn)

pub turn_even : (r : List Float) (n t : ℕ) → t % 2 ≡ 0 → intervals r n ≡ in_turn r n t
turn_even r n t e = sym (in_turn-true r n t (eq-eqb (t % 2) 0 e))

pub turn_odd : (r : List Float) (n t : ℕ) → (t % 2 ≡ 0 → ⊥) → from_last r n ≡ in_turn r n t
turn_odd r n t e = sym (in_turn-false r n t (ne_eqb (t % 2) 0 e))

-- the passes over a rearranged room run over the intervals that it had
module _ (n : ℕ) (r s : List Float) (A : Rearranged n r s) (t : ℕ) where
  pub turn_of_lem : (i : Interval) → Memᴰ i (in_turn s n t) → Memᴰ i (intervals r n)
  turn_of_lem i m = go (either (eqb (t % 2) 0))
    where
      found : ((d : ℕ) × (d < n) × (i ≡ interval_at s d)) → Memᴰ i (intervals r n)
      found w = let a = A.back w.0 w.1 in rw (w.2 ∙ a.2) (mem_intervals r n a.0 a.1)

      go : (eqb (t % 2) 0 ≡ true) ⊎ (eqb (t % 2) 0 ≡ false) → Memᴰ i (intervals r n)
      go (inl e) = found (intervals_mem s n i (rw (in_turn-true s n t e) at m))
      go (inr e) = found (from_last_mem s n i (rw (in_turn-false s n t e) at m))

  pub of_turn : (i : Interval) → Memᴰ i (intervals r n) → Memᴰ i (in_turn s n t)
  of_turn i m = go (either (eqb (t % 2) 0)) (intervals_mem r n i m)
    where
      go : (eqb (t % 2) 0 ≡ true) ⊎ (eqb (t % 2) 0 ≡ false) → ((d : ℕ) × (d < n) × (i ≡ interval_at r d)) → Memᴰ i (in_turn s n t)
      go (inl e) w = let a = A.to w.0 w.1 in rw (w.2 ∙ a.2, in_turn-true s n t e) (mem_intervals s n a.0 a.1)
      go (inr e) w = let a = A.to w.0 w.1 in rw (w.2 ∙ a.2, in_turn-false s n t e) (mem_from_last s n a.0 a.1)

-- ---- a pass: from y to z
pub record Raised (y_low : Float) (is : List Interval) (y z : Float) : Type 0 where
  pub here : Reached y_low is y
  pub next : Reached y_low is z
  pub up : k y ≤ k z
  pub out : k z ≤ k y → outside is y ≡ true

pub raised_pass : (n : ℕ) (r s : List Float) (t : ℕ) (yl y z : Float) → Rearranged n r s → FiniteEnds (intervals r n) → Reached yl (intervals r n) y → z ≡ raised y (in_turn s n t) → Raised yl (intervals r n) y z
raised_pass n r s t yl y z A F R e =
    let w = raised_reach yl (intervals r n) F (in_turn s n t) (turn_of_lem n r s A t) y R in
    rw e (record { here = R; next = w.0; up = w.1; out = λ l. of_outside (intervals r n) y (λ i m. still yl (intervals r n) F (in_turn s n t) (turn_of_lem n r s A t) y R l i (of_turn n r s A t i m)) })
