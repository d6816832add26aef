-- Laws of a table of numbers whose first stands last. Assumes nothing.
use Prim.Native.Nat.{ℕ, zero, suc, ◌+◌, ◌-◌, ◌≤◌, ◌<◌}
use native.Mathlib.Omega.{arith}
use mathlib.Core.Path.{◌≡◌, refl, sym, ◌∙◌, subst}
use mathlib.Core.Logic.{◌⊎◌, inl, inr}
use mathlib.Core.List.{List}
use mathlib.Core.Bool.{Bool, true, false, ◌&&◌}
use lib.ListN.{length, get_or, set}
use lib.Seq.{get_or-set_same, get_or-set_other}
use lib.Dec.{T, ltb, lt→ltb}
use lib.Ieee.{Float, nan, lt}
use Rattle.numbers.proofs.Truth.{is_true}
use Rattle.slabs.specs.Slab.{insert}
use Rattle.slabs.specs.inner.Tables.{down, merge}
use Rattle.slabs.proofs.Sorting.{over, insert-step, insert-last, down-zero}
use Rattle.slabs.proofs.Merging.{above, down-above, none-merge, merge_up, merge-down}

module _ (l : List Float) (i : ℕ) (x : Float) where
  pub at_below : (j : ℕ) → j < i → get_or (set l i x) j nan ≡ get_or l j nan
  at_below j h = get_or-set_other l i j x nan (λ e. omega arith)

  pub at_above : (j : ℕ) → i < j → get_or (set l i x) j nan ≡ get_or l j nan
  at_above j h = get_or-set_other l i j x nan (λ e. omega arith)

abbrev pub at : List Float → ℕ → Float
at l i = get_or l i nan

pub insert-number : (l : List Float) (n k : ℕ) (x : Float) → 0 < k → k ≤ n → n < length l → lt (at l (k - 1)) x ≡ true
    → over (at (set l k (at l (k - 1)))) (k - 1) (n - (k - 1)) (insert lt x (down (at (set l k (at l (k - 1)))) (k - 1))) ≡ over (at l) k (n - k) (insert lt x (down (at l) k))
insert-number l n k x p h len t =
    insert-step lt (at l) (at (set l k (at l (k - 1)))) x k n p h (at_below l k (at l (k - 1))) (at_above l k (at l (k - 1)))
    (get_or-set_same l k (at l (k - 1)) nan (omega arith)) t

pub insert-number-last : (l : List Float) (n k : ℕ) (x : Float) → k ≤ n → n < length l → (k ≡ 0) ⊎ (lt (at l (k - 1)) x ≡ false)
    → down (at (set l k x)) (n + 1) ≡ over (at l) k (n - k) (insert lt x (down (at l) k))
insert-number-last l n k x h len t =
    insert-last lt (at l) (at (set l k x)) x k n h (at_below l k x) (at_above l k x) (get_or-set_same l k x nan (omega arith)) t

no : true ≡ false → ⊥
no e = subst T e tt

-- ---- whether the last of i numbers comes first
pub led : (i : ℕ) (b : Bool) → 0 < i → b ≡ (ltb 0 i && b)
led i b h = let e : ltb 0 i ≡ true = is_true (ltb 0 i) (lt→ltb 0 i h) in rw e

pub led_pos : (i : ℕ) (b r : Bool) → r ≡ (ltb 0 i && b) → r ≡ true → 0 < i
led_pos zero b r e t = absurd (no (sym t ∙ e))
led_pos (suc i) b r e t = omega arith

pub led_first : (i : ℕ) (b r : Bool) → r ≡ (ltb 0 i && b) → r ≡ true → b ≡ true
led_first i b r e t = led i b (led_pos i b r e t) ∙ (sym e ∙ t)

pub not_led : (i : ℕ) (b r : Bool) → r ≡ (ltb 0 i && b) → r ≡ false → (i ≡ 0) ⊎ (b ≡ false)
not_led zero b r e t = inl refl
not_led (suc i) b r e t = inr (led (suc i) b (omega arith) ∙ (sym e ∙ t))

module _ (line run : List Float) (i j t : ℕ) (p : 0 < j) (room : i + j ≤ t) (fits : i + j ≤ length line) where
  pub merge-number_up : 0 < i → lt (at line (i - 1)) (at run (j - 1)) ≡ true → (above (at (set line (i + j - 1) (at line (i - 1)))) (i - 1 + j) (t - (i - 1 + j)) (merge lt (down (at run) j) (down (at (set line (i + j - 1) (at line (i - 1)))) (i - 1)))) ≡ above (at line) (i + j) (t - (i + j)) (merge lt (down (at run) j) (down (at line) i))
  merge-number_up q e =
      let k = i + j - 1 in
      merge_up lt (at line) (at (set line k (at line (i - 1)))) (at run) i j t p room (at_below line k (at line (i - 1))) (at_above line k (at line (i - 1))) q e (get_or-set_same line k (at line (i - 1)) nan (omega arith))

  pub merge-number-down : (i ≡ 0) ⊎ (lt (at line (i - 1)) (at run (j - 1)) ≡ false) → above (at (set line (i + j - 1) (at run (j - 1)))) (i + (j - 1)) (t - (i + (j - 1))) (merge lt (down (at run) (j - 1)) (down (at (set line (i + j - 1) (at run (j - 1)))) i)) ≡ above (at line) (i + j) (t - (i + j)) (merge lt (down (at run) j) (down (at line) i))
  merge-number-down e =
      let k = i + j - 1 in
      merge-down lt (at line) (at (set line k (at run (j - 1)))) (at run) i j t p room (at_below line k (at run (j - 1))) (at_above line k (at run (j - 1))) e (get_or-set_same line k (at run (j - 1)) nan (omega arith))

pub merge-start : (line run : List Float) (m c : ℕ) → above (at line) (m + c) (m + c - (m + c)) (merge lt (down (at run) c) (down (at line) m)) ≡ merge lt (down (at run) c) (down (at line) m)
unfolding above
merge-start line run m c = let z : m + c - (m + c) ≡ 0 = omega arith in rw z

pub merge-end : (line run : List Float) (i j t : ℕ) → j ≤ 0 → i ≤ t → down (at line) t ≡ above (at line) (i + j) (t - (i + j)) (merge lt (down (at run) j) (down (at line) i))
merge-end line run i zero t h g =
    let z : i + 0 ≡ i = omega arith in
    let e : i + (t - i) ≡ t = omega arith in
    rw (z, down-zero (at run), none-merge lt (down (at line) i), down-above (at line) i (t - i), e)
merge-end line run i (suc j) t h g = absurd (omega arith)
