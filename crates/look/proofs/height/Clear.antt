-- The clear height above a free height (document 02, W7): it depends on which intervals there are and not on their order, and it is a
-- finite double of at least zero and at most y_high minus the height. Assumes nothing.
use Prim.Native.Nat.{ℕ, suc, ◌+◌, ◌-◌, ◌*◌, ◌≤◌, ◌<◌, ◌^◌}
use native.Mathlib.Omega.{arith}
use native.Mathlib.Numerals.{add-one}
use mathlib.Core.Path.{◌≡◌, refl, sym, ap, ◌∙◌, subst}
use mathlib.Core.Logic.{◌⊎◌, inl, inr}
use mathlib.Core.Bool.{Bool, true, false}
use mathlib.Core.List.Memᴰ
use mathlib.Core.List.{List, [], ◌∷◌, map, Memᴰ}
use lib.Ieee.{Float, le}
use Rattle.numbers.specs.Numbers.{◌⊖◌, smaller, plus_zero}
use Rattle.numbers.proofs.Doubles.{k, o, u, Finite, Number, Upto, finite, same, sub_upto, sub_nonneg, sub_number}
use Rattle.numbers.proofs.Patterns.{plus-number}
use Rattle.index.specs.declared.Interval.{Interval}
use Rattle.index.specs.Buckets.{keep, up_from}
use Rattle.index.specs.inner.Listing.{interval_at, intervals}
use Rattle.numbers.proofs.Truth.{either}
use Rattle.index.proofs.Steps.{keep_yes, keep_no, keep-none}
use Rattle.look.specs.height.Smallest.{least, next_bottom, clear_above}
use Rattle.look.specs.height.inner.Raising.{lower, lowered, Rearranged, FiniteEnds}
use Rattle.look.proofs.height.SmallestHeight.{real_of, le_is_true, keep_mem, mem_keep, least_is, least_bottom}
use Rattle.index.proofs.Flat.{mem-map, map_mem}
use Rattle.look.proofs.height.Rearranging.{mem_intervals, intervals_mem}

-- ---- the loop is the definition
pub lower_yes : (h b : Float) (i : Interval) → le h i.from ≡ true → smaller b i.from ≡ lower h b i
unfolding lower
lower_yes h b i e = rw (e, lower)

pub lower_no : (h b : Float) (i : Interval) → le h i.from ≡ false → b ≡ lower h b i
unfolding lower
lower_no h b i e = rw (e, lower)

abbrev bottoms : List Interval → List Float
bottoms is = map (λ (i : Interval). i.from) is

lowered_is : (h b : Float) (is : List Interval) → lowered h b is ≡ least b (keep (λ (c : Float). le h c) (bottoms is))
unfolding lowered least
lowered_is h b [] = sym (ap (least b) (keep-none (λ (c : Float). le h c)))
lowered_is h b (i ∷ is) = go (either (le h i.from)) (lowered_is h (lower h b i) is)
  where
    go : (le h i.from ≡ true) ⊎ (le h i.from ≡ false) → lowered h (lower h b i) is ≡ least (lower h b i) (keep (λ (c : Float). le h c) (bottoms is)) → lowered h (lower h b i) is ≡ least b (keep (λ (c : Float). le h c) (i.from ∷ bottoms is))
    go (inl e) r = r ∙ (ap (λ (z : Float). least z (keep (λ (c : Float). le h c) (bottoms is))) (sym (lower_yes h b i e)) ∙ sym (ap (least b) (keep_yes (λ (c : Float). le h c) i.from (bottoms is) e)))
    go (inr e) r = r ∙ (ap (λ (z : Float). least z (keep (λ (c : Float). le h c) (bottoms is))) (sym (lower_no h b i e)) ∙ sym (ap (least b) (keep_no (λ (c : Float). le h c) i.from (bottoms is) e)))

pub lowered_bottom : (h y_high : Float) (is : List Interval) → lowered h y_high is ≡ next_bottom y_high is h
unfolding next_bottom
lowered_bottom h y_high is = lowered_is h y_high is

module _ (r : List Float) (h : Float) where
  pub lower_on : (n c : ℕ) (b : Float) → c < n → lowered h b (map (interval_at r) (up_from (n - c) c)) ≡ lowered h (lower h b (interval_at r c)) (map (interval_at r) (up_from (n - (c + 1)) (c + 1)))
  unfolding lowered up_from
  lower_on n c b l = let e : n - c ≡ suc (n - (c + 1)) = omega arith in rw (e, add-one c)

  pub lower-end : (n c : ℕ) (b : Float) → n ≤ c → lowered h b (map (interval_at r) (up_from (n - c) c)) ≡ b
  unfolding lowered up_from
  lower-end n c b l = let e : n - c ≡ 0 = omega arith in rw e

pub clear_is : (yh : Float) (is : List Interval) (h b q : Float) → b ≡ next_bottom yh is h → q ≡ plus_zero b → q ⊖ h ≡ clear_above yh is h
unfolding clear_above
clear_is yh is h b q e f = ap (λ (z : Float). z ⊖ h) (f ∙ ap plus_zero e)

-- ---- which bottoms there are
module _ (yh h : Float) (H : Finite yh) where
  test : Float → Bool
  test b = le h b

  module _ (is : List Interval) (F : FiniteEnds is) where
    bottom_finite : (d : Float) → Memᴰ d (yh ∷ keep (λ b. le h b) (bottoms is)) → Finite d
    bottom_finite d m = go (Memᴰ.cases_cons m)
      where
        from : ((i : Interval) × Memᴰ i is × (d ≡ i.from)) → Finite d
        from w = rw w.2 (F w.0 w.1).from

        go : (d ≡ yh) ⊎ Memᴰ d (keep (λ b. le h b) (bottoms is)) → Finite d
        go (inl e) = rw e H
        go (inr n) = from (map_mem (λ (i : Interval). i.from) d is (keep_mem (λ b. le h b) d (bottoms is) n).0)

    pub next_finite : Finite (next_bottom yh is h)
    unfolding next_bottom
    next_finite = bottom_finite (least yh (keep (λ b. le h b) (bottoms is))) (least_is yh (keep (λ b. le h b) (bottoms is)))

    -- no bottom at or above h is lower, nor is y_high
    pub next_low : (d : Float) → Memᴰ d (yh ∷ keep (λ b. le h b) (bottoms is)) → k (next_bottom yh is h) ≤ k d
    unfolding next_bottom
    next_low d m = least_bottom yh (keep (λ b. le h b) (bottoms is)) bottom_finite d m

    -- it is y_high or one of them
    pub next_one : Memᴰ (next_bottom yh is h) (yh ∷ keep (λ b. le h b) (bottoms is))
    unfolding next_bottom
    next_one = least_is yh (keep (λ b. le h b) (bottoms is))

  among : (is js : List Interval) → ((i : Interval) → Memᴰ i is → Memᴰ i js) → (d : Float) → Memᴰ d (yh ∷ keep (λ b. le h b) (bottoms is)) → Memᴰ d (yh ∷ keep (λ b. le h b) (bottoms js))
  among is js w d m = go (Memᴰ.cases_cons m)
    where
      found : ((i : Interval) × Memᴰ i is × (d ≡ i.from)) → le h d ≡ true → Memᴰ d (keep (λ b. le h b) (bottoms js))
      found q t = mem_keep (λ b. le h b) d (bottoms js) (rw q.2 (mem-map (λ (i : Interval). i.from) q.0 js (w q.0 q.1))) t

      go : (d ≡ yh) ⊎ Memᴰ d (keep (λ b. le h b) (bottoms is)) → Memᴰ d (yh ∷ keep (λ b. le h b) (bottoms js))
      go (inl e) = Memᴰ.head e
      go (inr n) = let q = keep_mem (λ b. le h b) d (bottoms is) n in Memᴰ.tail (found (map_mem (λ (i : Interval). i.from) d is q.0) q.1)

  -- the same intervals in another order, or some of them twice, leave the same clear height
  pub clear-same : (is js : List Interval) → FiniteEnds is → FiniteEnds js → ((i : Interval) → Memᴰ i is → Memᴰ i js) → ((i : Interval) → Memᴰ i js → Memᴰ i is) → clear_above yh is h ≡ clear_above yh js h
  unfolding clear_above
  clear-same is js F G to back =
      let a = next_low js G (next_bottom yh is h) (among is js to (next_bottom yh is h) (next_one is F)) in
      let b = next_low is F (next_bottom yh js h) (among js is back (next_bottom yh js h) (next_one js G)) in
      let p = plus-number (next_bottom yh is h) (next_finite is F) in
      let q = plus-number (next_bottom yh js h) (next_finite js G) in
      ap (λ (z : Float). z ⊖ h) (same p.0 q.0 (omega (arith, p.1, q.1)))

  pub clear-rearranged : (n : ℕ) (r s : List Float) → Rearranged n r s → FiniteEnds (intervals r n) → clear_above yh (intervals s n) h ≡ clear_above yh (intervals r n) h
  clear-rearranged n r s A F = clear-same (intervals s n) (intervals r n) (λ i m. F i (back i m)) F back to
    where
      back : (i : Interval) → Memᴰ i (intervals s n) → Memᴰ i (intervals r n)
      back i m = let w = intervals_mem s n i m in let a = A.back w.0 w.1 in rw (w.2 ∙ a.2) (mem_intervals r n a.0 a.1)

      to : (i : Interval) → Memᴰ i (intervals r n) → Memᴰ i (intervals s n)
      to i m = let w = intervals_mem r n i m in let a = A.to w.0 w.1 in rw (w.2 ∙ a.2) (mem_intervals s n a.0 a.1)

-- ---- the next bottom lies from h to y_high, and the clear height is no less than zero
module _ (yh h : Float) (H : Finite yh) (X : Finite h) (below : k h ≤ k yh) (is : List Interval) (F : FiniteEnds is) where
  pub next-above : k h ≤ k (next_bottom yh is h)
  next-above = go (Memᴰ.cases_cons (next_one yh h H is F))
    where
      go : (next_bottom yh is h ≡ yh) ⊎ Memᴰ (next_bottom yh is h) (keep (λ b. le h b) (bottoms is)) → k h ≤ k (next_bottom yh is h)
      go (inl e) = let z : k (next_bottom yh is h) ≡ k yh = ap k e in omega arith
      go (inr m) = le_is_true (real_of X) (real_of (next_finite yh h H is F)) (keep_mem (λ b. le h b) (next_bottom yh is h) (bottoms is) m).1

  pub next-below : k (next_bottom yh is h) ≤ k yh
  next-below = next_low yh h H is F yh (Memᴰ.head refl)

  between : (m a b c d : ℕ) → m ≤ a + d → a ≤ b → b ≤ c → c ≤ m + d → (m ≤ b + d) × (b ≤ m + d)
  between m a b c d p q r s = (omega arith, omega arith)

  -- of numbers of at most n either way: finite, no minus zero, at least zero, at most 2 n
  pub clear-number : (n : ℕ) → Upto n yh → Upto n h → n + n ≤ 2 ^ 53 → Number (clear_above yh is h) × (o ≤ k (clear_above yh is h)) × Upto (n + n) (clear_above yh is h)
  unfolding clear_above
  clear-number n U Y l =
      let p = plus-number (next_bottom yh is h) (next_finite yh h H is F) in
      let B = between o (k h) (k (next_bottom yh is h)) (k yh) (n * u) Y.at_least next-above next-below U.at_most in
      let W : Upto n (plus_zero (next_bottom yh is h)) = record { at_least = subst (λ (z : ℕ). o ≤ z + n * u) (sym p.1) B.0; at_most = subst (λ (z : ℕ). z ≤ o + n * u) (sym p.1) B.1 } in
      let r = sub_upto (finite p.0) X W Y l in
      (sub_number p.0 X r.0, sub_nonneg (finite p.0) X (subst (λ (z : ℕ). k h ≤ z) (sym p.1) next-above), r.1)
