-- Intervals that do not count change no look's height; the same intervals in any order give the same look; more intervals never lower its height. Assumes nothing.
use Prim.Native.Nat.{ℕ, ◌≤◌, ◌<◌}
use native.Mathlib.Omega.{arith}
use mathlib.Core.Path.{◌≡◌, refl, sym, ap, ◌∙◌, subst}
use mathlib.Core.Logic.{◌⊎◌, inl, inr}
use mathlib.Core.Bool.{Bool, true, false}
use mathlib.Core.List.Memᴰ
use mathlib.Core.List.{List, [], ◌∷◌, ◌++◌, Memᴰ}
use lib.Dec.{T}
use lib.Ieee.{Float, binary64, fits, le}
use Rattle.numbers.proofs.Doubles.{k, Finite, finite}
use Rattle.numbers.proofs.RoundDown.{le-real}
use Rattle.numbers.proofs.Truth.{either, clash, below_or_not}
use Rattle.index.specs.declared.Interval.{Interval}
use Rattle.index.specs.Buckets.{keep}
use Rattle.index.specs.Intervals.{forbidden_of, counts_of, counted_of}
use Rattle.index.specs.inner.Listing.{Bounded}
use Rattle.look.specs.declared.height.Look.{Look}
use Rattle.look.specs.declared.height.Look.TheVariants.{Free, Full}
use Rattle.look.specs.height.Smallest.{inside, outside, clear_above, height_of}
use Rattle.look.specs.height.inner.Raising.{FiniteEnd, FiniteEnds, height_in}
use Rattle.look.proofs.height.SmallestHeight.{Real, real_of, le_is_true, is_lt, is_le, inside-key, outside_of, of_outside, keep_mem, mem_keep, Smallest, height_free, height_full, free_height, full_height, real-end}
use Rattle.look.proofs.height.Clear.{clear-same}
use Rattle.look.specs.Looking.{counted_in}
use Rattle.look.specs.inner.Ready.{BoundedStrips, forbidden_in}
use Rattle.look.proofs.IntervalEnds.{forbidden_finite}

-- every interval of the one list is in the other
abbrev pub Within : List Interval → List Interval → Type 0
Within is js = (i : Interval) → Memᴰ i is → Memᴰ i js

pub outside-within : (is js : List Interval) → Within is js → (z : Float) → outside js z ≡ true → outside is z ≡ true
outside-within is js w z c = of_outside is z (λ i m. outside_of js z c i (w i m))

one≢none : {y : Float} → ◌≡◌ {A = List Float} (y ∷ []) [] → ⊥
one≢none q = let z : ◌≡◌ {A = ℕ} 0 1 = cc in omega arith

module _ (yl yh : Float) (L : Finite yl) (H : Finite yh) where
  -- both full, or free at one height, each with the clear height of its own list
  abbrev Alike : List Interval → List Interval → Type 0
  Alike is js =
      ((height_of yl yh is ≡ Full) × (height_of yl yh js ≡ Full))
      ⊎ ((h : Float) × (height_of yl yh is ≡ Free h (clear_above yh is h)) × (height_of yl yh js ≡ Free h (clear_above yh js h)))

  -- two lists that leave the same heights from y-low to y-high give the same height
  pub answers : (is js : List Interval) → FiniteEnds is → FiniteEnds js
      → ((z : Float) → Real z → k yl ≤ k z → k z ≤ k yh → outside is z ≡ true → outside js z ≡ true)
      → ((z : Float) → Real z → k yl ≤ k z → k z ≤ k yh → outside js z ≡ true → outside is z ≡ true)
      → ((height_of yl yh is ≡ Full) × (height_of yl yh js ≡ Full))
      ⊎ ((h : Float) × (height_of yl yh is ≡ Free h (clear_above yh is h)) × (height_of yl yh js ≡ Free h (clear_above yh js h)))
  answers is js F G to back = go (height_of yl yh is) refl
    where
      first : (h : Float) → Smallest yl yh is h → (z : Float) → Real z → k yl ≤ k z → outside js z ≡ true → (k yh < k z) ⊎ (k z ≤ k yh) → k h ≤ k z
      first h S z Z a c (inl l) = let b = S.upto in omega arith
      first h S z Z a c (inr l) = S.first z Z a (back z Z a l c)

      go : (l : Look) → height_of yl yh is ≡ l → Alike is js
      go Full e = inl (e, full_height yl yh js L H G (λ z Z a l c. height_full yl yh is L H F e z Z a l (back z Z a l c)))
      go (Free h g) e =
          let S = height_free yl yh is L H F h g e in
          let R = real_of (finite S.number) in
          let o = to h R S.from S.upto S.out in
          inr (h, free_height yl yh is L H F h S, free_height yl yh js L H G h (record { number = S.number; from = S.from; upto = S.upto; out = o; first = λ z Z a c. first h S z Z a c (below_or_not (k yh) (k z)) }))

  pub same_height : (is js : List Interval) → FiniteEnds is → FiniteEnds js
      → ((z : Float) → Real z → k yl ≤ k z → k z ≤ k yh → outside is z ≡ true → outside js z ≡ true)
      → ((z : Float) → Real z → k yl ≤ k z → k z ≤ k yh → outside js z ≡ true → outside is z ≡ true)
      → height_in (height_of yl yh is) ≡ height_in (height_of yl yh js)
  unfolding height_in
  same_height is js F G to back = go (answers is js F G to back)
    where
      go : Alike is js → height_in (height_of yl yh is) ≡ height_in (height_of yl yh js)
      go (inl w) = ap height_in w.0 ∙ sym (ap height_in w.1)
      go (inr w) = ap height_in w.1 ∙ sym (ap height_in w.2)

  -- the same intervals, in whatever order, give the same look
  pub same_look : (is js : List Interval) → FiniteEnds is → FiniteEnds js → Within is js → Within js is → height_of yl yh is ≡ height_of yl yh js
  same_look is js F G to back =
      go (answers is js F G (λ z Z a b o. outside-within js is back z o) (λ z Z a b o. outside-within is js to z o))
    where
      go : Alike is js → height_of yl yh is ≡ height_of yl yh js
      go (inl w) = w.0 ∙ sym w.1
      go (inr w) = w.1 ∙ (ap (Free w.0) (clear-same yh w.0 H is js F G to back) ∙ sym w.2)

  -- where the heights are the same, the one look is free, or full, as the other is
  pub free_too : (is js : List Interval) → height_in (height_of yl yh is) ≡ height_in (height_of yl yh js) → (h g : Float)
      → height_of yl yh is ≡ Free h g → (c : Float) × (height_of yl yh js ≡ Free h c)
  unfolding height_in
  free_too is js s h g e = go (height_of yl yh js) refl
    where
      go : (l : Look) → height_of yl yh js ≡ l → (c : Float) × (height_of yl yh js ≡ Free h c)
      go Full f = absurd (one≢none (sym (ap height_in e) ∙ (s ∙ ap height_in f)))
      go (Free y c) f =
          let q : ◌≡◌ {A = List Float} (h ∷ []) (y ∷ []) = sym (ap height_in e) ∙ (s ∙ ap height_in f) in
          let z : y ≡ h = cc in
          (c, f ∙ ap (λ (v : Float). Free v c) z)

  pub full_too : (is js : List Interval) → height_in (height_of yl yh is) ≡ height_in (height_of yl yh js) → height_of yl yh is ≡ Full → height_of yl yh js ≡ Full
  unfolding height_in
  full_too is js s e = go (height_of yl yh js) refl
    where
      go : (l : Look) → height_of yl yh js ≡ l → height_of yl yh js ≡ Full
      go Full f = f
      go (Free y c) f = absurd (one≢none (sym (ap height_in f) ∙ (sym s ∙ ap height_in e)))

  -- an interval that does not count holds no height from y-low to y-high
  uncounted : (i : Interval) → FiniteEnd i → counts_of yl yh i ≡ false → (z : Float) → Real z → k yl ≤ k z → k z ≤ k yh → inside z i ≡ true → ⊥
  unfolding counts_of
  uncounted i I e z Z a b t =
      let q = inside-key Z (real-end I) t in
      let x = is_lt (real_of I.from) (real_of I.to) (omega (arith, q.0, q.1)) in
      let y = is_lt (real_of L) (real_of I.to) (omega (arith, q.1)) in
      let w = is_lt (real_of I.from) (real_of H) (omega (arith, q.0)) in
      clash (rw (x, y, w)) e

  pub keep_height : (is : List Interval) → FiniteEnds is → height_in (height_of yl yh (keep (counts_of yl yh) is)) ≡ height_in (height_of yl yh is)
  keep_height is F = same_height (keep (counts_of yl yh) is) is (λ i m. F i (keep_mem (counts_of yl yh) i is m).0) F
      (λ z Z a b c. of_outside is z (λ i m. at i m z Z a b c (either (counts_of yl yh i)) (either (inside z i))))
      (λ z Z a b c. outside-within (keep (counts_of yl yh) is) is (λ i m. (keep_mem (counts_of yl yh) i is m).0) z c)
    where
      at : (i : Interval) → Memᴰ i is → (z : Float) → Real z → k yl ≤ k z → k z ≤ k yh → outside (keep (counts_of yl yh) is) z ≡ true → (counts_of yl yh i ≡ true) ⊎ (counts_of yl yh i ≡ false) → (inside z i ≡ true) ⊎ (inside z i ≡ false) → inside z i ≡ false
      at i m z Z a b c (inl e) t = outside_of (keep (counts_of yl yh) is) z c i (mem_keep (counts_of yl yh) i is m e)
      at i m z Z a b c (inr e) (inl t) = absurd (uncounted i (F i m) e z Z a b t)
      at i m z Z a b c (inr e) (inr t) = t

  -- more intervals leave full what is full
  pub more_full : (is js : List Interval) → FiniteEnds is → FiniteEnds js → Within is js → height_of yl yh is ≡ Full → height_of yl yh js ≡ Full
  more_full is js F G w e = full_height yl yh js L H G (λ z Z a b c. height_full yl yh is L H F e z Z a b (outside-within is js w z c))

  -- and never lower the height
  pub more_higher : (is js : List Interval) → FiniteEnds is → FiniteEnds js → Within is js → (h c g d : Float) → height_of yl yh is ≡ Free h c → height_of yl yh js ≡ Free g d → le h g ≡ true
  more_higher is js F G w h c g d e f =
      let S = height_free yl yh is L H F h c e in
      let R = height_free yl yh js L H G g d f in
      is_le (real_of (finite S.number)) (real_of (finite R.number)) (S.first g (real_of (finite R.number)) R.from (outside-within is js w g R.out))

-- ---- of a look
keep_append : (test : Interval → Bool) (is js : List Interval) → keep test (is ++ js) ≡ keep test is ++ keep test js
keep_append test is js = Rattle.index.proofs.Flat.keep_append test is js

pub counted_is : (x yl yh : Float) (inset apart sheet placed : List Float) → keep (counts_of yl yh) (forbidden_in x inset apart sheet placed) ≡ counted_in x yl yh inset apart sheet placed
unfolding forbidden_in counted_in counted_of
counted_is x yl yh inset apart sheet placed = keep_append (counts_of yl yh) (forbidden_of sheet inset x) (forbidden_of placed apart x)

module _ (x yl yh : Float) (inset apart sheet placed : List Float) (L : Finite yl) (H : Finite yh) (X : Bounded 3000000 x)
    (I : BoundedStrips inset) (A : BoundedStrips apart) (S : BoundedStrips sheet) (P : BoundedStrips placed) where
  pub all_finite : FiniteEnds (forbidden_in x inset apart sheet placed)
  unfolding forbidden_in
  all_finite i m = go (Memᴰ.append_cases (forbidden_of sheet inset x) m)
    where
      go : Memᴰ i (forbidden_of sheet inset x) ⊎ Memᴰ i (forbidden_of placed apart x) → FiniteEnd i
      go (inl n) = forbidden_finite sheet inset x S I X i n
      go (inr n) = forbidden_finite placed apart x P A X i n

  pub counted_finite : FiniteEnds (counted_in x yl yh inset apart sheet placed)
  counted_finite = rw (← counted_is x yl yh inset apart sheet placed) (λ i m. all_finite i (keep_mem (counts_of yl yh) i (forbidden_in x inset apart sheet placed) m).0)

  -- the counted intervals give the height of all forbidden ones
  pub counted_height : height_in (height_of yl yh (counted_in x yl yh inset apart sheet placed)) ≡ height_in (height_of yl yh (forbidden_in x inset apart sheet placed))
  counted_height = rw (← counted_is x yl yh inset apart sheet placed) (keep_height yl yh L H (forbidden_in x inset apart sheet placed) all_finite)

  -- where the look is free, its height is the smallest of all doubles from y-low on that lie in no forbidden interval of any pair, counted or not
  pub free_smallest : (h g : Float) → height_of yl yh (counted_in x yl yh inset apart sheet placed) ≡ Free h g
      → (le yl h ≡ true) × (le h yh ≡ true) × (outside (forbidden_in x inset apart sheet placed) h ≡ true)
      × ((z : Float) → T (fits binary64 z) → le yl z ≡ true → outside (forbidden_in x inset apart sheet placed) z ≡ true → le h z ≡ true)
  free_smallest h g e =
      let q = free_too yl yh L H (counted_in x yl yh inset apart sheet placed) (forbidden_in x inset apart sheet placed) counted_height h g e in
      let R = height_free yl yh (forbidden_in x inset apart sheet placed) L H all_finite h q.0 q.1 in
      let r = real_of (finite R.number) in
      (is_le (real_of L) r R.from, is_le r (real_of H) R.upto, R.out, λ z f l c. (let Z = no_nan z f l in is_le r Z (R.first z Z (le_is_true (real_of L) Z l) c)))
    where
      no_nan : (z : Float) → T (fits binary64 z) → le yl z ≡ true → Real z
      no_nan z f l = record { fit = f; is_real = le-real yl z (subst T (sym l) tt) }

  -- where it is full, no double from y-low to y-high lies in none
  pub full_none : height_of yl yh (counted_in x yl yh inset apart sheet placed) ≡ Full
      → (z : Float) → T (fits binary64 z) → le yl z ≡ true → le z yh ≡ true → outside (forbidden_in x inset apart sheet placed) z ≡ true → ⊥
  full_none e z f l g c =
      let Z : Real z = record { fit = f; is_real = le-real yl z (subst T (sym l) tt) } in
      height_full yl yh (forbidden_in x inset apart sheet placed) L H all_finite (full_too yl yh L H (counted_in x yl yh inset apart sheet placed) (forbidden_in x inset apart sheet placed) counted_height e) z Z (le_is_true (real_of L) Z l) (le_is_true Z (real_of H) g) c
