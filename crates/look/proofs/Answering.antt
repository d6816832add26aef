-- What the room holds after both listings gives the look of the definition. Assumes nothing.
use Rattle.std.specs.Prelude.{Ok, Err}
use Prim.Native.Nat.{ℕ, ◌+◌, ◌/◌, ◌≤◌, ◌<◌}
use native.Mathlib.Omega.{arith}
use mathlib.Core.Path.{◌≡◌, sym, ap, ◌∙◌}
use mathlib.Core.Logic.{◌⊎◌, inl, inr}
use mathlib.Core.List.Permᴰ
use mathlib.Core.List.{List, ◌++◌, Permᴰ}
use lib.ListN.{length}
use lib.Dec.{lit≤}
use lib.Ieee.{Float}
use borrow.Author.Tests.{lt-ltb, le-ltb}
use Rattle.numbers.proofs.Doubles.{k, Finite}
use Rattle.numbers.proofs.Truth.{below_or_not}
use Rattle.trapezoid.specs.Strip.{strip_at, capacity}
use Rattle.index.specs.declared.Interval.{Interval}
use Rattle.index.specs.declared.Index.{Index}
use Rattle.index.specs.Intervals.{counted_of}
use Rattle.index.specs.inner.Listing.{Collected, collected, push_all, intervals, listed, Usable, Laid, Bounded}
use Rattle.index.proofs.Steps.{push_all_append}
use Rattle.index.proofs.Flat.{perm_length, perm_mem, perm_append}
use Rattle.index.proofs.Listed.{listed_perm, laid_usable}
use Rattle.index.proofs.Collecting.{push-fits, push_over}
use Rattle.look.specs.height.Smallest.{height_of}
use Rattle.look.specs.height.inner.Raising.{FiniteEnds}
use Rattle.index.specs.declared.Overrun.TheVariants.{IntervalRoom}
use Rattle.look.specs.Looking.{counted_in}
use Rattle.look.specs.inner.Ready.{BoundedStrips, Lookable, answer_of}
use Rattle.look.proofs.IntervalEnds.{widen, moved-x0, moved-x1}
use Rattle.look.proofs.Counted.{same_look, counted_finite}
use Rattle.look.specs.declared.height.Look.{Look}

answer_over : (cap : ℕ) (yl yh : Float) (is : List Interval) → cap < length is → answer_of cap yl yh is ≡ Err IntervalRoom
unfolding answer_of
answer_over cap yl yh is h = rw (lt-ltb cap (length is) h, answer_of)

answer-fits : (cap : ℕ) (yl yh : Float) (is : List Interval) → length is ≤ cap → answer_of cap yl yh is ≡ Ok (height_of yl yh is)
unfolding answer_of
answer-fits cap yl yh is h = rw (le-ltb cap (length is) h, answer_of)

module _ (r r' : List Float) (n : ℕ) (l is : List Interval) (E : collected r' n ≡ push_all (collected r 0) l) (P : Permᴰ l is) where
  counts-right : n ≤ length r / 2 → length l ≤ length r / 2
  counts-right h = go (below_or_not (length r / 2) (length l))
    where
      no : length r / 2 < length l → n ≡ length r / 2 + 1
      no g = ap (λ (k : Collected). k.n) E ∙ push_over l r 0 (omega arith) (omega arith)

      go : (length r / 2 < length l) ⊎ (length l ≤ length r / 2) → length l ≤ length r / 2
      go (inl g) = let e = no g in omega arith
      go (inr g) = g

  over : length r / 2 < n → length r / 2 < length l
  over h = go (below_or_not (length r / 2) (length l))
    where
      fits : length l ≤ length r / 2 → n ≡ length l
      fits g = let e : 0 + length l ≡ length l = omega arith in ap (λ (k : Collected). k.n) E ∙ (push-fits l r 0 (omega arith)).0 ∙ e

      go : (length r / 2 < length l) ⊎ (length l ≤ length r / 2) → length r / 2 < length l
      go (inl g) = g
      go (inr g) = let e = fits g in omega arith

  holds : n ≤ length r / 2 → intervals r' n ≡ l
  unfolding intervals Rattle.index.specs.Buckets.up_from
  holds h =
      let g = counts-right h in
      let f = push-fits l r 0 (omega arith) in
      let a : intervals r' n ≡ intervals (push_all (collected r 0) l).room (push_all (collected r 0) l).n = ap (λ (k : Collected). intervals k.room k.n) E in
      a ∙ (ap (intervals (push_all (collected r 0) l).room) f.0 ∙ f.1)

  module _ (yl yh : Float) (L : Finite yl) (H : Finite yh) (G : FiniteEnds is) where
    pub holds_finite : n ≤ length r / 2 → FiniteEnds (intervals r' n)
    holds_finite h = rw (holds h) (λ i m. G i (perm_mem P i m))

    pub refused : length r / 2 < n → Err IntervalRoom ≡ answer_of (length r / 2) yl yh is
    refused h = sym (answer_over (length r / 2) yl yh is (let a = over h in omega (arith, perm_length P)))

    pub seen : n ≤ length r / 2 → (v : Look) → v ≡ height_of yl yh (intervals r' n) → Ok v ≡ answer_of (length r / 2) yl yh is
    seen h v e =
        let c = counts-right h in
        let same = same_look yl yh L H l is (λ i m. G i (perm_mem P i m)) G (λ i m. perm_mem P i m) (λ i m. perm_mem (Permᴰ.symm P) i m) in
        ap Ok (e ∙ (ap (height_of yl yh) (holds h) ∙ same)) ∙ sym (answer-fits (length r / 2) yl yh is (omega (arith, perm_length P)))

-- ---- of a look
module _ (ix : Index) (x yl yh : Float) (inset apart sheet placed : List Float) (se ss pe ps : List ℕ) (A : Lookable ix x yl yh inset apart sheet placed se ss pe ps) where
  abbrev pub lists : List Interval
  lists = listed ix yl yh sheet se ss inset x (capacity inset) 0 ++ listed ix yl yh placed pe ps apart x (capacity apart) 0

  wide : {y : Float} → Bounded 1000000 y → Bounded 4000000 y
  wide s = widen 1000000 4000000 (lit≤ tt) s

  part : (standing moving : List Float) (e s : List ℕ) → Laid ix standing (capacity standing) e s → BoundedStrips standing → BoundedStrips moving → Permᴰ (listed ix yl yh standing e s moving x (capacity moving) 0) (counted_of yl yh standing moving x)
  part standing moving e s L S M =
      listed_perm ix A.index standing e s L (λ i h. wide (S i h).x0) (λ i h. wide (S i h).x1) yl yh moving x
      (λ j h. moved-x0 (strip_at moving j) x (M j h) A.column yl yh) (λ j h. moved-x1 (strip_at moving j) x (M j h) A.column yl yh)

  -- the index lists exactly the counted intervals of all pairs, each once
  pub look_perm : Permᴰ lists (counted_in x yl yh inset apart sheet placed)
  unfolding counted_in
  look_perm = perm_append (part sheet inset se ss A.sheet_laid A.sheets A.insets) (part placed apart pe ps A.placed_laid A.places A.aparts)

  pub look_finite : FiniteEnds (counted_in x yl yh inset apart sheet placed)
  look_finite = counted_finite x yl yh inset apart sheet placed A.low A.high A.column A.insets A.aparts A.sheets A.places

  usable : (standing : List Float) (e s : List ℕ) → Laid ix standing (capacity standing) e s → BoundedStrips standing → Usable standing e s
  usable standing e s L S = laid_usable ix A.index standing (capacity standing) e s L (λ i h. wide (S i h).x0) (λ i h. wide (S i h).x1)

  pub sheet_usable : Usable sheet se ss
  sheet_usable = usable sheet se ss A.sheet_laid A.sheets

  pub placed_usable : Usable placed pe ps
  placed_usable = usable placed pe ps A.placed_laid A.places

-- the two calls as one
pub both_pushed : (r r' r'' : List Float) (m n : ℕ) (k l : List Interval) → collected r' m ≡ push_all (collected r 0) k → collected r'' n ≡ push_all (collected r' m) l → collected r'' n ≡ push_all (collected r 0) (k ++ l)
both_pushed r r' r'' m n k l d e = e ∙ ap (λ (h : Collected). push_all h l) d ∙ sym (push_all_append (collected r 0) k l)
