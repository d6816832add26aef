-- The ends of the forbidden intervals of bounded strips are finite. Assumes nothing.
use Prim.Native.Nat.{ℕ, ◌+◌, ◌*◌, ◌≤◌, ◌<◌}
use native.Mathlib.Omega.{arith}
use mathlib.Core.Path.{◌≡◌}
use mathlib.Core.Logic.{◌⊎◌, inl, inr}
use mathlib.Core.Bool.{Bool, true, false, not, cond}
use mathlib.Core.List.Memᴰ
use mathlib.Core.List.{List, [], ◌∷◌, flat_map, Memᴰ}
use lib.Dec.{T, lit≤}
use lib.Ieee.{Float, lt, le}
use Rattle.numbers.specs.Numbers.{◌⊕◌, ◌⊖◌, ◌⊘◌, smaller, larger}
use Rattle.numbers.proofs.Doubles.{k, o, u, le_no, add_upto, sub_upto, sub_mono, sub-pos, sub_nonneg, div_share, share_upto, above_zero}
use Rattle.numbers.proofs.Truth.{either}
use Rattle.trapezoid.specs.declared.Trapezoid.{Trapezoid}
use Rattle.trapezoid.specs.declared.Heights.{Heights}
use Rattle.trapezoid.specs.Strip.{strip_at, capacity, heights_at, between}
use Rattle.index.specs.declared.Interval.{Interval}
use Rattle.index.specs.Buckets.{up_from}
use Rattle.index.specs.Intervals.{interval_of, meeting_of, interval_in, forbidden_of}
use Rattle.index.specs.inner.Listing.{moving_of, Bounded}
use Rattle.index.proofs.Flat.{up_from_mem, flat_map_mem}
use Rattle.look.specs.height.inner.Raising.{FiniteEnd, FiniteEnds}
use Rattle.look.specs.inner.Ready.{BoundedStrip, BoundedStrips}

pub widen : (a b : ℕ) {x : Float} → a ≤ b → Bounded a x → Bounded b x
widen a b {x} h s = record { fine = s.fine; bound = record { at_least = z o (k x) (a * u) (b * u) (native.Mathlib.Nat.mul-le-mul_right u h) s.bound.at_least; at_most = y o (k x) (a * u) (b * u) (native.Mathlib.Nat.mul-le-mul_right u h) s.bound.at_most } }
  where
    z : (m k a b : ℕ) → a ≤ b → m ≤ k + a → m ≤ k + b
    z m k a b h l = omega arith

    y : (m k a b : ℕ) → a ≤ b → k ≤ m + a → k ≤ m + b
    y m k a b h l = omega arith

pub add-bounded : (a b : ℕ) {x y : Float} → a + b ≤ 9007199254740992 → Bounded a x → Bounded b y → Bounded (a + b) (x ⊕ y)
add-bounded a b h X Y = let r = add_upto X.fine Y.fine X.bound Y.bound h in record { fine = r.0; bound = r.1 }

pub sub-bounded : (a b : ℕ) {x y : Float} → a + b ≤ 9007199254740992 → Bounded a x → Bounded b y → Bounded (a + b) (x ⊖ y)
sub-bounded a b h X Y = let r = sub_upto X.fine Y.fine X.bound Y.bound h in record { fine = r.0; bound = r.1 }

pub smaller-bounded : {n : ℕ} {x y : Float} → Bounded n x → Bounded n y → Bounded n (smaller x y)
unfolding smaller
smaller-bounded {n} {x} {y} X Y = go (lt y x)
  where
    go : (t : Bool) → Bounded n (cond t y x)
    go true = Y
    go false = X

pub larger-bounded : {n : ℕ} {x y : Float} → Bounded n x → Bounded n y → Bounded n (larger x y)
unfolding larger
larger-bounded {n} {x} {y} X Y = go (lt x y)
  where
    go : (t : Bool) → Bounded n (cond t y x)
    go true = Y
    go false = X

-- a side between its ends
between-bounded : {x0 x1 a b x : Float} → Bounded 1000000 x0 → Bounded 1000000 x1 → Bounded 1000000 a → Bounded 1000000 b → Bounded 7000000 x → k x0 < k x → k x < k x1
    → Bounded 3000000 (between ((x ⊖ x0) ⊘ (x1 ⊖ x0)) a b)
between-bounded X0 X1 A B X h l =
    let dx = sub_upto X.fine X0.fine X.bound X0.bound (lit≤ tt) in
    let dw = sub_upto X1.fine X0.fine X1.bound X0.bound (lit≤ tt) in
    let dy = sub_upto B.fine A.fine B.bound A.bound (lit≤ tt) in
    let t = div_share (above_zero dx.0 (sub-pos X.fine X0.fine h)) dw.0 (sub-pos X1.fine X0.fine (omega arith)) (sub_nonneg X.fine X0.fine (omega arith)) (sub_mono X.fine X0.fine X1.fine X0.fine (omega arith)) in
    let s = share_upto t dy.0 dy.1 (lit≤ tt) in
    let r = add_upto A.fine s.0 A.bound s.1 (lit≤ tt) in
    record { fine = r.0; bound = r.1 }

pub record BoundedHeights (e : Heights) : Type 0 where
  pub low : Bounded 3000000 e.low
  pub high : Bounded 3000000 e.high

pub heights_bounded : (p : Trapezoid) (x : Float) → BoundedStrip p → Bounded 7000000 x → BoundedHeights (heights_at p x)
unfolding heights_at
heights_bounded p x P X = go (le x p.x0) (le p.x1 x) (le_no X.fine P.x0.fine) (le_no P.x1.fine X.fine)
  where
    up : {y : Float} → Bounded 1000000 y → Bounded 3000000 y
    up s = widen 1000000 3000000 (lit≤ tt) s

    t : Float
    t = (x ⊖ p.x0) ⊘ (p.x1 ⊖ p.x0)

    go : (a b : Bool) → (T (not a) → k p.x0 < k x) → (T (not b) → k x < k p.x1) → BoundedHeights (cond a (record { low = p.low0; high = p.high0 })
        (cond b (record { low = p.low1; high = p.high1 })
        (record {
          low = between ((x ⊖ p.x0) ⊘ (p.x1 ⊖ p.x0)) p.low0 p.low1;
          high = between ((x ⊖ p.x0) ⊘ (p.x1 ⊖ p.x0)) p.high0 p.high1;
        })))
    go true b f g = record { low = up P.low0; high = up P.high0 }
    go false true f g = record { low = up P.low1; high = up P.high1 }
    go false false f g = record { low = between-bounded P.x0 P.x1 P.low0 P.low1 X (f tt) (g tt); high = between-bounded P.x0 P.x1 P.high0 P.high1 X (f tt) (g tt) }

module _ (q : Trapezoid) (x : Float) (Q : BoundedStrip q) (X : Bounded 3000000 x) where
  pub moved-x0 : (yl yh : Float) → Bounded 4000000 (moving_of q x yl yh).x0
  unfolding moving_of
  moved-x0 yl yh = add-bounded 1000000 3000000 (lit≤ tt) Q.x0 X

  pub moved-x1 : (yl yh : Float) → Bounded 4000000 (moving_of q x yl yh).x1
  unfolding moving_of
  moved-x1 yl yh = add-bounded 1000000 3000000 (lit≤ tt) Q.x1 X

  -- both ends of a pair's interval
  ends : (p : Trapezoid) → BoundedStrip p → (a b : Float) → Bounded 4000000 a → Bounded 4000000 b → FiniteEnd (interval_of (heights_at p a) (heights_at p b) (heights_at q (a ⊖ x)) (heights_at q (b ⊖ x)))
  unfolding interval_of
  ends p P a b A B =
      let pa = heights_bounded p a P (widen 4000000 7000000 (lit≤ tt) A) in
      let pb = heights_bounded p b P (widen 4000000 7000000 (lit≤ tt) B) in
      let qa = heights_bounded q (a ⊖ x) Q (sub-bounded 4000000 3000000 (lit≤ tt) A X) in
      let qb = heights_bounded q (b ⊖ x) Q (sub-bounded 4000000 3000000 (lit≤ tt) B X) in
      record {
        from = (smaller-bounded (sub-bounded 3000000 3000000 (lit≤ tt) pa.low qa.high) (sub-bounded 3000000 3000000 (lit≤ tt) pb.low qb.high)).fine;
        to = (larger-bounded (sub-bounded 3000000 3000000 (lit≤ tt) pa.high qa.low) (sub-bounded 3000000 3000000 (lit≤ tt) pb.high qb.low)).fine;
      }

  pair_finite : (p : Trapezoid) → BoundedStrip p → FiniteEnds (interval_in (meeting_of q x p))
  pair_finite p P i m = go (either (lt a b))
    where
      a : Float
      a = larger p.x0 (q.x0 ⊕ x)

      b : Float
      b = smaller p.x1 (q.x1 ⊕ x)

      A : Bounded 4000000 a
      A = larger-bounded (widen 1000000 4000000 (lit≤ tt) P.x0) (add-bounded 1000000 3000000 (lit≤ tt) Q.x0 X)

      B : Bounded 4000000 b
      B = smaller-bounded (widen 1000000 4000000 (lit≤ tt) P.x1) (add-bounded 1000000 3000000 (lit≤ tt) Q.x1 X)

      j : Interval
      j = interval_of (heights_at p a) (heights_at p b) (heights_at q (a ⊖ x)) (heights_at q (b ⊖ x))

      over : lt a b ≡ true → interval_in (meeting_of q x p) ≡ j ∷ []
      over e = unfold meeting_of interval_in in rw (e, meeting_of)

      none : lt a b ≡ false → interval_in (meeting_of q x p) ≡ []
      none e = unfold meeting_of interval_in in rw (e, meeting_of)

      one : (i ≡ j) ⊎ Memᴰ i [] → FiniteEnd i
      one (inl e) = rw e (ends p P a b A B)
      one (inr n) = absurd (Memᴰ.not-nil n)

      go : (lt a b ≡ true) ⊎ (lt a b ≡ false) → FiniteEnd i
      go (inl e) = one (Memᴰ.cases_cons (rw (over e) at m))
      go (inr e) = absurd (Memᴰ.not-nil (rw (none e) at m))

pub forbidden_finite : (standing moving : List Float) (x : Float) → BoundedStrips standing → BoundedStrips moving → Bounded 3000000 x → FiniteEnds (forbidden_of standing moving x)
unfolding forbidden_of
forbidden_finite standing moving x S M X i h =
    let a = flat_map_mem (λ j. flat_map (λ i. interval_in (meeting_of (strip_at moving j) x (strip_at standing i))) (up_from (capacity standing) 0)) i (up_from (capacity moving) 0) h in
    let b = flat_map_mem (λ i. interval_in (meeting_of (strip_at moving a.0) x (strip_at standing i))) i (up_from (capacity standing) 0) a.2 in
    pair_finite (strip_at moving a.0) x (M a.0 (below a.0 (capacity moving) (up_from_mem (capacity moving) 0 a.0 a.1).1)) X (strip_at standing b.0) (S b.0 (below b.0 (capacity standing) (up_from_mem (capacity standing) 0 b.0 b.1).1)) i b.2
  where
    below : (j n : ℕ) → j < 0 + n → j < n
    below j n l = omega arith
