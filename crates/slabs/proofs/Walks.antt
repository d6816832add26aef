-- Laws of winding, counted from a base, and of the walk over a slab's crossings. Assumes nothing.
use Prim.Native.Nat.{ℕ, zero, suc, ◌+◌, ◌-◌, ◌≤◌, ◌<◌}
use native.Mathlib.Omega.{arith}
use native.Mathlib.Numerals.{add-one}
use mathlib.Core.Path.{◌≡◌, refl, ap, sym, ◌∙◌}
use mathlib.Core.List.{List}
use mathlib.Core.Bool.{Bool, true, false, not, ◌&&◌, cond}
use lib.Dec.{ltb, leb}
use lib.IntN.{ℤ, pos, negsuc, ◌+ℤ◌, ◌-ℤ◌, neg_ℤ, suc_ℤ-+ℤ, pred_ℤ-+ℤ, +ℤ_one, -ℤ_one, sub_ℕ}
use lib.Ieee.{Float, lt}
use borrow.Author.Tests.{lt-ltb, le-ltb, ltb-true, ltb-false, le-leb, lt-leb}
use Rattle.trapezoid.specs.declared.Trapezoid.{Trapezoid}
use Rattle.slabs.specs.declared.Row.{Row}
use Rattle.slabs.specs.Slab.{Crossing, positive, strip, piece, runs, walk}
use Rattle.slabs.specs.inner.Tables.{down, row_at, crossing_of, crossing_at, zero_bits, Held, hold}
use Rattle.slabs.proofs.Sorting.{down-zero}
use Rattle.slabs.proofs.Storing.{hold_append}

-- ---- whole numbers
positive-pos : (n : ℕ) → positive (pos n) ≡ ltb 0 n
unfolding positive
positive-pos zero = refl
positive-pos (suc n) = sym (lt-ltb 0 (suc n) (omega arith))

below : (n : ℕ) → positive (negsuc n) ≡ false
unfolding positive
below n = refl

positive-sub : (w m : ℕ) → positive (sub_ℕ w m) ≡ ltb m w
positive-sub w m = go (ltb w m) refl
  where
    go : (t : Bool) → ltb w m ≡ t → positive (sub_ℕ w m) ≡ ltb m w
    go true e = let z : w < m = ltb-true w m e in low e ∙ sym (le-ltb m w (omega arith))
      where
        low : ltb w m ≡ true → positive (sub_ℕ w m) ≡ false
        low f = ap (λ (b : Bool). positive (cond b (negsuc (m - suc w)) (pos (w - m)))) f ∙ below (m - suc w)
    go false e = let z : m ≤ w = ltb-false w m e in ap (λ (b : Bool). positive (cond b (negsuc (m - suc w)) (pos (w - m)))) e ∙ (positive-pos (w - m) ∙ more (ltb m w) refl z)
      where
        more : (t : Bool) → ltb m w ≡ t → m ≤ w → ltb 0 (w - m) ≡ t
        more true f z = let y : m < w = ltb-true m w f in lt-ltb 0 (w - m) (omega arith)
        more false f z = let y : w ≤ m = ltb-false m w f in le-ltb 0 (w - m) (omega arith)

-- winding w, counted from m, is positive where w is above m
pub positive_wound : (w m : ℕ) → positive (pos w -ℤ pos m) ≡ ltb m w
positive_wound w zero = let z : w + 0 ≡ w = omega arith in ap (λ (n : ℕ). positive (pos n)) z ∙ positive-pos w
positive_wound w (suc n) = positive-sub w (suc n)

-- at most m is not above m
pub leb-not : (w m : ℕ) → leb w m ≡ not (ltb m w)
leb-not w m = go (ltb m w) refl
  where
    go : (t : Bool) → ltb m w ≡ t → leb w m ≡ not t
    go true e = let z : m < w = ltb-true m w e in lt-leb w m z
    go false e = let z : w ≤ m = ltb-false m w e in le-leb w m z

up_one : (w m : ℕ) → pos (w + 1) -ℤ pos m ≡ (pos w -ℤ pos m) +ℤ pos 1
up_one w m = ap (λ (n : ℕ). pos n -ℤ pos m) (add-one w) ∙ (suc_ℤ-+ℤ (pos w) (neg_ℤ (pos m)) ∙ sym (+ℤ_one (pos w -ℤ pos m)))

down-one : (w m : ℕ) → 0 < w → pos (w - 1) -ℤ pos m ≡ (pos w -ℤ pos m) +ℤ negsuc 0
down-one zero m h = absurd (omega arith)
down-one (suc v) m h = let z : suc v - 1 ≡ v = omega arith in ap (λ (n : ℕ). pos n -ℤ pos m) z ∙ (pred_ℤ-+ℤ (pos (suc v)) (neg_ℤ (pos m)) ∙ sym (-ℤ_one (pos (suc v) -ℤ pos m)))

wound : (w m : ℕ) (d : Float) → 0 < w → pos (cond (lt zero_bits d) (w + 1) (w - 1)) -ℤ pos m ≡ (pos w -ℤ pos m) +ℤ cond (lt zero_bits d) (pos 1) (negsuc 0)
wound w m d h = go (lt zero_bits d)
  where
    go : (t : Bool) → pos (cond t (w + 1) (w - 1)) -ℤ pos m ≡ (pos w -ℤ pos m) +ℤ cond t (pos 1) (negsuc 0)
    go true = up_one w m
    go false = down-one w m h

-- winding stays between k and 2 m - k where k crossings are to come
pub turned-low : (t : Bool) (w w' k m : ℕ) → w' ≡ cond t (w + 1) (w - 1) → 0 < k → k ≤ w → k - 1 ≤ w'
turned-low true w w' k m e p h = omega arith
turned-low false w w' k m e p h = omega arith

pub turned-high : (t : Bool) (w w' k m : ℕ) → w' ≡ cond t (w + 1) (w - 1) → 0 < k → k ≤ w → w + k ≤ m + m → w' + (k - 1) ≤ m + m
turned-high true w w' k m e p h l = omega arith
turned-high false w w' k m e p h l = omega arith

-- ---- one crossing of a slab
module _ (sheet : Bool) (top xa xb : Float) where
  walk-suc : (f : ℕ → Crossing) (h : Held) (w : ℤ) (la lb : Float) (j : ℕ) → hold h (walk sheet top xa xb w la lb (down f (suc j)))
      ≡ hold (hold h (piece (runs sheet w && not (runs sheet (w +ℤ (f j).d))) (strip xa xb la lb (f j).ya (f j).yb))) (walk sheet top xa xb (w +ℤ (f j).d) (cond (runs sheet w) la (f j).ya) (cond (runs sheet w) lb (f j).yb) (down f j))
  unfolding walk down
  walk-suc f h w la lb j = hold_append h (piece (runs sheet w && not (runs sheet (w +ℤ (f j).d))) (strip xa xb la lb (f j).ya (f j).yb)) (walk sheet top xa xb (w +ℤ (f j).d) (cond (runs sheet w) la (f j).ya) (cond (runs sheet w) lb (f j).yb) (down f j))

  walk-pred : (f : ℕ → Crossing) (h : Held) (w : ℤ) (la lb : Float) (k : ℕ) → 0 < k → hold h (walk sheet top xa xb w la lb (down f k))
      ≡ hold (hold h (piece (runs sheet w && not (runs sheet (w +ℤ (f (k - 1)).d))) (strip xa xb la lb (f (k - 1)).ya (f (k - 1)).yb))) (walk sheet top xa xb (w +ℤ (f (k - 1)).d) (cond (runs sheet w) la (f (k - 1)).ya) (cond (runs sheet w) lb (f (k - 1)).yb) (down f (k - 1)))
  walk-pred f h w la lb zero p = absurd (omega arith)
  walk-pred f h w la lb (suc j) p = let d : suc j - 1 ≡ j = omega arith in rw d (walk-suc f h w la lb j)

  pub wind_step : (rs : List Float) (m k w w' : ℕ) → 0 < k → 0 < w → (la lb : Float) (r0 r1 : List Float) (n0 n1 : ℕ) (row : Row) (was is cl : Bool) (s : Trapezoid) (la' lb' : Float)
      → row ≡ row_at rs (k - 1) → w' ≡ cond (lt zero_bits row.d) (w + 1) (w - 1) → was ≡ runs sheet (pos w -ℤ pos m) → is ≡ runs sheet (pos w' -ℤ pos m) → s ≡ strip xa xb la lb row.ya row.yb → cl ≡ was && not is
      → record { room = r1; count = n1 } ≡ hold (record { room = r0; count = n0 }) (piece cl s) → la' ≡ cond was la row.ya → lb' ≡ cond was lb row.yb
      → hold (record { room = r1; count = n1 }) (walk sheet top xa xb (pos w' -ℤ pos m) la' lb' (down (crossing_at rs) (k - 1))) ≡ hold (record { room = r0; count = n0 }) (walk sheet top xa xb (pos w -ℤ pos m) la lb (down (crossing_at rs) k))
  unfolding crossing_at crossing_of
  wind_step rs m k w w' p q la lb r0 r1 n0 n1 row was is cl s la' lb' er ew' ew ei es ec eh ea eb =
      rw (eh, ea, eb, ec, es, ei, ew, ew', wound w m row.d q, er) (sym (walk-pred (crossing_at rs) (record { room = r0; count = n0 }) (pos w -ℤ pos m) la lb k p))

  pub wind_last : (f : ℕ → Crossing) (k : ℕ) → k ≤ 0 → (w : ℤ) (la lb : Float) (r0 : List Float) (n0 : ℕ) (l : Bool) (s : Trapezoid) → s ≡ strip xa xb la lb top top → l ≡ sheet && runs sheet w
      → hold (record { room = r0; count = n0 }) (piece l s) ≡ hold (record { room = r0; count = n0 }) (walk sheet top xa xb w la lb (down f k))
  unfolding walk
  wind_last f k p w la lb r0 n0 l s es el = let z : k ≡ 0 = omega arith in rw (z, down-zero f, es, el)
