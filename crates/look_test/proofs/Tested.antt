-- What tested numbers and entered strips give a look. Assumes nothing.
use Prim.Native.Nat.{ℕ, ◌+◌, ◌*◌, ◌≤◌, ◌<◌}
use native.Mathlib.Omega.{arith}
use mathlib.Core.Path.{◌≡◌, refl, ap, subst}
use mathlib.Core.Logic.{◌⊎◌, inl, inr}
use mathlib.Core.Bool.{true, false}
use mathlib.Core.List.{List}
use lib.ListN.{length, get_or, get_or-eq_default, replicate, length-replicate}
use Rattle.std.proofs.lemmas.List.{get_or-replicate}
use lib.Dec.{T, lit≤}
use lib.Ieee.{Float, binary64, nan, fits, le, of_bits, neg}
use lib.Ieee.Exact.{HasValue}
use Rattle.numbers.proofs.Truth.{holds, below_or_not}
use Rattle.numbers.proofs.Ranges.{tested_within}
use Rattle.trapezoid.specs.Strip.{strip_at, capacity}
use Rattle.index.specs.declared.Index.{Index}
use Rattle.index.specs.Buckets.{index_of}
use Rattle.index.specs.inner.Listing.{Laid, Bounded}
use Rattle.enter.specs.inner.EntryRoom.{FirstsWritten}
use Rattle.index.proofs.NewIndex.{new_fair}
use Rattle.look.specs.inner.Ready.{BoundedStrips, Lookable}
use Rattle.look.proofs.IntervalEnds.{widen}
use Rattle.look_test.specs.inner.Fair.{FairColumn, FairStrips, Entered}

-- 1,000,000
abbrev million : Float
million = of_bits binary64 0x412e_8480_0000_0000

high : T (fits binary64 million) × HasValue million false 1000000 1
unfolding fits of_bits
high = (tt, (refl, refl))

low : T (fits binary64 (neg million)) × HasValue (neg million) true 1000000 1
unfolding fits neg of_bits
low = (tt, (refl, refl))

pub tested : {x : Float} → T (fits binary64 x) → le (neg million) x ≡ true → le x million ≡ true → Bounded 1000000 x
tested {x} f h k = let r = tested_within binary64 1000000 (neg million) million x low.0 high.0 f low.1 high.1 (holds h) (holds k)
    (lit≤ tt) in record { fine = r.0; bound = r.1 }

-- ---- rooms
pub all_strips : (l : List Float) → ((i : ℕ) → i < length l → Bounded 1000000 (get_or l i nan)) → BoundedStrips l
unfolding strip_at capacity
all_strips l h = λ i b. record {
  x0 = h (6 * i) (omega arith);
  x1 = h (6 * i + 1) (omega arith);
  low0 = h (6 * i + 2) (omega arith);
  low1 = h (6 * i + 3) (omega arith);
  high0 = h (6 * i + 4) (omega arith);
  high1 = h (6 * i + 5) (omega arith);
}

pub one_more : (l : List Float) (i : ℕ) → ((j : ℕ) → j < i → Bounded 1000000 (get_or l j nan)) → Bounded 1000000 (get_or l i nan) → (j : ℕ) → j < i + 1 → Bounded
    1000000 (get_or l j nan)
one_more l i h b j a = go (below_or_not j i)
  where
    go : (j < i) ⊎ (i ≤ j) → Bounded 1000000 (get_or l j nan)
    go (inl q) = h j q
    go (inr q) = let e : i ≡ j = omega arith in subst (λ (k : ℕ). Bounded 1000000 (get_or l k nan)) e b

-- a capacity's strips lie in the room
pub capacity-room : (l : List Float) → 6 * capacity l ≤ length l
unfolding capacity
capacity-room l = omega arith

-- what entering all strips of a room gives
pub entered : (ix : Index) (l : List Float) (n : ℕ) (entries starts before firsts : List ℕ) → n ≡ capacity l → n ≤ length before → length firsts ≡ length before
    → Laid ix l n entries starts → FirstsWritten ix l 0 n before firsts → Entered ix l entries starts firsts
entered ix l n entries starts before firsts e h k L W = record {
  laid = subst (λ (k : ℕ). Laid ix l k entries starts) e L;
  kept = record { long = omega (arith, e, h, k); right = λ i a. W.new i (omega arith) (omega (arith, e, a)) };
}

-- a table of zeros
pub replicated : (n : ℕ) (l : List ℕ) → l ≡ replicate n 0 → (b : ℕ) → b < length l → get_or l b 0 ≡ 0
replicated n l e b h = rw e (get_or-replicate n b 0 0 (omega (arith, h, ap length e, length-replicate {A = ℕ} n 0)))

-- nothing stands past the end of a list
pub all_zero : (l : List ℕ) → ((b : ℕ) → b < length l → get_or l b 0 ≡ 0) → (b : ℕ) → get_or l b 0 ≡ 0
all_zero l h b = go (below_or_not b (length l))
  where
    go : (b < length l) ⊎ (length l ≤ b) → get_or l b 0 ≡ 0
    go (inl a) = h b a
    go (inr a) = get_or-eq_default l 0 a

-- ---- the look
module _ (x0 x1 x y_low y_high : Float) (inset apart sheet placed : List Float) (sheet_entries sheet_starts placed_entries placed_starts : List ℕ) where
  pub lookable : (ix : Index) → ix ≡ index_of x0 x1 → FairColumn x0 x1 x y_low y_high → FairStrips sheet placed inset apart
      → Laid ix sheet (capacity sheet) sheet_entries sheet_starts → Laid ix placed (capacity placed) placed_entries placed_starts
      → Lookable ix x y_low y_high inset apart sheet placed sheet_entries sheet_starts placed_entries placed_starts
  lookable ix e c s a b = record {
    index = rw e (new_fair x0 x1 (widen 1000000 4000000 (lit≤ tt) c.left) (widen 1000000 4000000 (lit≤ tt) c.right));
    sheet_laid = a;
    placed_laid = b;
    column = widen 1000000 3000000 (lit≤ tt) c.column;
    low = c.low.fine;
    high = c.high.fine;
    insets = s.insets;
    aparts = s.aparts;
    sheets = s.sheets;
    places = s.places;
  }
