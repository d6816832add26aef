-- Laws of the x's as they are put in one by one. Assumes nothing.
use Prim.Native.Nat.{ℕ, ◌+◌, ◌-◌, ◌≤◌, ◌<◌}
use mathlib.Core.Path.{◌≡◌, sym, ◌∙◌}
use mathlib.Core.List.{List, ◌++◌}
use mathlib.Core.Bool.{Bool, true, false}
use lib.Ieee.{Float, lt}
use Rattle.slabs.specs.Slab.{up, insert, sort}
use Rattle.slabs.specs.inner.Tables.{down}
use Rattle.slabs.proofs.Sorting.{up_none, up_cons, down-zero}
use Rattle.slabs.proofs.xs.Lines.{at}
use Rattle.slabs.specs.xs.inner.Xs.{sides}

-- the bounding x's of the sheet
pub sides-none : (f : ℕ → Float) (sheet : Bool) (left right : Float) → sheet ≡ false → down f 0 ≡ sort lt (sides sheet left right)
unfolding sides sort
sides-none f sheet left right e = rw (e, down-zero f)

pub sides_two : (l l' l'' : List Float) (sheet : Bool) (left right : Float) → sheet ≡ true → down (at l') 1 ≡ insert lt right (down (at l) 0) → down (at l'') 2 ≡ insert lt left (down (at l') 1) → down (at l'') 2 ≡ sort lt (sides sheet left right)
unfolding sides sort
sides_two l l' l'' sheet left right e a b = b ∙ rw (a, e, down-zero (at l))

-- the points' x's go before them
pub sort-none : (s : List Float) (f : ℕ → Float) (n : ℕ) → sort lt s ≡ sort lt (up f n (n - n) ++ s)
sort-none s f n = rw (up_none f n)

pub sort_more : (s : List Float) (f : ℕ → Float) (i n : ℕ) → 0 < i → i ≤ n → (l l' : List Float) (m : ℕ) (x : Float) → x ≡ f (i - 1) → down (at l') (m + 1) ≡ insert lt x (down (at l) m) → down (at l) m ≡ sort lt (up f i (n - i) ++ s)
    → down (at l') (m + 1) ≡ sort lt (up f (i - 1) (n - (i - 1)) ++ s)
unfolding sort
sort_more s f i n p h l l' m x ex e inv = e ∙ sym (rw (up_cons f i n p h, ← ex, inv))
