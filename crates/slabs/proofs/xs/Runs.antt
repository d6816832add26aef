-- Runs of x's, each sorted and then merged with those after it. Assumes nothing.
use Prim.Native.Nat.{ℕ, ◌+◌, ◌-◌, ◌*◌, ◌≤◌, ◌<◌}
use native.Mathlib.Nat.{eq-or-lt_of_le}
use native.Mathlib.Omega.{arith}
use borrow.Author.Tests.{ltb-true, ltb-false}
use mathlib.Core.Path.{◌≡◌, refl, sym, ◌∙◌, subst}
use mathlib.Core.Logic.{inl, inr}
use mathlib.Core.List.{List, [], ◌++◌, append-nil, append_assoc}
use mathlib.Core.Bool.{Bool, true, false}
use lib.Dec.{T, ltb, lt→ltb}
use lib.ListN.{get_or}
use lib.Ieee.{Float, nan, lt, fits, binary64, is_nan}
use Rattle.numbers.proofs.Truth.{is_true}
use Rattle.numbers.proofs.Keys.{key, lt_is, self_real}
use Rattle.slabs.specs.Slab.{up, sort}
use Rattle.slabs.specs.inner.Tables.{down, merge, Number}
use Rattle.slabs.proofs.Places.{no_nan}
use Rattle.slabs.proofs.Sorting.{down-zero}
use Rattle.slabs.proofs.Merging.{All, Order, merge-sort, up_split, all_up, all_append}
use Rattle.slabs.proofs.xs.Lines.{at}
use Rattle.slabs.specs.xs.inner.Xs.{x_at, sides}

pub number_at : (pts : List Float) (i : ℕ) (r : Bool) → T (fits binary64 (get_or pts (2 * i) nan)) → r ≡ is_nan (get_or pts (2 * i) nan) → r ≡ false → Number (x_at pts i)
unfolding x_at
number_at pts i r t e h = no_nan (get_or pts (2 * i) nan) r t e h

compare : (a b : Float) → Number a → Number b → lt a b ≡ ltb (key binary64 a) (key binary64 b)
unfolding Number
compare a b p q = lt_is binary64 a b p.0 q.0 (self_real a p.1) (self_real b q.1)

-- `lt` orders the numbers
pub in_order : Order lt Number
in_order = record { through = through; past = past }
  where
    less : (a b : Float) → Number a → Number b → lt a b ≡ true → key binary64 a < key binary64 b
    less a b p q e = ltb-true (key binary64 a) (key binary64 b) (sym (compare a b p q) ∙ e)

    lower : (a b : Float) → Number a → Number b → key binary64 a < key binary64 b → lt a b ≡ true
    lower a b p q h = compare a b p q ∙ is_true (ltb (key binary64 a) (key binary64 b)) (lt→ltb (key binary64 a) (key binary64 b) h)

    through : (a b c : Float) → Number a → Number b → Number c → lt a b ≡ true → lt b c ≡ true → lt a c ≡ true
    through a b c p q r e f = let h = less a b p q e in let g = less b c q r f in lower a c p r (omega arith)

    past : (a b c : Float) → Number a → Number b → Number c → lt a c ≡ true → lt b c ≡ false → lt a b ≡ true
    past a b c p q r e f =
        let h = less a c p r e in
        let g : key binary64 c ≤ key binary64 b = ltb-false (key binary64 b) (key binary64 c) (sym (compare b c q r) ∙ f) in
        lower a b p q (omega arith)

pub sides_all : (sheet : Bool) (left right : Float) → Number left → Number right → All Number (sides sheet left right)
unfolding sides
sides_all true left right p q = (p, (q, tt))
sides_all false left right p q = tt

-- one number more
pub number_more : (pts : List Float) (i : ℕ) → ((k : ℕ) → k < i → Number (x_at pts k)) → Number (x_at pts i) → (k : ℕ) → k < i + 1 → Number (x_at pts k)
number_more pts i h e k l = let m : k ≤ i = omega arith in elim (eq-or-lt_of_le m) [ inl s ↦ subst (λ (z : ℕ). Number (x_at pts z)) (sym s) e | inr t ↦ h k t ]

sort_nil : [] ≡ sort lt []
unfolding sort
sort_nil = refl

module _ (pts : List Float) (tail : List Float) (i n c : ℕ) (fits : c ≤ i) (within : i ≤ n) where
  -- a run alone
  pub run_sorted : (f : ℕ → Float) (run : List Float) → ((l : List Float) → down f 0 ≡ sort lt l → down (at run) (0 + (i - (i - c))) ≡ sort lt (up (x_at pts) (i - c) (i - (i - c)) ++ l)) → down (at run) c ≡ sort lt (up (x_at pts) (i - c) c)
  run_sorted f run h =
      let e : i - (i - c) ≡ c = omega arith in
      let z : 0 + c ≡ c = omega arith in
      rw (e, z, append-nil (up (x_at pts) (i - c) c)) at (h [] (down-zero f ∙ sort_nil))

  -- a run and what stands after it
  pub run_merged : (line line' run : List Float) (m : ℕ) → ((k : ℕ) → k < n → Number (x_at pts k)) → All Number tail
      → down (at run) c ≡ sort lt (up (x_at pts) (i - c) c) → down (at line') (m + c) ≡ merge lt (down (at run) c) (down (at line) m) → down (at line) m ≡ sort lt (up (x_at pts) i (n - i) ++ tail)
      → down (at line') (m + c) ≡ sort lt (up (x_at pts) (i - c) (n - (i - c)) ++ tail)
  run_merged line line' run m num pt er em el =
      let f = x_at pts in
      let s : n - (i - c) ≡ c + (n - i) = omega arith in
      let z : i - c + c ≡ i = omega arith in
      let r : up f (i - c) (n - (i - c)) ++ tail ≡ up f (i - c) c ++ (up f i (n - i) ++ tail) = rw (s, up_split f (i - c) c (n - i), z, append_assoc (up f (i - c) c) (up f i (n - i)) tail) in
      rw (em, er, el, r) (merge-sort lt Number in_order (up f (i - c) c) (up f i (n - i) ++ tail) (all_up Number f (i - c) c (λ k l. num k (omega arith))) (all_append Number (up f i (n - i)) tail (all_up Number f i (n - i) (λ k l. num k (omega arith))) pt))

-- all numbers from `first` on are in
pub inserted : (f : ℕ → Float) (line l : List Float) (first i n m k : ℕ) → first ≤ i → i ≤ first → k ≡ m + (n - i) → down (at line) k ≡ sort lt (up f i (n - i) ++ l) → down (at line) (m + (n - first)) ≡ sort lt (up f first (n - first) ++ l)
inserted f line l first i n m k h g e d = let s : i ≡ first = omega arith in rw (e, s) at d
