-- `before` orders the crossings whose sum and ya are no NaNs. Assumes nothing.
use Prim.Native.Nat.{ℕ, suc, ◌+◌, ◌≤◌, ◌<◌}
use native.Mathlib.Omega.{arith}
use borrow.Author.Tests.{ltb-true, ltb-false, lt-ltb, le-ltb}
use mathlib.Core.Path.{◌≡◌, refl, sym, ◌∙◌, subst}
use mathlib.Core.Logic.{◌⊎◌, inl, inr}
use mathlib.Core.Bool.{Bool, true, false, cond, ◌&&◌, ◌||◌}
use lib.Dec.{T, ltb}
use lib.Ieee.{Float, nan, inf, fin, lt, eq, fits, binary64, is_nan}
use Rattle.numbers.specs.Numbers.{◌⊕◌}
use Rattle.numbers.proofs.Truth.{is_true, holds, either, clash}
use Rattle.numbers.proofs.Keys.{key, mid, real, lt_is, eq→key, key→eq, key-top, self_real}
use Rattle.slabs.specs.Slab.{Crossing, positive, ahead, before}
use Rattle.slabs.specs.inner.Tables.{Number, Placed}
use Rattle.slabs.proofs.Merging.{Order}

whole : (x : Float) → is_nan x ≡ false → T (real x)
unfolding is_nan
whole nan e = subst T e tt
whole (inf s) e = tt
whole (fin s m d) e = tt

-- what is no NaN is a number
pub no_nan : (x : Float) (r : Bool) → T (fits binary64 x) → r ≡ is_nan x → r ≡ false → Number x
unfolding Number
no_nan x r t h e = let w = whole x (sym h ∙ e) in (t, is_true (eq x x) (key→eq binary64 x x t t w w refl))

abbrev k : Float → ℕ
k x = key binary64 x

compare : (a b : Float) → Number a → Number b → lt a b ≡ ltb (k a) (k b)
unfolding Number
compare a b p q = lt_is binary64 a b p.0 q.0 (self_real a p.1) (self_real b q.1)

same_key : (a b : Float) → Number a → Number b → eq a b ≡ true → k a ≡ k b
unfolding Number
same_key a b p q e = eq→key binary64 a b p.0 q.0 (holds e)

same-eq : (a b : Float) → Number a → Number b → k a ≡ k b → eq a b ≡ true
unfolding Number
same-eq a b p q e = is_true (eq a b) (key→eq binary64 a b p.0 q.0 (self_real a p.1) (self_real b q.1) e)

top : (a : Float) → Number a → k a ≤ mid binary64 + mid binary64
unfolding Number
top a p = key-top binary64 a p.0

both : (a b : Bool) → (a ≡ true → b ≡ true) → (a ≡ false → b ≡ false) → a ≡ b
both true b f g = sym (f refl)
both false b f g = sym (g refl)

-- +1 before -1, then y, as one number
abbrev low : Bool → ℕ → ℕ → ℕ
low p y z = cond p y (y + z)

ahead_is : (p q : Bool) (y z w : ℕ) → y < w → z < w → cond p (cond q (ltb y z) true) (cond q false (ltb y z)) ≡ ltb (low p y w) (low q z w)
ahead_is true true y z w a b = refl
ahead_is true false y z w a b = sym (lt-ltb y (z + w) (omega arith))
ahead_is false true y z w a b = sym (le-ltb (y + w) z (omega arith))
ahead_is false false y z w a b = both (ltb y z) (ltb (y + w) (z + w)) (λ e. let g = ltb-true y z e in lt-ltb (y + w) (z + w) (omega arith)) (λ e. let g = ltb-false y z e in le-ltb (y + w) (z + w) (omega arith))

abbrev s : Crossing → ℕ
s c = k (c.ya ⊕ c.yb)

abbrev w : Crossing → ℕ
w c = low (positive c.d) (k c.ya) (suc (mid binary64 + mid binary64))

ahead_keys : (a b : Crossing) → Placed a → Placed b → ahead a b ≡ ltb (w a) (w b)
unfolding ahead Placed
ahead_keys a b p q =
    let g = top a.ya p.1 in
    let h = top b.ya q.1 in
    rw (compare a.ya b.ya p.1 q.1) (ahead_is (positive a.d) (positive b.d) (k a.ya) (k b.ya) (suc (mid binary64 + mid binary64)) (omega arith) (omega arith))

or_yes : (x y z : Bool) → (x || y && z) ≡ true → (x ≡ true) ⊎ ((y ≡ true) × (z ≡ true))
or_yes true y z e = inl refl
or_yes false true z e = inr (refl, e)
or_yes false false z e = absurd (subst T (sym e) tt)

or_left : (x y z : Bool) → x ≡ true → (x || y && z) ≡ true
or_left x y z e = rw e

or_right : (x y z : Bool) → y ≡ true → z ≡ true → (x || y && z) ≡ true
or_right true y z e f = refl
or_right false y z e f = rw (e, f)

lower : (a b : Crossing) → Placed a → Placed b → s a < s b → before a b ≡ true
unfolding before Placed
lower a b p q h = or_left (lt (a.ya ⊕ a.yb) (b.ya ⊕ b.yb)) (eq (a.ya ⊕ a.yb) (b.ya ⊕ b.yb)) (ahead a b) (compare (a.ya ⊕ a.yb) (b.ya ⊕ b.yb) p.0 q.0 ∙ lt-ltb (s a) (s b) h)

level : (a b : Crossing) → Placed a → Placed b → s a ≡ s b → w a < w b → before a b ≡ true
unfolding before Placed
level a b p q e h = or_right (lt (a.ya ⊕ a.yb) (b.ya ⊕ b.yb)) (eq (a.ya ⊕ a.yb) (b.ya ⊕ b.yb)) (ahead a b) (same-eq (a.ya ⊕ a.yb) (b.ya ⊕ b.yb) p.0 q.0 e) (ahead_keys a b p q ∙ lt-ltb (w a) (w b) h)

told : (a b : Crossing) → Placed a → Placed b → before a b ≡ true → (s a < s b) ⊎ ((s a ≡ s b) × (w a < w b))
unfolding before Placed
told a b p q e = elim (or_yes (lt (a.ya ⊕ a.yb) (b.ya ⊕ b.yb)) (eq (a.ya ⊕ a.yb) (b.ya ⊕ b.yb)) (ahead a b) e) [
  | inl h ↦ inl (ltb-true (s a) (s b) (sym (compare (a.ya ⊕ a.yb) (b.ya ⊕ b.yb) p.0 q.0) ∙ h))
  | inr h ↦ inr (same_key (a.ya ⊕ a.yb) (b.ya ⊕ b.yb) p.0 q.0 h.0, ltb-true (w a) (w b) (sym (ahead_keys a b p q) ∙ h.1))
]

-- in the manner that omega reads
untold : (a b : Crossing) → Placed a → Placed b → before a b ≡ false → (s b < s a) ⊎ ((s a ≡ s b) × (w b ≤ w a))
untold a b p q e = elim (either (ltb (s b) (s a))) [
  | inl h ↦ inl (ltb-true (s b) (s a) h)
  | inr h ↦ elim (either (ltb (s a) (s b))) [
    | inl g ↦ absurd (clash (lower a b p q (ltb-true (s a) (s b) g)) e)
    | inr g ↦
        let x = ltb-false (s b) (s a) h in
        let y = ltb-false (s a) (s b) g in
        let z : s a ≡ s b = omega arith in
        elim (either (ltb (w a) (w b))) [ inl f ↦ absurd (clash (level a b p q z (ltb-true (w a) (w b) f)) e) | inr f ↦ inr (z, ltb-false (w a) (w b) f) ]
  ]
]

through : (a b c : Crossing) → Placed a → Placed b → Placed c → before a b ≡ true → before b c ≡ true → before a c ≡ true
through a b c p q r e f = go (told a b p q e) (told b c q r f)
  where
    go : (s a < s b) ⊎ ((s a ≡ s b) × (w a < w b)) → (s b < s c) ⊎ ((s b ≡ s c) × (w b < w c)) → before a c ≡ true
    go (inl g) (inl h) = lower a c p r (omega arith)
    go (inl g) (inr h) = let y = h.0 in lower a c p r (omega arith)
    go (inr g) (inl h) = let x = g.0 in lower a c p r (omega arith)
    go (inr g) (inr h) = level a c p r (g.0 ∙ h.0) (let x = g.1 in let y = h.1 in omega arith)

past : (a b c : Crossing) → Placed a → Placed b → Placed c → before a c ≡ true → before b c ≡ false → before a b ≡ true
past a b c p q r e f = go (told a c p r e) (untold b c q r f)
  where
    go : (s a < s c) ⊎ ((s a ≡ s c) × (w a < w c)) → (s c < s b) ⊎ ((s b ≡ s c) × (w c ≤ w b)) → before a b ≡ true
    go (inl g) (inl h) = lower a b p q (omega arith)
    go (inl g) (inr h) = let y = h.0 in lower a b p q (omega arith)
    go (inr g) (inl h) = let x = g.0 in lower a b p q (omega arith)
    go (inr g) (inr h) = level a b p q (g.0 ∙ sym h.0) (let x = g.1 in let y = h.1 in omega arith)

pub in_place : Order before Placed
in_place = record { through = through; past = past }
