-- Strips with level sides on multiples of 1 / 1024: their heights, their move and the ends of their forbidden intervals are exact. Assumes nothing.
use Rattle.std.specs.Prelude.{Some, None}
use Prim.Native.Nat.{ℕ, ◌+◌, ◌*◌, ◌^◌, ◌≤◌, ◌<◌}
use native.Mathlib.Omega.{arith}
use mathlib.Core.Path.{◌≡◌, refl, sym, ap, ◌∙◌, subst}
use mathlib.Core.Logic.{◌⊎◌, inl, inr}
use mathlib.Core.Bool.{Bool, true, false, not, cond}
use lib.Dec.{T, lit≤}
use lib.Ieee.{Float, binary64, lt, le}
use Rattle.numbers.specs.Numbers.{◌⊕◌, ◌⊖◌, ◌⊗◌, ◌⊘◌, pos_zero, smaller, larger}
use Rattle.numbers.proofs.Grid.{Grid, add-grid, sub-grid}
use Rattle.numbers.proofs.Literals.{grid-room}
use Rattle.numbers.proofs.Ranges.{add-exact, sub_self, zero_num, zero-key}
use Rattle.numbers.proofs.Doubles.{k, o, u, Finite, Number, Upto, finite, le_no, sub_upto, sub_mono, sub-pos, sub_nonneg, div_share, share_upto, Share, above_zero}
use Rattle.numbers.proofs.Truth.{either}
use Rattle.trapezoid.specs.declared.Trapezoid.{Trapezoid}
use Rattle.trapezoid.specs.declared.Heights.{Heights}
use Rattle.trapezoid.specs.Strip.{heights_at, between, moved_by}
use Rattle.index.specs.declared.Interval.{Interval}
use Rattle.index.specs.Intervals.{interval_of, meeting_of}
use Rattle.index.specs.inner.Listing.{Bounded}
use Rattle.look.specs.inner.Ready.{BoundedStrip}
use Rattle.look.proofs.IntervalEnds.{widen, add-bounded, sub-bounded, larger-bounded, smaller-bounded}

-- x is a multiple of 1 / 1024, of at most n multiples either way, and no minus zero
pub record OnGrid (n : ℕ) (x : Float) : Type 0 where
  pub num : Number x
  pub up : ℕ
  pub down : ℕ
  pub at : Grid binary64 1064 up down x
  pub most : (up ≤ n) × (down ≤ n)

-- keys are values moved up by o: the sum and the difference as real numbers
pub sum-exact : (m n : ℕ) {x y : Float} → m + n < 2 ^ 53 → OnGrid m x → OnGrid n y → k (x ⊕ y) + o ≡ k x + k y
sum-exact m n {x} {y} h X Y =
    let r = add-grid binary64 1064 X.up X.down Y.up Y.down x y (finite X.num) (finite Y.num) X.at Y.at grid-room (small X.up Y.up m n h X.most.0 Y.most.0) (small X.down Y.down m n h X.most.1 Y.most.1) in
    z o (k (x ⊕ y)) (k x) (k y) X.up X.down Y.up Y.down (2 ^ 1064) r.at X.at.at Y.at.at
  where
    small : (a b m n : ℕ) → m + n < 2 ^ 53 → a ≤ m → b ≤ n → a + b < 2 ^ 53
    small a b m n h f g = native.Mathlib.Nat.lt_of_le_of_lt (native.Mathlib.Nat.add-le-add f g) h

    y' : (o s x y p q r t : ℕ) → s + (q + t) ≡ o + (p + r) → x + q ≡ o + p → y + t ≡ o + r → s + o ≡ x + y
    y' o s x y p q r t a b c = omega arith

    z : (o s x y a b c d w : ℕ) → s + (b + d) * w ≡ o + (a + c) * w → x + b * w ≡ o + a * w → y + d * w ≡ o + c * w → s + o ≡ x + y
    z o s x y a b c d w e f g = y' o s x y (a * w) (b * w) (c * w) (d * w) (ap (λ (i : ℕ). s + i) (sym (native.Mathlib.Nat.add-mul b d w)) ∙ (e ∙ ap (λ (i : ℕ). o + i) (native.Mathlib.Nat.add-mul a c w))) f g

pub difference_exact : (m n : ℕ) {x y : Float} → m + n < 2 ^ 53 → OnGrid m x → OnGrid n y → k (x ⊖ y) + k y ≡ k x + o
difference_exact m n {x} {y} h X Y =
    let r = sub-grid binary64 1064 X.up X.down Y.up Y.down x y (finite X.num) (finite Y.num) X.at Y.at grid-room (small X.up Y.down m n h X.most.0 Y.most.1) (small X.down Y.up m n h X.most.1 Y.most.0) in
    z o (k (x ⊖ y)) (k x) (k y) X.up X.down Y.up Y.down (2 ^ 1064) r.at X.at.at Y.at.at
  where
    small : (a b m n : ℕ) → m + n < 2 ^ 53 → a ≤ m → b ≤ n → a + b < 2 ^ 53
    small a b m n h f g = native.Mathlib.Nat.lt_of_le_of_lt (native.Mathlib.Nat.add-le-add f g) h

    y' : (o s x y p q r t : ℕ) → s + (q + r) ≡ o + (p + t) → x + q ≡ o + p → y + t ≡ o + r → s + y ≡ x + o
    y' o s x y p q r t a b c = omega arith

    z : (o s x y a b c d w : ℕ) → s + (b + c) * w ≡ o + (a + d) * w → x + b * w ≡ o + a * w → y + d * w ≡ o + c * w → s + y ≡ x + o
    z o s x y a b c d w e f g = y' o s x y (a * w) (b * w) (c * w) (d * w) (ap (λ (i : ℕ). s + i) (sym (native.Mathlib.Nat.add-mul b c w)) ∙ (e ∙ ap (λ (i : ℕ). o + i) (native.Mathlib.Nat.add-mul a d w))) f g

-- a level strip within the limits: 1,000,000 mm are 1,024,000,000 multiples
pub record LevelStrip (p : Trapezoid) : Type 0 where
  pub bounded : BoundedStrip p
  pub x0 : OnGrid 1024000000 p.x0
  pub x1 : OnGrid 1024000000 p.x1
  pub low : OnGrid 1024000000 p.low0
  pub high : OnGrid 1024000000 p.high0
  pub low_level : p.low1 ≡ p.low0
  pub high_level : p.high1 ≡ p.high0

-- "low + t × (low' − low)" where they are equal
between_level : (t a : Float) → Share t → Number a → between t a a ≡ a
between_level t a S A = ap (λ (d : Float). a ⊕ t ⊗ d) (sub_self binary64 a A) ∙ add-exact binary64 a (t ⊗ pos_zero) a A s.0 A (z o (k a) (k (t ⊗ pos_zero)) (0 * u) (native.Mathlib.Nat.zero-mul u) s.1.at_least s.1.at_most)
  where
    none : Upto 0 pos_zero
    none = record { at_least = y o (k pos_zero) (0 * u) (zero-key binary64); at_most = x o (k pos_zero) (0 * u) (zero-key binary64) }
      where
        y : (o z a : ℕ) → z ≡ o → o ≤ z + a
        y o z a e = omega arith

        x : (o z a : ℕ) → z ≡ o → z ≤ o + a
        x o z a e = omega arith

    s : Finite (t ⊗ pos_zero) × Upto 0 (t ⊗ pos_zero)
    s = share_upto {n = 0} S (finite (zero_num binary64)) none (lit≤ tt)

    z : (o a s w : ℕ) → w ≡ 0 → o ≤ s + w → s ≤ o + w → a + s ≡ a + o
    z o a s w e h l = omega arith

-- the heights of a level strip are its own, at any x
pub level_heights : (p : Trapezoid) (x : Float) → LevelStrip p → Bounded 7000000 x → heights_at p x ≡ record { low = p.low0; high = p.high0 }
unfolding heights_at
level_heights p x P X = go (le x p.x0) (le p.x1 x) (le_no X.fine P.bounded.x0.fine) (le_no P.bounded.x1.fine X.fine)
  where
    share : k p.x0 < k x → k x < k p.x1 → Share ((x ⊖ p.x0) ⊘ (p.x1 ⊖ p.x0))
    share h l =
        let X0 = P.bounded.x0 in
        let X1 = P.bounded.x1 in
        let dx = sub_upto X.fine X0.fine X.bound X0.bound (lit≤ tt) in
        let dw = sub_upto X1.fine X0.fine X1.bound X0.bound (lit≤ tt) in
        div_share (above_zero dx.0 (sub-pos X.fine X0.fine h)) dw.0 (sub-pos X1.fine X0.fine (omega arith)) (sub_nonneg X.fine X0.fine (omega arith)) (sub_mono X.fine X0.fine X1.fine X0.fine (omega arith))

    go : (a b : Bool) → (T (not a) → k p.x0 < k x) → (T (not b) → k x < k p.x1) → ◌≡◌ {A = Heights} (cond a (record { low = p.low0; high = p.high0 })
        (cond b (record { low = p.low1; high = p.high1 })
        (record {
          low = between ((x ⊖ p.x0) ⊘ (p.x1 ⊖ p.x0)) p.low0 p.low1;
          high = between ((x ⊖ p.x0) ⊘ (p.x1 ⊖ p.x0)) p.high0 p.high1;
        }))) (record { low = p.low0; high = p.high0 })
    go true b f g = refl
    go false true f g = rw (P.low_level, P.high_level)
    go false false f g =
        let S = share (f tt) (g tt) in
        rw (P.low_level, P.high_level, between_level ((x ⊖ p.x0) ⊘ (p.x1 ⊖ p.x0)) p.low0 S P.low.num, between_level ((x ⊖ p.x0) ⊘ (p.x1 ⊖ p.x0)) p.high0 S P.high.num)

-- the move of such a strip, each number plus x or y
pub record MovedExactly (p : Trapezoid) (x y : Float) : Type 0 where
  pub x0 : k (moved_by p x y).x0 + o ≡ k p.x0 + k x
  pub x1 : k (moved_by p x y).x1 + o ≡ k p.x1 + k x
  pub low0 : k (moved_by p x y).low0 + o ≡ k p.low0 + k y
  pub low1 : k (moved_by p x y).low1 + o ≡ k p.low1 + k y
  pub high0 : k (moved_by p x y).high0 + o ≡ k p.high0 + k y
  pub high1 : k (moved_by p x y).high1 + o ≡ k p.high1 + k y

pub moved_exactly : (p : Trapezoid) (x y : Float) → LevelStrip p → OnGrid 2048000000 x → OnGrid 2048000000 y → MovedExactly p x y
unfolding moved_by
moved_exactly p x y P X Y = record { x0 = s P.x0 X; x1 = s P.x1 X; low0 = s P.low Y; low1 = rw P.low_level (s P.low Y); high0 = s P.high Y; high1 = rw P.high_level (s P.high Y) }
  where
    s : {a b : Float} → OnGrid 1024000000 a → OnGrid 2048000000 b → k (a ⊕ b) + o ≡ k a + k b
    s A B = sum-exact 1024000000 2048000000 (lib.Dec.lit< tt) A B

-- the forbidden interval of two level strips: from p's low less q's high to p's high less q's low, both exact
pub record ExactInterval (p q : Trapezoid) (i : Interval) : Type 0 where
  pub from : k i.from + k q.high0 ≡ k p.low0 + o
  pub to : k i.to + k q.low0 ≡ k p.high0 + o

smaller-same : (a : Float) → smaller a a ≡ a
unfolding smaller
smaller-same a = go (lt a a)
  where
    go : (t : Bool) → cond t a a ≡ a
    go true = refl
    go false = refl

larger-same : (a : Float) → larger a a ≡ a
unfolding larger
larger-same a = go (lt a a)
  where
    go : (t : Bool) → cond t a a ≡ a
    go true = refl
    go false = refl

pub level_interval : (p q : Trapezoid) (x : Float) → LevelStrip p → LevelStrip q → Bounded 3000000 x → (i : Interval) → meeting_of q x p ≡ Some i → ExactInterval p q i
level_interval p q x P Q X i e = go (either (lt a b))
  where
    a : Float
    a = larger p.x0 (q.x0 ⊕ x)

    b : Float
    b = smaller p.x1 (q.x1 ⊕ x)

    A : Bounded 4000000 a
    A = larger-bounded (widen 1000000 4000000 (lit≤ tt) P.bounded.x0) (add-bounded 1000000 3000000 (lit≤ tt) Q.bounded.x0 X)

    B : Bounded 4000000 b
    B = smaller-bounded (widen 1000000 4000000 (lit≤ tt) P.bounded.x1) (add-bounded 1000000 3000000 (lit≤ tt) Q.bounded.x1 X)

    j : Interval
    j = interval_of (heights_at p a) (heights_at p b) (heights_at q (a ⊖ x)) (heights_at q (b ⊖ x))

    over : lt a b ≡ true → meeting_of q x p ≡ Some j
    over t = unfold meeting_of in rw (t, meeting_of)

    apart : lt a b ≡ false → meeting_of q x p ≡ None
    apart t = unfold meeting_of in rw (t, meeting_of)

    ph : (y : Float) → Bounded 4000000 y → heights_at p y ≡ record { low = p.low0; high = p.high0 }
    ph y Y = level_heights p y P (widen 4000000 7000000 (lit≤ tt) Y)

    qh : (y : Float) → Bounded 4000000 y → heights_at q (y ⊖ x) ≡ record { low = q.low0; high = q.high0 }
    qh y Y = level_heights q (y ⊖ x) Q (sub-bounded 4000000 3000000 (lit≤ tt) Y X)

    from_is : j.from ≡ p.low0 ⊖ q.high0
    from_is = unfold interval_of in rw (ph a A, ph b B, qh a A, qh b B, smaller-same (p.low0 ⊖ q.high0))

    to_is : j.to ≡ p.high0 ⊖ q.low0
    to_is = unfold interval_of in rw (ph a A, ph b B, qh a A, qh b B, larger-same (p.high0 ⊖ q.low0))

    exact : ExactInterval p q j
    exact = record { from = rw from_is (difference_exact 1024000000 1024000000 (lib.Dec.lit< tt) P.low Q.high); to = rw to_is (difference_exact 1024000000 1024000000 (lib.Dec.lit< tt) P.high Q.low) }

    go : (lt a b ≡ true) ⊎ (lt a b ≡ false) → ExactInterval p q i
    go (inl t) = let z : j ≡ i = cc (over t) in subst (ExactInterval p q) z exact
    go (inr t) = absurd (no (sym (apart t) ∙ e))
      where
        no : {i : Interval} → None ≡ Some i → ⊥
        no e = let z : ◌≡◌ {A = ℕ} 0 1 = cc in omega arith
