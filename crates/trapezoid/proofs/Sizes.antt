-- Sizes of a strip's numbers: its heights at an x and its move stay within stated bounds. Assumes nothing.
use Prim.Native.Nat.{ℕ, ◌+◌, ◌*◌, ◌^◌, ◌≤◌, ◌<◌}
use native.Mathlib.Omega.{arith}
use native.Mathlib.Nat.{mul-le-mul_right}
use mathlib.Core.Bool.{Bool, true, false, not, cond}
use lib.Dec.{T}
use lib.Ieee.{Float, le}
use Rattle.numbers.specs.Numbers.{◌⊕◌, ◌⊖◌, ◌⊘◌}
use Rattle.numbers.proofs.Doubles.{k, o, u, Number, Upto, Small, Share, finite, le_no, add_upto, sub_upto, add-number, sub_number, add_mono, sub_mono, sub-pos, sub_nonneg, div_share, share_upto}
use Rattle.trapezoid.specs.declared.Trapezoid.{Trapezoid}
use Rattle.trapezoid.specs.declared.Heights.{Heights}
use Rattle.trapezoid.specs.Strip.{between, heights_at, moved_by}

-- numbers, never minus zero: the x's of at most n either way, the heights of at most m
pub record Sized (n m : ℕ) (s : Trapezoid) : Type 0 where
  pub x0 : Small n s.x0
  pub x1 : Small n s.x1
  pub low0 : Small m s.low0
  pub low1 : Small m s.low1
  pub high0 : Small m s.high0
  pub high1 : Small m s.high1

-- a bound may be taken larger
pub small_more : {n m : ℕ} {x : Float} → Small n x → n ≤ m → Small m x
small_more {n} {m} {x} s h = record { num = s.num; bound = record { at_least = y o (k x) (n * u) (m * u) (mul-le n m h) s.bound.at_least; at_most = z o (k x) (n * u) (m * u) (mul-le n m h) s.bound.at_most } }
  where
    mul-le : (n m : ℕ) → n ≤ m → n * u ≤ m * u
    mul-le n m h = mul-le-mul_right u h

    y : (o k a b : ℕ) → a ≤ b → o ≤ k + a → o ≤ k + b
    y o k a b h l = omega arith

    z : (o k a b : ℕ) → a ≤ b → k ≤ o + a → k ≤ o + b
    z o k a b h l = omega arith

-- ---- moved

small-sum : {n a : ℕ} {x y : Float} → Small n x → Small a y → n + a ≤ 2 ^ 53 → Small (n + a) (x ⊕ y)
small-sum X Y h =
    let r = add_upto (finite X.num) (finite Y.num) X.bound Y.bound h in
    record { num = add-number X.num (finite Y.num) r.0; bound = r.1 }

module _ {n m a b : ℕ} {x y : Float} (s : Trapezoid) (S : Sized n m s) (X : Small a x) (Y : Small b y) where
  -- each number of the moved strip is finite and not minus zero
  pub moved-sized : n + a ≤ 2 ^ 53 → m + b ≤ 2 ^ 53 → Sized (n + a) (m + b) (moved_by s x y)
  unfolding moved_by
  moved-sized h l = record {
    x0 = small-sum S.x0 X h;
    x1 = small-sum S.x1 X h;
    low0 = small-sum S.low0 Y l;
    low1 = small-sum S.low1 Y l;
    high0 = small-sum S.high0 Y l;
    high1 = small-sum S.high1 Y l;
  }

  -- x0 does not pass x1; rounding can make them equal
  pub moved_order : k s.x0 ≤ k s.x1 → k (moved_by s x y).x0 ≤ k (moved_by s x y).x1
  unfolding moved_by
  moved_order h = add_mono (finite S.x0.num) (finite X.num) (finite S.x1.num) (finite X.num) (omega arith)

-- ---- heights at an x

-- a share of the way from one height to another
between-small : {m : ℕ} {t p q : Float} → Share t → Small m p → Small m q → m + (m + m) ≤ 2 ^ 53 → Small (m + (m + m)) (between t p q)
between-small {m} S P Q h =
    let d = sub_upto (finite Q.num) (finite P.num) Q.bound P.bound (omega arith) in
    let s = share_upto S d.0 d.1 (omega arith) in
    let r = add_upto (finite P.num) s.0 P.bound s.1 h in
    record { num = add-number P.num s.0 r.0; bound = r.1 }

share_of : {n : ℕ} {p q x : Float} → Small n p → Small n q → Number x → k p < k x → k x < k q → n + n ≤ 2 ^ 53 → Share ((x ⊖ p) ⊘ (q ⊖ p))
share_of {n} {p} {q} {x} P Q X h l g =
    let fp = finite P.num in
    let fq = finite Q.num in
    let fx = finite X in
    let bx : Upto n x = record { at_least = y o (k p) (k x) (n * u) P.bound.at_least h; at_most = z o (k q) (k x) (n * u) Q.bound.at_most l } in
    let dx = sub_upto fx fp bx P.bound g in
    let dw = sub_upto fq fp Q.bound P.bound g in
    div_share (sub_number X fp dx.0) dw.0 (sub-pos fq fp (omega arith)) (sub_nonneg fx fp (omega arith)) (sub_mono fx fp fq fp (omega arith))
  where
    y : (o p x a : ℕ) → o ≤ p + a → p < x → o ≤ x + a
    y o p x a h l = omega arith

    z : (o q x a : ℕ) → q ≤ o + a → x < q → x ≤ o + a
    z o q x a h l = omega arith

-- the heights that the two tests pick
abbrev pick : Trapezoid → Float → Bool → Bool → Heights
pick s x a b =
    let t = (x ⊖ s.x0) ⊘ (s.x1 ⊖ s.x0) in
    cond a (record { low = s.low0; high = s.high0 })
    (cond b (record { low = s.low1; high = s.high1 })
    (record { low = between t s.low0 s.low1; high = between t s.high0 s.high1 }))

module _ {n m : ℕ} (s : Trapezoid) (S : Sized n m s) (nn : n + n ≤ 2 ^ 53) (mm : m + (m + m) ≤ 2 ^ 53) where
  -- both heights at any x are finite, not minus zero and at most three times as large
  pub at_small : (x : Float) → Number x → Small (m + (m + m)) (heights_at s x).low × Small (m + (m + m)) (heights_at s x).high
  unfolding heights_at
  at_small x X = go (le x s.x0) (le s.x1 x) (le_no (finite X) (finite S.x0.num)) (le_no (finite S.x1.num) (finite X))
    where
      go : (a b : Bool) → (T (not a) → k s.x0 < k x) → (T (not b) → k x < k s.x1) → Small (m + (m + m)) (pick s x a b).low × Small (m + (m + m)) (pick s x a b).high
      go true b h g = (small_more S.low0 (omega arith), small_more S.high0 (omega arith))
      go false true h g = (small_more S.low1 (omega arith), small_more S.high1 (omega arith))
      go false false h g = let r = share_of S.x0 S.x1 X (h tt) (g tt) nn in (between-small r S.low0 S.low1 mm, between-small r S.high0 S.high1 mm)
