-- Where bounds and resolution lie within refusal 31's ranges, every column stands within 3,000,000: c × resolution is at most the range and one
-- resolution, and rounding adds little. Assumes nothing.
use Prim.Native.Nat.{ℕ, suc, ◌+◌, ◌-◌, ◌*◌, ◌/◌, ◌^◌, ◌≤◌, ◌<◌, min}
use native.Mathlib.Nat.{le_trans, le_of_eq, le_of_lt, le_of_suc-le-suc, suc-mul, mul-one, mul_assoc, mul_right_comm, mul-le-mul_right, mul-pos, le-div_iff_mul-le, le_of_mul-le-mul_right, div-mul-le_self, lt-div-mul-add}
use native.Mathlib.Omega.{arith}
use mathlib.Core.Path.{◌≡◌, sym, ap, subst, ◌∙◌}
use mathlib.Core.Logic.{inl, inr}
use mathlib.Core.Bool.{Bool, false}
use lib.Dec.{lit≤, lit<, leb}
use lib.Ieee.{Float, binary64, to_unsigned, unlike}
use lib.Ieee.Fits.{mul-fits}
use borrow.Author.Tests.{leb-true}
use Rattle.numbers.specs.Numbers.{◌⊕◌, ◌⊖◌, ◌⊗◌, ◌⊘◌, from_int, pos_zero, plus_zero}
use Rattle.numbers.proofs.Truth.{either, below_or_not}
use Rattle.numbers.proofs.Keys.{mag, negative, shift, unit-pos, finite_real}
use Rattle.numbers.proofs.Rounding.{near, near_mono, key-pos}
use Rattle.numbers.proofs.Operations.{mul-key, mul-real, div-key}
use Rattle.numbers.proofs.Bounds.{near-whole, within_finite}
use Rattle.numbers.proofs.RoundDown.{floor_is, floor-lt}
use Rattle.numbers.proofs.Ranges.{int_num, zero_num, zero-key, sub-exact, add-exact, sub_self, nonneg_minus, div-within, floor_within}
use Rattle.numbers.proofs.Patterns.{plus-number}
use Rattle.numbers.proofs.Literals.{milli}
use Rattle.numbers.proofs.Doubles as Doubles
use Rattle.numbers.proofs.Doubles.{k, o, u, Finite, Number, Upto, add_mono, sub_mono, div_mono, sub_nonneg, add_upto, sub_upto}
use Rattle.bits.proofs.Accepted.{UpFrom}
use Rattle.strips.specs.declared.Rect.{Rect}
use Rattle.index.specs.inner.Listing.{Bounded}
use Rattle.filling.proofs.WithinBoundsNumbers.{quotient_from}
use Rattle.search.specs.columns.inner.Stands.{columns_of, regular_of, column_x}
use Rattle.search.proofs.columns.Steps.{x_regular, x_extra}
use Rattle.search.proofs.columns.Sizes.{BoundedRect, Resolving, x_low-bounded, x_high-bounded}
use Rattle.filling_laws.proofs.ReadyNumbers.{resolving}

-- ---- a sum or a difference of at most so many whole units

whole : (m : ℕ) → m ≤ 2 ^ 53 → Number (from_int m) × (k (from_int m) ≡ o + m * u)
whole m h = int_num binary64 m h

nothing : Finite pos_zero
nothing = Doubles.finite (zero_num binary64)

add-below : {x y : Float} (m : ℕ) → Finite x → Finite y → m ≤ 2 ^ 53 → k x + k y ≤ o + (o + m * u) → k (x ⊕ y) ≤ o + m * u
add-below {x} {y} m X Y h l =
    let W = whole m h in
    let e = add-exact binary64 (from_int m) pos_zero (from_int m) W.0 nothing W.0 (ap (λ (n : ℕ). k (from_int m) + n) (zero-key binary64)) in
    z (k (x ⊕ y)) (k (from_int m ⊕ pos_zero)) (k (from_int m)) (o + m * u) (add_mono X Y (Doubles.finite W.0) nothing (w (k x + k y) (k (from_int m)) (k pos_zero) (o + m * u) l W.1 (zero-key binary64))) (ap k e) W.1
  where
    w : (s a b n : ℕ) → s ≤ o + n → a ≡ n → b ≡ o → s ≤ a + b
    w s a b n h e f = omega arith

    z : (a b c n : ℕ) → a ≤ b → b ≡ c → c ≡ n → a ≤ n
    z a b c n h e f = omega arith

sub-below : {x y : Float} (m : ℕ) → Finite x → Finite y → m ≤ 2 ^ 53 → k x ≤ k y + m * u → k (x ⊖ y) ≤ o + m * u
sub-below {x} {y} m X Y h l =
    let W = whole m h in
    let e = sub-exact binary64 (from_int m) pos_zero (from_int m) W.0 nothing W.0 (ap (λ (n : ℕ). k (from_int m) + n) (sym (zero-key binary64))) in
    z (k (x ⊖ y)) (k (from_int m ⊖ pos_zero)) (k (from_int m)) (o + m * u) (sub_mono X Y (Doubles.finite W.0) nothing (w (k x) (k y) (k (from_int m)) (k pos_zero) (m * u) l W.1 (zero-key binary64))) (ap k e) W.1
  where
    w : (x y a b n : ℕ) → x ≤ y + n → a ≡ o + n → b ≡ o → x + b ≤ a + y
    w x y a b n h e f = omega arith

    z : (a b c n : ℕ) → a ≤ b → b ≡ c → c ≡ n → a ≤ n
    z a b c n h e f = omega arith

-- what is added is not negative: the sum is at least the other
add-above : {x y : Float} (m : ℕ) → Finite x → Finite y → Upto m x → o ≤ k y → m ≤ 2 ^ 53 → o ≤ k (x ⊕ y) + m * u
add-above {x} {y} m X Y B p h =
    let s = add_upto {a = m} {b = 0} X nothing B (record { at_least = v (k pos_zero) (0 * u) (zero-key binary64); at_most = w (k pos_zero) (0 * u) (zero-key binary64) }) (omega arith) in
    let e : m + 0 ≡ m = omega arith in
    z (k (x ⊕ pos_zero)) (k (x ⊕ y)) (m * u) (subst (λ (n : ℕ). o ≤ k (x ⊕ pos_zero) + n * u) e s.1.at_least) (add_mono X nothing X Y (y' (k x) (k pos_zero) (k y) (zero-key binary64) p))
  where
    v : (a b : ℕ) → a ≡ o → o ≤ a + b
    v a b e = omega arith

    w : (a b : ℕ) → a ≡ o → a ≤ o + b
    w a b e = omega arith

    y' : (x z y : ℕ) → z ≡ o → o ≤ y → x + z ≤ x + y
    y' x z y e h = omega arith

    z : (a b n : ℕ) → o ≤ a + n → a ≤ b → o ≤ b + n
    z a b n h l = omega arith

-- the whole units that hold q
abbrev units : ℕ → ℕ
units q = suc (q / u)

units-hold : (q : ℕ) → q ≤ units q * u
units-hold q = z (q / u * u) (units q * u) u q (suc-mul (q / u) u) (lt-div-mul-add (unit-pos binary64))
  where
    z : (a b u q : ℕ) → b ≡ a + u → q < a + u → q ≤ b
    z a b u q e h = omega arith

units-near : (q : ℕ) → units q * u ≤ q + u
units-near q = z (q / u * u) (units q * u) u q (suc-mul (q / u) u) (div-mul-le_self q u)
  where
    z : (a b u q : ℕ) → b ≡ a + u → a ≤ q → b ≤ q + u
    z a b u q e h = omega arith

units-few : (q n : ℕ) → q ≤ n * u → units q ≤ suc n
units-few q n h = le_of_mul-le-mul_right (le_trans (units-near q) (z q (n * u) u (suc n * u) h (suc-mul n u))) (unit-pos binary64)
  where
    z : (q a u b : ℕ) → q ≤ a → b ≡ a + u → q + u ≤ b
    z q a u b h e = omega arith

-- ---- where a column stands

module _ {r xl xh : Float} (R : UpFrom milli 10000 r) (L : Bounded 2000000 xl) (H : Bounded 2000000 xh) where
  abbrev d : Float
  d = xh ⊖ xl

  F : Finite r
  F = Doubles.finite R.num

  S : Resolving r
  S = resolving R

  D : Finite d × Upto 4000000 d
  D = sub_upto {a = 2000000} {b = 2000000} H.fine L.fine H.bound L.bound (lit≤ tt)

  q : Finite (d ⊘ r) × Upto 4000000000 (d ⊘ r)
  q = div-within binary64 4000000 1000 d r D.0 F D.1 S.some S.least (lit≤ tt)

  abbrev count : ℕ
  count = to_unsigned 64 (d ⊘ r)

  count-few : count ≤ 4000000000
  count-few = floor_within binary64 64 4000000000 (d ⊘ r) q.0 q.1 (lit≤ tt)

  -- reversed: no column but the first
  count_none : k xh < k xl → count ≤ 0
  count_none h =
      let z = zero-key binary64 in
      let a = sub_mono H.fine L.fine nothing nothing (w (k xh) (k xl) (k pos_zero) h) in
      let b = ap k (sub_self binary64 pos_zero (zero_num binary64)) in
      let n = div-within binary64 0 1000 pos_zero r nothing F (record { at_least = v (k pos_zero) (0 * u) z; at_most = x (k pos_zero) (0 * u) z }) S.some S.least (lit≤ tt) in
      let m = div_mono {x = d} {x' = pos_zero} D.0 nothing F S.some (y (k d) (k (pos_zero ⊖ pos_zero)) (k pos_zero) a b) in
      le_of_suc-le-suc (floor-lt binary64 64 (d ⊘ r) 1 q.0.fit (finite_real (d ⊘ r) q.0.is_finite) (lit≤ tt) (lit< tt)
      (t (k (d ⊘ r)) (k (pos_zero ⊘ r)) (0 * u) (1 * u) u m n.1.at_most (native.Mathlib.Nat.zero-mul u) (native.Mathlib.Nat.one-mul u) (unit-pos binary64)))
    where
      v : (a b : ℕ) → a ≡ o → o ≤ a + b
      v a b e = omega arith

      x : (a b : ℕ) → a ≡ o → a ≤ o + b
      x a b e = omega arith

      w : (h l p : ℕ) → h < l → h + p ≤ p + l
      w h l p e = omega arith

      y : (a b p : ℕ) → a ≤ b → b ≡ p → a ≤ p
      y a b p h e = omega arith

      t : (a b m n u : ℕ) → a ≤ b → b ≤ o + m → m ≡ 0 → n ≡ u → 0 < u → a < o + n
      t a b m n u h l e f g = omega arith

  module _ (c : ℕ) (h : c ≤ count) where
    few : c ≤ 2 ^ 53
    few = le_trans h (le_trans count-few (lit≤ tt))

    C : Number (from_int c) × (k (from_int c) ≡ o + c * u)
    C = whole c few

    C-from : o ≤ k (from_int c)
    C-from = z (k (from_int c)) (c * u) C.1
      where
        z : (a b : ℕ) → a ≡ o + b → o ≤ a
        z a b e = omega arith

    reached : c * u ≤ k (d ⊘ r) - o
    reached = (le-div_iff_mul-le (unit-pos binary64)).0 (z c ((k (d ⊘ r) - o) / u) (2 ^ 64 - 1) (subst (λ (n : ℕ). c ≤ n) (floor_is binary64 64 (d ⊘ r) q.0.fit (finite_real (d ⊘ r) q.0.is_finite) (lit≤ tt)) h))
      where
        z : (c a b : ℕ) → c ≤ min a b → c ≤ a
        z c a b h = omega arith

    -- c × resolution before it is rounded
    abbrev exact : ℕ
    exact = c * (k r - o)

    exact_upto : k xl ≤ k xh → exact ≤ (k d - o) + (k r - o)
    exact_upto p = quotient_from (k d - o) (k r - o) c (y (k r) S.some) few (z (c * u) (k (d ⊘ r)) (near binary64 (k d - o) (k r - o)) reached (div-key binary64 d r D.0 F S.some ∙ key-pos binary64 (k d) o (k r - o) (sub_nonneg H.fine L.fine p)))
      where
        y : (r : ℕ) → o < r → 0 < r - o
        y r h = omega arith

        z : (a q n : ℕ) → a ≤ q - o → q ≡ o + n → a ≤ n
        z a q n h e = omega arith

    abbrev product : Float
    product = from_int c ⊗ r

    product_key : k product ≡ o + near binary64 (c * u * (k r - o)) (u * u)
    product_key =
        let a = nonneg_minus binary64 (from_int c) C.0 C-from in
        let b = nonneg_minus binary64 r R.num (le_of_lt S.some) in
        let m : mag binary64 (from_int c) ≡ c * u = x (k (from_int c)) (mag binary64 (from_int c)) (c * u) C.1 a.1 in
        let n : mag binary64 r ≡ k r - o = y (k r) (mag binary64 r) b.1 in
        mul-key binary64 (from_int c) r (Doubles.finite C.0) F
        ∙ (ap (λ (s : Bool). shift o (unlike s (negative r)) (near binary64 (mag binary64 (from_int c) * mag binary64 r) (u * u))) a.0
        ∙ (ap (λ (s : Bool). shift o (unlike false s) (near binary64 (mag binary64 (from_int c) * mag binary64 r) (u * u))) b.0
        ∙ (ap (λ (v : ℕ). o + near binary64 (v * mag binary64 r) (u * u)) m
        ∙ ap (λ (v : ℕ). o + near binary64 (c * u * v) (u * u)) n)))
      where
        x : (a m b : ℕ) → a ≡ o + b → a ≡ o + m → m ≡ b
        x a m b e f = omega arith

        y : (r m : ℕ) → r ≡ o + m → m ≡ r - o
        y r m e = omega arith

    product_from : o ≤ k product
    product_from = z (k product) (near binary64 (c * u * (k r - o)) (u * u)) product_key
      where
        z : (a b : ℕ) → a ≡ o + b → o ≤ a
        z a b e = omega arith

    product_near : units exact ≤ 2 ^ 53 → k product ≤ o + (exact + u)
    product_near f =
        z (k product) (near binary64 (c * u * (k r - o)) (u * u)) (units exact * u) (exact + u) product_key
        (le_trans (near_mono binary64 (c * u * (k r - o)) (u * u) (units exact) 1 (mul-pos (unit-pos binary64) (unit-pos binary64)) (lit< tt)
        (le_trans (le_of_eq (mul-one (c * u * (k r - o)) ∙ mul_right_comm c u (k r - o))) (le_trans (mul-le-mul_right u (units-hold exact)) (le_of_eq (mul_assoc (units exact) u u)))))
        (le_of_eq (near-whole binary64 (units exact) f)))
        (units-near exact)
      where
        z : (a n m e : ℕ) → a ≡ o + n → n ≤ m → m ≤ e → a ≤ o + e
        z a n m e p h l = omega arith

    -- c × resolution is at most the range and a resolution, and what rounding adds
    reversed-exact : k xh < k xl → exact ≡ 0
    reversed-exact p = let e : c ≡ 0 = z c count h (count_none p) in ap (λ (n : ℕ). n * (k r - o)) e ∙ native.Mathlib.Nat.zero-mul (k r - o)
      where
        z : (c n : ℕ) → c ≤ n → n ≤ 0 → c ≡ 0
        z c n h l = omega arith

    range_near : k xl ≤ k xh → k d ≤ o + ((k xh - k xl) + u)
    range_near p = z (k d) (units (k xh - k xl) * u) (k xh - k xl) (sub-below (units (k xh - k xl)) H.fine L.fine (le_trans (units-few (k xh - k xl) 4000000 (v (k xh) (k xl) H.bound.at_most L.bound.at_least)) (lit≤ tt)) (w (k xh) (k xl) (units (k xh - k xl) * u) (units-hold (k xh - k xl)))) (units-near (k xh - k xl))
      where
        v : (h l : ℕ) → h ≤ o + 2000000 * u → o ≤ l + 2000000 * u → h - l ≤ 4000000 * u
        v h l a b = omega arith

        w : (h l m : ℕ) → h - l ≤ m → h ≤ l + m
        w h l m a = omega arith

        z : (a m q : ℕ) → a ≤ o + m → m ≤ q + u → a ≤ o + (q + u)
        z a m q h l = omega arith

    exact-near : k xl ≤ k xh → exact + k xl ≤ k xh + 10001 * u
    exact-near p = z exact (k d) (k r) (k xl) (k xh) u (exact_upto p) (range_near p) R.high.at_most p
      where
        z : (e d r l h u : ℕ) → e ≤ (d - o) + (r - o) → d ≤ o + ((h - l) + u) → r ≤ o + 10000 * u → l ≤ h → e + l ≤ h + 10001 * u
        z e d r l h u a b c f = omega arith

    exact-few : exact ≤ 4010001 * u
    exact-few = elim (below_or_not (k xh) (k xl)) [
      | inl p ↦ z exact (4010001 * u) (reversed-exact p)
      | inr p ↦ w exact (k xl) (k xh) u (exact-near p) H.bound.at_most L.bound.at_least
    ]
      where
        z : (e n : ℕ) → e ≡ 0 → e ≤ n
        z e n h = omega arith

        w : (e l h u : ℕ) → e + l ≤ h + 10001 * u → h ≤ o + 2000000 * u → o ≤ l + 2000000 * u → e ≤ 4010001 * u
        w e l h u a b c = omega arith

    product_close : k product ≤ o + (exact + u)
    product_close = product_near (le_trans (units-few exact 4010001 exact-few) (lit≤ tt))

    product_bounded : Finite product × Upto 4010002 product
    product_bounded = (record { fit = mul-fits binary64 (from_int c) r; is_finite = within_finite binary64 product 4010002 (mul-fits binary64 (from_int c) r) (mul-real binary64 (from_int c) r (Doubles.finite C.0) F) (lit≤ tt) W }, W)
      where
        y : (p n : ℕ) → o ≤ p → o ≤ p + n
        y p n h = omega arith

        z : (p e u : ℕ) → p ≤ o + (e + u) → e ≤ 4010001 * u → p ≤ o + 4010002 * u
        z p e u h l = omega arith

        W : Upto 4010002 product
        W = record { at_least = y (k product) (4010002 * u) product_from; at_most = z (k product) exact u product_close exact-few }

    sum_upto : k xl + k product ≤ o + (o + 3000000 * u)
    sum_upto = elim (below_or_not (k xh) (k xl)) [
      | inl p ↦ z (k xl) (k product) exact u product_close (reversed-exact p) L.bound.at_most
      | inr p ↦ w (k xl) (k product) exact (k xh) u product_close (exact-near p) H.bound.at_most
    ]
      where
        z : (l p e u : ℕ) → p ≤ o + (e + u) → e ≡ 0 → l ≤ o + 2000000 * u → l + p ≤ o + (o + 3000000 * u)
        z l p e u a b c = omega arith

        w : (l p e h u : ℕ) → p ≤ o + (e + u) → e + l ≤ h + 10001 * u → h ≤ o + 2000000 * u → l + p ≤ o + (o + 3000000 * u)
        w l p e h u a b c = omega arith

    regular_bounded : Bounded 3000000 (xl ⊕ product)
    regular_bounded =
        let s = add_upto {a = 2000000} {b = 4010002} L.fine product_bounded.0 L.bound product_bounded.1 (lit≤ tt) in
        record {
          fine = s.0;
          bound = record { at_least = z (k (xl ⊕ product)) u (add-above 2000000 L.fine product_bounded.0 L.bound product_from (lit≤ tt)); at_most = add-below 3000000 L.fine product_bounded.0 (lit≤ tt) sum_upto };
        }
      where
        z : (a u : ℕ) → o ≤ a + 2000000 * u → o ≤ a + 3000000 * u
        z a u h = omega arith

-- ---- the columns of an orientation

plus-bounded : {n : ℕ} {x : Float} → Bounded n x → Bounded n (plus_zero x)
plus-bounded {n} {x} B =
    let p = plus-number x B.fine in
    record { fine = Doubles.finite p.0; bound = record { at_least = subst (λ (m : ℕ). o ≤ m + n * u) (sym p.1) B.bound.at_least; at_most = subst (λ (m : ℕ). m ≤ o + n * u) (sym p.1) B.bound.at_most } }

bounded_more : {x : Float} → Bounded 2000000 x → Bounded 3000000 x
bounded_more {x} B = record { fine = B.fine; bound = record { at_least = y (k x) u B.bound.at_least; at_most = z (k x) u B.bound.at_most } }
  where
    y : (a u : ℕ) → o ≤ a + 2000000 * u → o ≤ a + 3000000 * u
    y a u h = omega arith

    z : (a u : ℕ) → a ≤ o + 2000000 * u → a ≤ o + 3000000 * u
    z a u h = omega arith

module _ (s b : Rect) (r : Float) (S : BoundedRect s) (B : BoundedRect b) (R : UpFrom milli 10000 r) where
  regular_at : (c : ℕ) → c ≤ (columns_of s b r).count → Bounded 3000000 (regular_of (columns_of s b r) c)
  unfolding columns_of regular_of
  regular_at c h = regular_bounded R (x_low-bounded s b r S B) (x_high-bounded s b r S B) c h

  -- every column, the extra one too
  pub column-bounded : (c : ℕ) → Bounded 3000000 (column_x (columns_of s b r) c)
  column-bounded c = elim (either (leb c (columns_of s b r).count)) [
    | inl e ↦ subst (Bounded 3000000) (sym (x_regular (columns_of s b r) c e)) (plus-bounded (regular_at c (leb-true _ _ e)))
    | inr e ↦ subst (Bounded 3000000) (sym (x_extra (columns_of s b r) c e)) (plus-bounded (bounded_more (x_high-bounded s b r S B)))
  ]
