-- The places that a search can yield, whatever strips stand: x within 610,000, y within 200,000, the clear height from 0 to 400,000. Assumes nothing.
use Rattle.std.specs.Prelude.{Some, None}
use mathlib.Core.Path.{◌≡◌, refl, sym, ap, subst, ◌∙◌}
use mathlib.Core.Bool.{Bool, true, false, not, ◌&&◌, ◌||◌, cond}
use mathlib.Core.List.{List, [], ◌∷◌, map, flat_map}
use Prim.Native.Nat.{ℕ, ◌+◌, ◌*◌, ◌≤◌, ◌<◌, ◌^◌}
use native.Mathlib.Nat.{le_refl}
use native.Mathlib.Omega.{arith}
use lib.Dec.{T, lit≤, leb, leb→le}
use lib.Ieee.{Float, nan, inf, fin, binary64, fits, le, lt, to_unsigned}
use lib.Ieee.Fits.{sub-fits}
use Rattle.numbers.specs.Numbers.{◌⊕◌, ◌⊖◌, ◌⊗◌, ◌⊘◌, from_int, smaller, larger, plus_zero}
use Rattle.numbers.proofs.Truth.{holds, fails, both_first}
use Rattle.numbers.proofs.Keys.{real, finite_real, nlt→key, le→key, lt→key}
use Rattle.numbers.proofs.Rounding.{finite_of_key, key_finite}
use Rattle.numbers.proofs.Patterns.{plus-number}
use Rattle.numbers.proofs.Literals.{milli}
use Rattle.numbers.proofs.Doubles.{k, o, u, Finite, Number, Upto, Small, finite, lt_no, add_upto, sub_upto, sub_number, sub_nonneg, smaller-fits, larger-fits}
use Rattle.trapezoid.specs.declared.Trapezoid.{Trapezoid}
use Rattle.trapezoid.specs.declared.Heights.{Heights}
use Rattle.trapezoid.specs.Strip.{strip_at, capacity, heights_at}
use Rattle.trapezoid.proofs.Sizes.{small_more}
use Rattle.slabs.proofs.Merging.{All, all_append}
use Rattle.strips.specs.declared.Rect.{Rect}
use Rattle.strips.proofs.Sizes.{Framed}
use Rattle.index.specs.declared.Interval.{Interval}
use Rattle.index.specs.Buckets.{up_from, keep}
use Rattle.index.specs.Intervals.{interval_of, meeting_of, interval_in, forbidden_of, counts_of, counted_of}
use Rattle.look.specs.height.Smallest.{outside, candidates, least, next_bottom, clear_above, free_at, lowest, height_of}
use Rattle.look.specs.Looking.{counted_in}
use Rattle.bits.proofs.Accepted.{UpFrom}
use Rattle.filling.specs.Columns.{Ranges, ranges, reversed, columns, regular_column, column_at}
use Rattle.filling.specs.Shapes.{Planner, Shape}
use Rattle.filling.specs.Search.{ranges_of, reversed_for, intervals_at, look_at}
use Rattle.filling.proofs.FullStays.{le_reals}
use Rattle.filling.proofs.Numbers31.{Yielded}
use Rattle.filling.proofs.WithinBoundsNumbers.{column_upto}
use Rattle.look.specs.declared.height.Look.TheVariants.{Free}

-- ---- lists

all_flat : {A B : Type 0} (P : B → Type 0) (f : A → List B) (zs : List A) → ((a : A) → All P (f a)) → All P (flat_map f zs)
unfolding flat_map
all_flat P f [] h = tt
all_flat P f (z ∷ zs) h = all_append P (f z) (flat_map f zs) (h z) (all_flat P f zs h)

all_map : {A B : Type 0} (P : B → Type 0) (f : A → B) (l : List A) → All (λ a. P (f a)) l → All P (map f l)
all_map P f [] h = tt
all_map P f (a ∷ l) h = (h.0, all_map P f l h.1)

pub all_kept : {A : Type 0} (P Q : A → Type 0) (test : A → Bool) (l : List A) → All P l → ((a : A) → P a → test a ≡ true → Q a) → All Q (keep test l)
unfolding keep
all_kept P Q test [] h f = tt
all_kept P Q test (a ∷ l) h f = go (test a) refl (all_kept P Q test l h.1 f)
  where
    go : (t : Bool) → test a ≡ t → All Q (keep test l) → All Q (elim t [ true ↦ a ∷ keep test l | false ↦ keep test l ])
    go true e r = (f a h.0 e, r)
    go false e r = r

-- ---- the ends of an interval are differences, and so doubles

abbrev FittedEnds : Interval → Type 0
FittedEnds i = T (fits binary64 i.from) × T (fits binary64 i.to)

abbrev Fitted : List Interval → Type 0
Fitted is = All FittedEnds is

interval_fits : (pa pb qa qb : Heights) → FittedEnds (interval_of pa pb qa qb)
unfolding interval_of
interval_fits pa pb qa qb = (
  smaller-fits (pa.low ⊖ qa.high) (pb.low ⊖ qb.high) (sub-fits binary64 pa.low qa.high) (sub-fits binary64 pb.low qb.high),
  larger-fits (pa.high ⊖ qa.low) (pb.high ⊖ qb.low) (sub-fits binary64 pa.high qa.low) (sub-fits binary64 pb.high qb.low),
)

pair_fits : (q : Trapezoid) (x : Float) (p : Trapezoid) → Fitted (interval_in (meeting_of q x p))
unfolding meeting_of interval_in
pair_fits q x p = go (larger p.x0 (q.x0 ⊕ x)) (smaller p.x1 (q.x1 ⊕ x)) (lt (larger p.x0 (q.x0 ⊕ x)) (smaller p.x1 (q.x1 ⊕ x)))
  where
    go : (a b : Float) (t : Bool) → Fitted (interval_in (elim t [ true ↦ Some (interval_of (heights_at p a) (heights_at p b) (heights_at q (a ⊖ x)) (heights_at q (b ⊖ x))) | false ↦ None ]))
    go a b true = (interval_fits (heights_at p a) (heights_at p b) (heights_at q (a ⊖ x)) (heights_at q (b ⊖ x)), tt)
    go a b false = tt

forbidden_fits : (standing moving : List Float) (x : Float) → Fitted (forbidden_of standing moving x)
unfolding forbidden_of
forbidden_fits standing moving x =
    all_flat FittedEnds (λ j. flat_map (λ i. interval_in (meeting_of (strip_at moving j) x (strip_at standing i))) (up_from (capacity standing) 0)) (up_from (capacity moving) 0) (λ j.
    all_flat FittedEnds (λ i. interval_in (meeting_of (strip_at moving j) x (strip_at standing i))) (up_from (capacity standing) 0) (λ i. pair_fits (strip_at moving j) x (strip_at standing i)))

counted_of_fits : (yl yh : Float) (standing moving : List Float) (x : Float) → Fitted (counted_of yl yh standing moving x)
unfolding counted_of
counted_of_fits yl yh standing moving x =
    all_kept FittedEnds FittedEnds (counts_of yl yh) (forbidden_of standing moving x) (forbidden_fits standing moving x) (λ i p e. p)

pub counted-fits : (x yl yh : Float) (inset apart sheet placed : List Float) → Fitted (counted_in x yl yh inset apart sheet placed)
unfolding counted_in
counted-fits x yl yh inset apart sheet placed =
    all_append FittedEnds (counted_of yl yh sheet inset x) (counted_of yl yh placed apart x) (counted_of_fits yl yh sheet inset x) (counted_of_fits yl yh placed apart x)

-- ---- a free height lies from the lowest to the highest

not_nan : (x y : Float) → T (le x y) → T (real x)
unfolding le
not_nan nan y h = absurd h
not_nan (inf s) y h = tt
not_nan (fin s m e) y h = tt

least_in : (Q : Float → Type 0) (a : Float) (l : List Float) → Q a → All Q l → Q (least a l)
unfolding least smaller
least_in Q a [] p h = p
least_in Q a (b ∷ l) p h = least_in Q (cond (lt b a) b a) l (go (lt b a)) h.1
  where
    go : (t : Bool) → Q (cond t b a)
    go true = h.0
    go false = p

lowest_in : (Q : Float → Type 0) (yh : Float) (is : List Interval) (cs : List Float) (y g : Float) → All Q cs → lowest yh is cs ≡ Free y g → (c : Float) × Q c × (y ≡ plus_zero c) × (g ≡ clear_above yh is y)
unfolding lowest free_at
lowest_in Q yh is [] y g h e = absurd (let z : ◌≡◌ {A = ℕ} 0 1 = cc in omega arith)
lowest_in Q yh is (d ∷ cs) y g h e =
    let z : plus_zero (least d cs) ≡ y = cc in
    let v : clear_above yh is (plus_zero (least d cs)) ≡ g = cc in
    (least d cs, least_in Q d cs h.0 h.1, sym z, sym v ∙ ap (clear_above yh is) z)

module _ (yl yh : Float) (L : Finite yl) (H : Finite yh) where
  -- a double from the lowest on, if it is no NaN
  abbrev From : Float → Type 0
  From c = T (fits binary64 c) × (T (real c) → k yl ≤ k c)

  -- a double from the lowest to the highest
  abbrev To : Float → Type 0
  To c = Finite c × (k yl ≤ k c) × (k c ≤ k yh)

  top_from : (c : Float) → T (fits binary64 c) → not (lt c yl) ≡ true → From c
  top_from c p e = (p, λ r. nlt→key binary64 c yl p L.fit r (finite_real yl L.is_finite) (holds e))

  all_to : (is : List Interval) → Fitted is → All (λ (i : Interval). T (fits binary64 i.to)) is
  all_to [] h = tt
  all_to (i ∷ is) h = (h.0.1, all_to is h.1)

  candidates-from : (is : List Interval) → Fitted is → All From (candidates yl is)
  unfolding candidates
  candidates-from is h =
      ((L.fit, λ r. le_refl (k yl)), all_kept (λ (c : Float). T (fits binary64 c)) From (λ t. not (lt t yl)) (map (λ i. i.to) is) (all_map (λ (c : Float). T (fits binary64 c)) (λ i. i.to) is (all_to is h)) top_from)

  from_to : (is : List Interval) (c : Float) → From c → le c yh && outside is c ≡ true → To c
  from_to is c f e =
      let t = holds (both_first (le c yh) (outside is c) e) in
      let r = not_nan c yh t in
      let a = f.1 r in
      let b = le→key binary64 c yh f.0 H.fit t in
      let l = (key_finite binary64 yl L).0 in
      let h = (key_finite binary64 yh H).1 in
      (record { fit = f.0; is_finite = finite_of_key binary64 c f.0 r (z (k yl) (k c) l a) (w (k c) (k yh) b h) }, a, b)
    where
      z : (a c : ℕ) → 0 < a → a ≤ c → 0 < c
      z a c p q = omega arith

      w : (c h : ℕ) → c ≤ h → h < o + o → c < o + o
      w c h p q = omega arith

  pub height_between : (is : List Interval) → Fitted is → (y g : Float) → height_of yl yh is ≡ Free y g → Number y × (k yl ≤ k y) × (k y ≤ k yh) × (g ≡ clear_above yh is y)
  unfolding height_of
  height_between is h y g e =
      let w = lowest_in To yh is (keep (λ c. le c yh && outside is c) (candidates yl is)) y g (all_kept From To (λ c. le c yh && outside is c) (candidates yl is) (candidates-from is h) (from_to is)) e in
      let n = plus-number w.0 w.1.0 in
      let v : Number y × (k yl ≤ k y) × (k y ≤ k yh) = subst (λ (v : Float). Number v × (k yl ≤ k v) × (k v ≤ k yh)) (sym w.2) (n.0, (let a = n.1 in let b = w.1.1 in omega arith), (let a = n.1 in let b = w.1.2 in omega arith)) in
      (v.0, v.1, v.2, w.3)

-- ---- the clear height above it lies from zero to the range's height
module _ (yh y : Float) (H : Finite yh) (Y : Finite y) (below : k y ≤ k yh) where
  abbrev Between : Float → Type 0
  Between b = Finite b × (k y ≤ k b) × (k b ≤ k yh)

  abbrev Bottom : Float → Type 0
  Bottom b = T (fits binary64 b) × (le y b ≡ true)

  lower-between : (a b : Float) → Between a → Bottom b → (t : Bool) → lt b a ≡ t → Between (cond t b a)
  lower-between a b A B false e = A
  lower-between a b A B true e =
      let c = le→key binary64 y b Y.fit B.0 (holds B.1) in
      let d = lt→key binary64 b a B.0 A.0.fit (holds e) in
      let l = (key_finite binary64 y Y).0 in
      let u' = (key_finite binary64 yh H).1 in
      let m = A.2 in
      (record { fit = B.0; is_finite = finite_of_key binary64 b B.0 (le_reals y b B.1).1 (omega arith) (omega arith) }, c, omega arith)

  least-between : (a : Float) (l : List Float) → Between a → All Bottom l → Between (least a l)
  unfolding least smaller
  least-between a [] A h = A
  least-between a (b ∷ l) A h = least-between (cond (lt b a) b a) l (lower-between a b A h.0 (lt b a) refl) h.1

  all_from : (is : List Interval) → Fitted is → All (λ (i : Interval). T (fits binary64 i.from)) is
  all_from [] h = tt
  all_from (i ∷ is) h = (h.0.0, all_from is h.1)

  next-between : (is : List Interval) → Fitted is → Between (next_bottom yh is y)
  unfolding next_bottom
  next-between is h =
      least-between yh (keep (λ b. le y b) (map (λ i. i.from) is)) (H, below, le_refl (k yh))
      (all_kept (λ (c : Float). T (fits binary64 c)) Bottom (λ b. le y b) (map (λ i. i.from) is) (all_map (λ (c : Float). T (fits binary64 c)) (λ i. i.from) is (all_from is h)) (λ a p e. (p, e)))

  pub clear-between : (is : List Interval) → Fitted is → (n : ℕ) → Upto n yh → Upto n y → n + n ≤ 2 ^ 53 → Small (n + n) (clear_above yh is y) × (o ≤ k (clear_above yh is y))
  unfolding clear_above
  clear-between is h n U Q l =
      let b = next-between is h in
      let p = plus-number (next_bottom yh is y) b.0 in
      let W : Upto n (plus_zero (next_bottom yh is y)) = record { at_least = low (k y) (k (next_bottom yh is y)) (k (plus_zero (next_bottom yh is y))) (n * u) Q.at_least b.1 p.1; at_most = high (k yh) (k (next_bottom yh is y)) (k (plus_zero (next_bottom yh is y))) (n * u) U.at_most b.2 p.1 } in
      let r = sub_upto (finite p.0) Y W Q l in
      (record { num = sub_number p.0 Y r.0; bound = r.1 }, sub_nonneg (finite p.0) Y (up (k y) (k (next_bottom yh is y)) (k (plus_zero (next_bottom yh is y))) b.1 p.1))
    where
      low : (y b p m : ℕ) → o ≤ y + m → y ≤ b → p ≡ b → o ≤ p + m
      low y b p m h i e = omega arith

      high : (h b p m : ℕ) → h ≤ o + m → b ≤ h → p ≡ b → p ≤ o + m
      high h b p m i l e = omega arith

      up : (y b p : ℕ) → y ≤ b → p ≡ b → y ≤ p
      up y b p h e = omega arith

-- ---- ranges and columns

pub record Spread (r : Ranges) : Type 0 where
  pub x_low : Small 200000 r.x_low
  pub x_high : Small 200000 r.x_high
  pub y_low : Small 200000 r.y_low
  pub y_high : Small 200000 r.y_high

difference : {x y : Float} → Small 100000 x → Small 100000 y → Small 200000 (x ⊖ y)
difference X Y = let r = sub_upto (finite X.num) (finite Y.num) X.bound Y.bound (lit≤ tt) in record { num = sub_number X.num (finite Y.num) r.0; bound = r.1 }

ranges_spread : (s b : Rect) → Framed s → Framed b → Spread (ranges s b)
unfolding ranges
ranges_spread s b S B = record { x_low = difference S.left B.left; x_high = difference S.right B.right; y_low = difference S.bottom B.bottom; y_high = difference S.top B.top }

plus-small : {n : ℕ} {x : Float} → Finite x → Upto n x → Small n (plus_zero x)
plus-small {n} {x} X B = let p = plus-number x X in record { num = p.0; bound = record { at_least = z (k (plus_zero x)) (k x) (n * u) p.1 B.at_least; at_most = y (k (plus_zero x)) (k x) (n * u) p.1 B.at_most } }
  where
    z : (p x n : ℕ) → p ≡ x → o ≤ x + n → o ≤ p + n
    z p x n e h = omega arith

    y : (p x n : ℕ) → p ≡ x → x ≤ o + n → p ≤ o + n
    y p x n e h = omega arith

first_off : (a b : Bool) → a || b ≡ false → a ≡ false
first_off true b e = e
first_off false b e = refl

column-small : (res : Float) (r : Ranges) → UpFrom milli 10000 res → Spread r → reversed r ≡ false → (c : ℕ) → Small 610000 (column_at res r c)
unfolding column_at columns regular_column reversed
column-small res r R S e c = go (leb c (to_unsigned 64 ((r.x_high ⊖ r.x_low) ⊘ res))) (leb→le c (to_unsigned 64 ((r.x_high ⊖ r.x_low) ⊘ res)))
  where
    L : Finite r.x_low
    L = finite S.x_low.num

    H : Finite r.x_high
    H = finite S.x_high.num

    up : k r.x_low ≤ k r.x_high
    up = lt_no H L (fails (first_off (lt r.x_high r.x_low) (lt r.y_high r.y_low) e))

    d : Finite (r.x_high ⊖ r.x_low) × Upto 400000 (r.x_high ⊖ r.x_low)
    d = sub_upto H L S.x_high.bound S.x_low.bound (lit≤ tt)

    go : (t : Bool) → (T t → c ≤ to_unsigned 64 ((r.x_high ⊖ r.x_low) ⊘ res)) → Small 610000 (plus_zero (elim t [ true ↦ r.x_low ⊕ from_int c ⊗ res | false ↦ r.x_high ]))
    go true h =
        let p = column_upto R d.0 (sub_nonneg H L up) d.1 c (h tt) in
        let q = add_upto L p.0 S.x_low.bound p.1 (lit≤ tt) in
        plus-small q.0 q.1
    go false h = let w = small_more S.x_high (lit≤ tt) in plus-small H w.bound

-- ---- a place that a search can yield

pub place-small : (p : Planner) (s : Shape) → UpFrom milli 10000 p.resolution → Framed p.bounds → Framed s.bounds → (x y g : Float) → Yielded p s x y g
    → Small 610000 x × Small 200000 y × Small 400000 g × (o ≤ k g)
unfolding ranges_of reversed_for look_at intervals_at
place-small p s R P S x y g Y =
    let W = ranges_spread p.bounds s.bounds P S in
    let r = ranges p.bounds s.bounds in
    let c = column_at p.resolution r Y.column_number in
    let is = counted_in c r.y_low r.y_high s.inset s.apart p.sheet Y.standing in
    let F = counted-fits c r.y_low r.y_high s.inset s.apart p.sheet Y.standing in
    let h = height_between r.y_low r.y_high (finite W.y_low.num) (finite W.y_high.num) is F y g Y.freed in
    let Q : Upto 200000 y = record { at_least = a (k r.y_low) (k y) (200000 * u) W.y_low.bound.at_least h.1; at_most = b (k r.y_high) (k y) (200000 * u) W.y_high.bound.at_most h.2 } in
    let G = clear-between r.y_high y (finite W.y_high.num) (finite h.0) h.2 is F 200000 W.y_high.bound Q (lit≤ tt) in (
      subst (λ (v : Float). Small 610000 v) (sym Y.x_is) (column-small p.resolution r R W Y.opened Y.column_number),
      record { num = h.0; bound = Q },
      subst (λ (v : Float). Small 400000 v) (sym h.3) G.0,
      subst (λ (v : Float). o ≤ k v) (sym h.3) G.1,
    )
  where
    a : (l y n : ℕ) → o ≤ l + n → l ≤ y → o ≤ y + n
    a l y n p q = omega arith

    b : (h y n : ℕ) → h ≤ o + n → y ≤ h → y ≤ o + n
    b h y n p q = omega arith
