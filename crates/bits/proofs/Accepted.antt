-- What the fields of an accepted job promise: counts within their ranges, doubles finite, not minus zero and within theirs. Assumes nothing.
use Rattle.std.specs.Prelude.{Some, None, Result, Ok, Err}
use mathlib.Core.Path.{◌≡◌, refl, sym, ap, ◌∙◌, subst}
use Prim.Native.Nat.{ℕ, zero, suc, ◌+◌, ◌-◌, ◌*◌, ◌^◌, ◌≤◌, ◌<◌}
use native.Mathlib.Omega.{arith}
use native.Mathlib.Nat.{mod-lt, mul-le-mul_right, lt_of_lt_of_le, le_trans, mul_assoc, pow-succ', one-mul, mul-one}
use mathlib.Core.Bool.{Bool, true, false, ◌&&◌, cond}
use mathlib.Core.List.{List}
use lib.Dec.{T, leb, lit<, lit≤}
use lib.Ieee.{Float, fin, binary64, le, lt, neg, of_int, of_bits, div, fits}
use lib.Ieee.Scale.{finite}
use borrow.Author.Tests.{leb-true}
use Rattle.numbers.specs.Numbers.{double_of, plus_zero, from_int, pos_zero}
use Rattle.numbers.proofs.Keys.{unit, unit-pos, le→key}
use Rattle.numbers.proofs.Patterns.{bits_fin, plus-number}
use Rattle.numbers.proofs.Bounds.{value_key}
use Rattle.numbers.proofs.Ranges.{tested_within, zero-key}
use Rattle.numbers.proofs.Literals.{milli, milli_num, milli_reach}
use Rattle.numbers.proofs.Doubles.{Number, Upto, Small, k, o}
use Rattle.numbers.proofs.Truth.{zero-not-one}
use Rattle.bits.specs.declared.Refusal.{Refusal}
use Rattle.bits.specs.declared.Refusal.TheVariants.{Truncated, OutOfRange, CountOutOfRange}
use Rattle.bits.specs.Bits.{bit_at, field_at}
use Rattle.bits.specs.Reading.{Read, ok, bad, Reader, after, ◌>>=◌, give, unless, bits}
use Rattle.bits.specs.Fields.{Field, judge_count, in_set, judge_points, counted, count, point_count, Range, coordinate_range, area_range, resolution_range, judge_double, judge_number, measured, number, Spot, point}

-- ---- readers: whatever m reads has P
abbrev pub Gives : {A : Type 0} → Reader A → (A → Type 0) → Type 0
Gives {A} m P = (bytes : List ℕ) (p : ℕ) (a : A) (q : ℕ) → m bytes p ≡ ok a q → P a

pub bad-not_ok : {A : Type 0} {k : Refusal} {a : A} {q : ℕ} → bad k ≡ ok a q → ⊥
bad-not_ok e = zero-not-one (cc)

pub ok_same : {A : Type 0} {a b : A} {p q : ℕ} → ok a p ≡ ok b q → a ≡ b
ok_same e = cc

pub ok_place : {A : Type 0} {a b : A} {p q : ℕ} → ok a p ≡ ok b q → p ≡ q
ok_place e = cc

pub after_ok : {A B : Type 0} (r : Read A) (f : A → ℕ → Read B) (b : B) (q : ℕ) → after r f ≡ ok b q → (a : A) × (p : ℕ) × (r ≡ ok a p) × (f a p ≡ ok b q)
unfolding after
after_ok (ok a p) f b q e = (a, p, refl, e)
after_ok (bad k) f b q e = absurd (bad-not_ok e)

pub bind : {A B : Type 0} (m : Reader A) (f : A → Reader B) (P : A → Type 0) (Q : B → Type 0) → Gives m P → ((a : A) → P a → Gives (f a) Q) → Gives (m >>= f) Q
bind m f P Q M F bytes p b q e =
    let r = after_ok (m bytes p) (λ a v. f a bytes v) b q e in
    F r.0 (M bytes p r.0 r.1 r.2) bytes r.1 b q r.3

pub given : {A : Type 0} (a : A) (P : A → Type 0) → P a → Gives (give a) P
given a P h bytes p b q e = subst P (ok_same e) h

pub unless_ok : (k : Refusal) (t : Bool) → Gives (unless k t) (λ u. t ≡ true)
unless_ok k true bytes p a q e = refl
unless_ok k false bytes p a q e = absurd (bad-not_ok e)

-- ---- bits
bit_less : (bytes : List ℕ) (p : ℕ) → bit_at bytes p < 2
bit_less bytes p = mod-lt _ (lit< tt)

field_less : (bytes : List ℕ) (p w a : ℕ) → field_at bytes p w a < (a + 1) * 2 ^ w
unfolding field_at
field_less bytes p zero a = omega arith
field_less bytes p (suc w) a =
    lt_of_lt_of_le (field_less bytes (suc p) w (a * 2 + bit_at bytes p))
    (subst (λ (x : ℕ). (a * 2 + bit_at bytes p + 1) * 2 ^ w ≤ (a + 1) * x) (sym (pow-succ' 2 w)) (z a (bit_at bytes p) (2 ^ w) (bit_less bytes p)))
  where
    z : (a b w : ℕ) → b < 2 → (a * 2 + b + 1) * w ≤ (a + 1) * (2 * w)
    z a b w h = subst (λ (x : ℕ). (a * 2 + b + 1) * w ≤ x) (mul_assoc (a + 1) 2 w) (mul-le-mul_right w (y a b h))
      where
        y : (a b : ℕ) → b < 2 → a * 2 + b + 1 ≤ (a + 1) * 2
        y a b h = omega arith

pub bits_less : (w : ℕ) → Gives (bits w) (λ n. n < 2 ^ w)
unfolding bits
bits_less w bytes p a q e = go (leb (p + w) (8 * lib.ListN.length bytes)) e
  where
    go : (t : Bool) → cond t (ok (field_at bytes p w 0) (p + w)) (bad Truncated) ≡ ok a q → a < 2 ^ w
    go true e = subst (λ (x : ℕ). x < 2 ^ w) (ok_same e) (subst (λ (x : ℕ). field_at bytes p w 0 < x) (one-mul (2 ^ w)) (field_less bytes p w 0))
    go false e = absurd (bad-not_ok e)

-- ---- where a reader stands after what it read
bits-end : (w : ℕ) (bytes : List ℕ) (p n q : ℕ) → bits w bytes p ≡ ok n q → q ≡ p + w
unfolding bits
bits-end w bytes p n q e = go (leb (p + w) (8 * lib.ListN.length bytes)) e
  where
    go : (t : Bool) → cond t (ok (field_at bytes p w 0) (p + w)) (bad Truncated) ≡ ok n q → q ≡ p + w
    go true e = sym (ok_place e)
    go false e = absurd (bad-not_ok e)

measured-end : (t : Result Float Refusal) (v : ℕ) (a : Float) (q : ℕ) → measured t v ≡ ok a q → q ≡ v
measured-end (Ok x) v a q e = sym (ok_place e)
measured-end (Err k) v a q e = absurd (bad-not_ok e)

number-place : (r : Range) (bytes : List ℕ) (p : ℕ) (a : Float) (q : ℕ) → number r bytes p ≡ ok a q → q ≡ p + 64
unfolding number
number-place r bytes p a q e =
    let s = after_ok (bits 64 bytes p) (λ n v. measured (judge_number r.least r.most n) v) a q e in
    measured-end (judge_number r.least r.most s.0) s.1 a q s.3 ∙ bits-end 64 bytes p s.0 s.1 s.2

pub point-place : (bytes : List ℕ) (p : ℕ) (a : Spot) (q : ℕ) → point bytes p ≡ ok a q → q ≡ p + 64 + 64
unfolding point
point-place bytes p a q e =
    let s = after_ok (number coordinate_range bytes p) (λ x v. after (number coordinate_range bytes v) (λ y w. ok (record { x = x; y = y }) w)) a q e in
    let t = after_ok (number coordinate_range bytes s.1) (λ y w. ok (record { x = s.0; y = y }) w) a q s.3 in
    let m = number-place coordinate_range bytes p s.0 s.1 s.2 in
    let n = number-place coordinate_range bytes s.1 t.0 t.1 t.2 in
    sym (ok_place t.3) ∙ n ∙ ap (λ (v : ℕ). v + 64) m

-- ---- counts
counted_in_lem : (least most n a q v : ℕ) → counted (judge_count least most n) v ≡ ok a q → (least ≤ a) × (a ≤ most) × (a ≡ n)
unfolding judge_count
counted_in_lem least most n a q v e = go (leb least n) (leb n most) (leb-true least n) (leb-true n most) e
  where
    go : (s t : Bool) → (s ≡ true → least ≤ n) → (t ≡ true → n ≤ most) → counted (cond (s && t) (Ok n) (Err CountOutOfRange)) v ≡ ok a q → (least ≤ a) × (a ≤ most) × (a ≡ n)
    go true true f g e =
        let h : n ≡ a = ok_same e in
        (subst (λ (x : ℕ). least ≤ x) h (f refl), subst (λ (x : ℕ). x ≤ most) h (g refl), sym h)
    go true false f g e = absurd (bad-not_ok e)
    go false t f g e = absurd (bad-not_ok e)

pub count_in_range : (f : Field) → Gives (count f) (λ n. (f.least ≤ n) × (n ≤ f.most))
unfolding count
count_in_range f bytes p a q e =
    let r = after_ok (bits f.width bytes p) (λ n v. counted (judge_count f.least f.most n) v) a q e in
    let c = counted_in_lem f.least f.most r.0 a q r.1 r.3 in
    (c.0, c.1)

counted_at_least : (least most n v : ℕ) (t : Result ℕ Refusal) → t ≡ judge_count least most n → (a q : ℕ) → counted t v ≡ ok a q → least ≤ a
counted_at_least least most n v t h a q e = (counted_in_lem least most n a q v (ap (λ (x : Result ℕ Refusal). counted x v) (sym h) ∙ e)).0

in_set_in : (before v : ℕ) (t : Result ℕ Refusal) → ((a q : ℕ) → counted t v ≡ ok a q → 3 ≤ a) → (a q : ℕ) → counted (in_set before t) v ≡ ok a q → (3 ≤ a) × (before + a ≤ 512)
unfolding in_set
in_set_in before v (Ok m) f a q e = go (leb (before + m) 512) (leb-true (before + m) 512) e
  where
    go : (t : Bool) → (t ≡ true → before + m ≤ 512) → counted (cond t (Ok m) (Err CountOutOfRange)) v ≡ ok a q → (3 ≤ a) × (before + a ≤ 512)
    go true g e = (f a q e, subst (λ (x : ℕ). before + x ≤ 512) (ok_same e) (g refl))
    go false g e = absurd (bad-not_ok e)
in_set_in before v (Err k) f a q e = absurd (bad-not_ok e)

pub point-count_in : (before : ℕ) → Gives (point_count before) (λ n. (3 ≤ n) × (before + n ≤ 512))
unfolding point_count judge_points
point-count_in before bytes p a q e =
    let r = after_ok (bits 10 bytes p) (λ n v. counted (in_set before (judge_count 3 512 n)) v) a q e in
    in_set_in before r.1 (judge_count 3 512 r.0) (λ b w d. counted_at_least 3 512 r.0 r.1 (judge_count 3 512 r.0) refl b w d) a q r.3

-- ---- doubles
pub record Between (least most x : Float) : Type 0 where
  pub num : Number x
  pub low : T (le least x)
  pub high : T (le x most)

both : (s t : Bool) → T (s && t) → T s × T t
both true true h = (tt, tt)
both true false h = absurd h
both false t h = absurd h

measured_in : (least most x : Float) (v : ℕ) → Number x → (a : Float) (q : ℕ) → measured (judge_double least most (Some x)) v ≡ ok a q → Between least most a
unfolding judge_double
measured_in least most x v n a q e = go (le least x && le x most) refl e
  where
    go : (t : Bool) → le least x && le x most ≡ t → measured (cond t (Ok x) (Err OutOfRange)) v ≡ ok a q → Between least most a
    go true h e =
        let b = both (le least x) (le x most) (subst T (sym h) tt) in
        subst (λ (y : Float). Between least most y) (ok_same e) (record { num = n; low = b.0; high = b.1 })
    go false h e = absurd (bad-not_ok e)

not-measured : (least most : Float) (v : ℕ) (a : Float) (q : ℕ) → measured (judge_double least most None) v ≡ ok a q → ⊥
unfolding judge_double
not-measured least most v a q e = bad-not_ok e

judged_in_lem : (least most : Float) (n v : ℕ) (a : Float) (q : ℕ) → measured (judge_number least most n) v ≡ ok a q → Between least most a
unfolding judge_number double_of
judged_in_lem least most n v a q e = go (finite (of_bits binary64 n)) refl e
  where
    go : (t : Bool) → finite (of_bits binary64 n) ≡ t → measured (judge_double least most (cond t (Some (plus_zero (of_bits binary64 n))) None)) v ≡ ok a q → Between least most a
    go true h e = measured_in least most (plus_zero (of_bits binary64 n)) v (plus-number (of_bits binary64 n) (bits_fin n (subst T (sym h) tt))).0 a q e
    go false h e = absurd (not-measured least most v a q e)

pub number-between : (r : Range) → Gives (number r) (λ x. Between r.least r.most x)
unfolding number
number-between r bytes p a q e =
    let s = after_ok (bits 64 bytes p) (λ n v. measured (judge_number r.least r.most n) v) a q e in
    judged_in_lem r.least r.most s.0 s.1 a q s.3

-- a coordinate: finite, not minus zero, within 100,000
limit-low : T (fits binary64 (neg (from_int 100_000))) × lib.Ieee.Exact.HasValue (neg (from_int 100_000)) true 100000 1
unfolding fits neg of_int
limit-low = (tt, (refl, refl))

limit-high : T (fits binary64 (from_int 100_000)) × lib.Ieee.Exact.HasValue (from_int 100_000) false 100000 1
unfolding fits of_int
limit-high = (tt, (refl, refl))

pub coordinate_small : {x : Float} → Between coordinate_range.least coordinate_range.most x → Small 100000 x
coordinate_small {x} b = record { num = b.num; bound = (tested_within binary64 100000 (neg (from_int 100_000)) (from_int 100_000) x limit-low.0 limit-high.0 b.num.fit limit-low.1 limit-high.1 b.low b.high (lit≤ tt)).1 }

-- a point: both coordinates
pub point-small : Gives point (λ p. Small 100000 p.x × Small 100000 p.y)
unfolding point
point-small =
    bind (number coordinate_range) (λ a. number coordinate_range >>= λ b. give (record { x = a; y = b })) (λ a. Between coordinate_range.least coordinate_range.most a) (λ p. Small 100000 p.x × Small 100000 p.y) (number-between coordinate_range) (λ a h.
    bind (number coordinate_range) (λ b. give (record { x = a; y = b })) (λ b. Between coordinate_range.least coordinate_range.most b) (λ p. Small 100000 p.x × Small 100000 p.y) (number-between coordinate_range) (λ b l.
    given (record { x = a; y = b }) (λ p. Small 100000 p.x × Small 100000 p.y) (coordinate_small h, coordinate_small l)))

-- a number that is not negative and at most n
pub record UpFrom (least : Float) (n : ℕ) (x : Float) : Type 0 where
  pub num : Number x
  pub low : k least ≤ k x
  pub high : Upto n x

up_from : (least most : Float) (n : ℕ) (x : Float) → T (fits binary64 least) → T (fits binary64 most) → lib.Ieee.Exact.HasValue most false n 1 → o ≤ k least → Between least most x → UpFrom least n x
up_from least most n x f g v h b =
    let a = le→key binary64 least x f b.num.fit b.low in
    let c = le→key binary64 x most b.num.fit g b.high in
    let d = value_key binary64 most false n g v in
    record { num = b.num; low = a; high = record { at_least = z o (k least) (k x) (n * unit binary64) h a; at_most = subst (λ (y : ℕ). k x ≤ y) d c } }
  where
    z : (m l x a : ℕ) → m ≤ l → l ≤ x → m ≤ x + a
    z m l x a h g = omega arith

area_limits : T (fits binary64 pos_zero) × T (fits binary64 (from_int 1_000_000_000_000)) × lib.Ieee.Exact.HasValue (from_int 1_000_000_000_000) false 1000000000000 1
unfolding fits of_int
area_limits = (tt, tt, (refl, refl))

pub area_in : {x : Float} → Between area_range.least area_range.most x → UpFrom pos_zero 1000000000000 x
area_in {x} b = up_from pos_zero (from_int 1_000_000_000_000) 1000000000000 x area_limits.0 area_limits.1 area_limits.2 (native.Mathlib.Nat.le_of_eq (sym (zero-key binary64))) b

pub resolution-most : T (fits binary64 (from_int 10_000)) × lib.Ieee.Exact.HasValue (from_int 10_000) false 10000 1
unfolding fits of_int
resolution-most = (tt, (refl, refl))

pub resolution-least : resolution_range.least ≡ milli
unfolding of_int div
resolution-least = refl

-- as milli-reach gives: 0.001 is above zero
milli-pos : o ≤ k milli
milli-pos = z (unit binary64) o (k milli) (unit-pos binary64) milli_reach
  where
    z : (u m l : ℕ) → 0 < u → u ≤ 1001 * (l - m) → m ≤ l
    z u m l p h = omega arith

pub resolution_in : {x : Float} → Between resolution_range.least resolution_range.most x → UpFrom milli 10000 x
resolution_in {x} b =
    up_from milli (from_int 10_000) 10000 x milli_num.fit resolution-most.0 resolution-most.1 milli-pos
    (record { num = b.num; low = subst (λ (y : Float). T (le y x)) resolution-least b.low; high = b.high })
