-- Laws of accepted bytes: the fields that a reader read stand there bit for bit. Assumes nothing.
use Rattle.std.specs.Prelude.{Some, None, Result, Ok, Err}
use Rattle.bits.specs.declared.Refusal.{Refusal}
use mathlib.Core.Path.{◌≡◌, refl, sym, ap, ap₂, subst, subst⁻¹, ◌∙◌}
use Prim.Native.Nat.{ℕ, zero, suc, ◌+◌, ◌-◌, ◌*◌, ◌/◌, ◌%◌, ◌^◌, ◌≤◌, ◌<◌}
use native.Mathlib.Omega.{arith}
use native.Mathlib.Nat.{add-zero, mod-lt}
use mathlib.Core.Logic.{inl, inr}
use mathlib.Core.Bool.{Bool, true, false, not, ◌&&◌, cond, false≢true}
use mathlib.Core.List.{List, [], ◌∷◌, ◌++◌, map, flat_map, append_assoc, append-nil}
use lib.ListN.{length, get_or, length-append, get_or-append, get_or-eq_default}
use lib.Seq.{get_or-append-add, get_or-append_seam}
use lib.Dec.{T, leb, lit<}
use lib.Ieee.{Float, fin, binary64, eq, of_bits, to_bits, is_nan}
use lib.Ieee.Scale.{finite}
use lib.Ieee.Bits.{to_bits-of_bits}
use borrow.Author.Tests.{leb-true}
use Rattle.numbers.specs.Numbers.{double_of, plus_zero, pos_zero}
use Rattle.numbers.proofs.Truth.{below_or_not, zero-not-one}
use Rattle.bits.specs.declared.Refusal.TheVariants.{Truncated, CountOutOfRange}
use Rattle.bits.specs.Bits.{bit_at, field_at}
use Rattle.bits.specs.Reading.{ok, bad, bits}
use Rattle.bits.specs.Fields.{Field, judge_count, judge_points, counted, count, point_count, Range, judge_number, measured, number}
use Rattle.bits.proofs.Accepted.{bad-not_ok, ok_same, after_ok, bits_less}
use Rattle.bit_writer.specs.Packed.{binary, number_at}
use Rattle.bit_writer.proofs.Bits.{binary-length}
use Rattle.job_bits.specs.JobFields.{Field as JobField, whole, double, field_bits, plus, double_field}
use Rattle.job_bits.proofs.Reading.{AllBits, number_bit}
use Rattle.job_bits.proofs.Doubles.{ok-value, judged_again, judged_finite}

-- ---- the bits of bytes
unfoldable pub bits_up_to : List ℕ → ℕ → List ℕ
bits_up_to b zero = []
bits_up_to b (suc n) = bits_up_to b n ++ (bit_at b n ∷ [])

abbrev pub unpacked : List ℕ → List ℕ
unpacked b = bits_up_to b (8 * length b)

bits-length : (b : List ℕ) (n : ℕ) → length (bits_up_to b n) ≡ n
unfolding bits_up_to
bits-length b zero = refl
bits-length b (suc n) = length-append (bits_up_to b n) (bit_at b n ∷ []) ∙ omega (arith, bits-length b n)

bit_there : (b : List ℕ) (n i : ℕ) → i < n → get_or (bits_up_to b n) i 0 ≡ bit_at b i
unfolding bits_up_to
bit_there b zero i h = absurd (omega arith)
bit_there b (suc n) i h =
    elim (below_or_not i n) [
      | inl a ↦ get_or-append (bits_up_to b n) (bit_at b n ∷ []) 0 i (subst⁻¹ (λ (m : ℕ). i < m) (bits-length b n) a) ∙ bit_there b n i a
      | inr a ↦
          let e : i ≡ n = omega arith in
          ap (λ (m : ℕ). get_or (bits_up_to b n ++ (bit_at b n ∷ [])) m 0) (e ∙ sym (bits-length b n)) ∙ get_or-append_seam (bits_up_to b n) (bit_at b n) [] 0 ∙ ap
          (bit_at b) (sym e)
    ]

pub unpacked-length : (b : List ℕ) → length (unpacked b) ≡ 8 * length b
unpacked-length b = bits-length b (8 * length b)

pub unpacked_at : (b : List ℕ) (i : ℕ) → i < 8 * length b → get_or (unpacked b) i 0 ≡ bit_at b i
unpacked_at b i h = bit_there b (8 * length b) i h

pub unpacked-bits : (b : List ℕ) → AllBits (unpacked b)
unfolding AllBits
unpacked-bits b i =
    elim (below_or_not i (8 * length b)) [
      | inl h ↦ subst⁻¹ (λ (x : ℕ). x < 2) (unpacked_at b i h) (mod-lt _ (lit< tt))
      | inr h ↦ subst⁻¹ (λ (x : ℕ). x < 2) (get_or-eq_default (unpacked b) 0 (subst⁻¹ (λ (m : ℕ). m ≤ i) (unpacked-length b) h)) (lit< tt)
    ]

pub unpacked-field : (b : List ℕ) (p w a : ℕ) → p + w ≤ 8 * length b → field_at b p w a ≡ number_at (unpacked b) p w a
unfolding field_at number_at
unpacked-field b p zero a h = refl
unpacked-field b p (suc w) a h =
    unpacked-field b (suc p) w (a * 2 + bit_at b p) (omega arith) ∙ ap (λ (x : ℕ). number_at (unpacked b) (suc p) w (a * 2 + x))
    (sym (unpacked_at b p (omega arith)))

-- ---- where bits stand in bytes
pub record Span (b : List ℕ) (p q : ℕ) (x : List ℕ) : Type 0 where
  pub end : q ≡ p + length x
  pub room : q ≤ 8 * length b
  pub same : (i : ℕ) → i < length x → get_or x i 0 ≡ get_or (unpacked b) (p + i) 0

pub span_none : (b : List ℕ) (p : ℕ) → p ≤ 8 * length b → Span b p p []
span_none b p h = record { end = sym (add-zero p); room = h; same = λ i l. absurd (omega arith) }

pub span_then : (b : List ℕ) (p q r : ℕ) (x y : List ℕ) → Span b p q x → Span b q r y → Span b p r (x ++ y)
span_then b p q r x y S U =
    record {
      end = omega (arith, S.end, U.end, length-append x y);
      room = U.room;
      same =
          λ i h.
          elim (below_or_not i (length x)) [
            | inl l ↦ get_or-append x y 0 i l ∙ S.same i l
            | inr l ↦
                let s : i ≡ length x + (i - length x) = omega arith in
                let t : q + (i - length x) ≡ p + i = omega (arith, S.end) in
                ap (λ (k : ℕ). get_or (x ++ y) k 0) s
                ∙ get_or-append-add x y (i - length x) 0
                ∙ U.same (i - length x) (omega (arith, length-append x y))
                ∙ ap (λ (k : ℕ). get_or (unpacked b) k 0) t
          ];
    }

binary_at : (w n i : ℕ) → i < w → get_or (binary w n) i 0 ≡ n / 2 ^ (w - suc i) % 2
unfolding binary
binary_at zero n i h = absurd (omega arith)
binary_at (suc w) n zero h = ap (λ (k : ℕ). n / 2 ^ k % 2) (z w)
  where
    z : (w : ℕ) → w ≡ suc w - 1
    z w = omega arith
binary_at (suc w) n (suc i) h = binary_at w n i (omega arith) ∙ ap (λ (k : ℕ). n / 2 ^ k % 2) (z w i)
  where
    z : (w i : ℕ) → w - suc i ≡ suc w - suc (suc i)
    z w i = omega arith

-- a field of w bits
pub bits_came : (b : List ℕ) (w p n q : ℕ) → bits w b p ≡ ok n q → Span b p q (binary w n) × (n < 2 ^ w)
unfolding bits
bits_came b w p n q e = go (leb (p + w) (8 * length b)) (leb-true (p + w) (8 * length b)) e
  where
    second : {a c : ℕ} {p q : ℕ} → ok a p ≡ ok c q → p ≡ q
    second e = cc

    go : (t : Bool) → (t ≡ true → p + w ≤ 8 * length b) → cond t (ok (field_at b p w 0) (p + w)) (bad Truncated) ≡ ok n q → Span b p q (binary w n) × (n < 2 ^ w)
    go false f e = absurd (bad-not_ok e)
    go true f e =
        let h = f refl in
        let v : field_at b p w 0 ≡ n = ok_same e in
        let u : n ≡ number_at (unpacked b) p w 0 = sym v ∙ unpacked-field b p w 0 h in (
          record {
            end = sym (second e) ∙ ap (λ (k : ℕ). p + k) (sym (binary-length w n));
            room = subst (λ (k : ℕ). k ≤ 8 * length b) (second e) h;
            same =
                λ i l.
                let k : i < w = subst (λ (m : ℕ). i < m) (binary-length w n) l in
                let s : suc i + (w - suc i) ≡ w = omega arith in
                binary_at w n i k
                ∙ ap (λ (m : ℕ). m / 2 ^ (w - suc i) % 2) (u ∙ ap (λ (m : ℕ). number_at (unpacked b) p m 0) (sym s))
                ∙ number_bit (unpacked b) (unpacked-bits b) p i (w - suc i);
          },
          bits_less w b p n q (ap (λ (t : Bool). cond t (ok (field_at b p w 0) (p + w)) (bad Truncated)) (borrow.Author.Tests.le-leb (p + w) (8 * length b) h) ∙
              e),
        )

-- ---- fields as they came
pub record Came (b : List ℕ) (p q : ℕ) (F : List JobField) : Type 0 where
  pub fields : List JobField
  pub plain : map plus fields ≡ F
  pub span : Span b p q (flat_map field_bits fields)

map-append : {A B : Type 0} (f : A → B) (x y : List A) → map f (x ++ y) ≡ map f x ++ map f y
map-append f [] y = refl
map-append {B = B} f (a ∷ x) y = ap (λ (l : List B). f a ∷ l) (map-append f x y)

pub flat_append : {A B : Type 0} (f : A → List B) (x y : List A) → flat_map f (x ++ y) ≡ flat_map f x ++ flat_map f y
unfolding flat_map
flat_append f [] y = refl
flat_append {B = B} f (a ∷ x) y = ap (λ (l : List B). f a ++ l) (flat_append f x y) ∙ sym (append_assoc (f a) (flat_map f x) (flat_map f y))

pub came_none : (b : List ℕ) (p : ℕ) → p ≤ 8 * length b → Came b p p []
unfolding flat_map
came_none b p h = record { fields = []; plain = refl; span = span_none b p h }

pub came_then : (b : List ℕ) (p q r : ℕ) (F G : List JobField) → Came b p q F → Came b q r G → Came b p r (F ++ G)
came_then b p q r F G C D =
    record {
      fields = C.fields ++ D.fields;
      plain = map-append plus C.fields D.fields ∙ ap₂ ◌++◌ C.plain D.plain;
      span = subst⁻¹ (Span b p r) (flat_append field_bits C.fields D.fields) (span_then b p q r _ _ C.span D.span);
    }

pub came_same : (b : List ℕ) (p q : ℕ) (F G : List JobField) → F ≡ G → Came b p q F → Came b p q G
came_same b p q F G e C = subst (Came b p q) e C

pub came_room : (b : List ℕ) (p q : ℕ) (F : List JobField) → Came b p q F → q ≤ 8 * length b
came_room b p q F C = C.span.room

pub whole_came : (b : List ℕ) (w p n q : ℕ) → bits w b p ≡ ok n q → Came b p q (whole w n ∷ [])
unfolding flat_map
whole_came b w p n q e = record { fields = whole w n ∷ []; plain = refl; span = subst⁻¹ (Span b p q) (append-nil (binary w n)) (bits_came b w p n q e).0 }

-- ---- doubles
finite_not_nan : (x : Float) → finite x ≡ true → T (not (is_nan x))
unfolding is_nan
finite_not_nan lib.Ieee.nan e = absurd (false≢true e)
finite_not_nan (lib.Ieee.inf s) e = absurd (false≢true e)
finite_not_nan (fin s m k) e = tt

zero_is : to_bits binary64 pos_zero ≡ 0
unfolding to_bits
zero_is = refl

double-plain : (n : ℕ) (v : Float) → n < 18446744073709551616 → double_of n ≡ Some v → plus (double n) ≡ double_field v
unfolding double_of plus_zero
double-plain n v h e = go (finite (of_bits binary64 n)) refl (eq (of_bits binary64 n) pos_zero) e
  where
    value : {a b : Float} → Some a ≡ Some b → a ≡ b
    value e = cc

    go : (b : Bool) → finite (of_bits binary64 n) ≡ b → (t : Bool) → cond b (Some (cond t pos_zero (of_bits binary64 n))) None ≡ Some v → double
        (cond t 0 n) ≡ double_field v
    go false f t e = absurd (zero-not-one (cc))
    go true f true e = ap double (sym zero_is ∙ ap (to_bits binary64) (value e))
    go true f false e = ap double (sym (to_bits-of_bits binary64 n h (finite_not_nan (of_bits binary64 n) f)) ∙ ap (to_bits binary64) (value e))

measured_came : (t : Result Float Refusal) (q r : ℕ) (v : Float) → measured t q ≡ ok v r → (t ≡ Ok v) × (q ≡ r)
measured_came (Ok u) q r v e = (ap Ok (ok_same e), second e)
  where
    second : {a c : Float} {p q : ℕ} → ok a p ≡ ok c q → p ≡ q
    second e = cc
measured_came (Err k) q r v e = absurd (bad-not_ok e)

counted_came : (t : Result ℕ Refusal) (q r n : ℕ) → counted t q ≡ ok n r → (t ≡ Ok n) × (q ≡ r)
counted_came (Ok u) q r n e = (ap Ok (ok_same e), second e)
  where
    second : {a c : ℕ} {p q : ℕ} → ok a p ≡ ok c q → p ≡ q
    second e = cc
counted_came (Err k) q r n e = absurd (bad-not_ok e)

-- a double as it came, and that its own bits are judged to be it
pub double_came : (r : Range) (b : List ℕ) (p : ℕ) (v : Float) (q : ℕ) → number r b p ≡ ok v q → Came b p q (double_field v ∷ []) ×
    (judge_number r.least r.most (to_bits binary64 v) ≡ Ok v)
unfolding number judge_number flat_map
double_came r b p v q e =
    let t = after_ok (bits 64 b p) (λ n q. measured (judge_number r.least r.most n) q) v q e in
    let n = t.0 in
    let m = measured_came (judge_number r.least r.most n) t.1 q v t.3 in
    let s = bits_came b 64 p n t.1 t.2 in (
      record {
        fields = double n ∷ [];
        plain = ap (λ (f : JobField). f ∷ []) (double-plain n v s.1 (judged_finite _ _ (double_of n) v m.0));
        span = subst (λ (k : ℕ). Span b p k (binary 64 n ++ [])) m.1 (subst⁻¹ (Span b p t.1) (append-nil (binary 64 n)) s.0);
      },
      (judged_again r.least r.most n v m.0).0,
    )

-- a count as it came
judged-count : (least most n m : ℕ) → judge_count least most n ≡ Ok m → n ≡ m
unfolding judge_count
judged-count least most n m e = go (leb least n) (leb n most) e
  where
    go : (a b : Bool) → cond (a && b) (Ok n) (Err CountOutOfRange) ≡ Ok m → n ≡ m
    go true true e = ok-value e
    go true false e = absurd (zero-not-one (cc))
    go false b e = absurd (zero-not-one (cc))

pub count_came : (f : Field) (b : List ℕ) (p n q : ℕ) → count f b p ≡ ok n q → Came b p q (whole f.width n ∷ []) ×
    (judge_count f.least f.most n ≡ Ok n)
unfolding count
count_came f b p n q e =
    let t = after_ok (bits f.width b p) (λ n q. counted (judge_count f.least f.most n) q) n q e in
    let m = counted_came (judge_count f.least f.most t.0) t.1 q n t.3 in
    let s = judged-count f.least f.most t.0 n m.0 in (
      subst (λ (k : ℕ). Came b p k (whole f.width n ∷ [])) m.1 (subst (λ (k : ℕ). Came b p t.1 (whole f.width k ∷ [])) s
          (whole_came b f.width p t.0 t.1 t.2)),
      ap (judge_count f.least f.most) (sym s) ∙ m.0,
    )

judged-points : (before n m : ℕ) → judge_points before n ≡ Ok m → n ≡ m
unfolding judge_points Rattle.bits.specs.Fields.in_set
judged-points before n m e = go (judge_count 3 512 n) (λ k f. judged-count 3 512 n k f) e
  where
    go : (t : Result ℕ Refusal) → ((k : ℕ) → t ≡ Ok k → n ≡ k) → Rattle.bits.specs.Fields.in_set before t ≡ Ok m → n ≡ m
    go (Ok k) f e = fit (leb (before + k) 512) e
      where
        fit : (b : Bool) → cond b (Ok k) (Err CountOutOfRange) ≡ Ok m → n ≡ m
        fit true e = f k refl ∙ ok-value e
        fit false e = absurd (zero-not-one (cc))
    go (Err k) f e = absurd (zero-not-one (cc))

pub points_came : (before : ℕ) (b : List ℕ) (p n q : ℕ) → point_count before b p ≡ ok n q → Came b p q (whole 10 n ∷ []) × (judge_points before n ≡ Ok n)
unfolding point_count
points_came before b p n q e =
    let t = after_ok (bits 10 b p) (λ n q. counted (judge_points before n) q) n q e in
    let m = counted_came (judge_points before t.0) t.1 q n t.3 in
    let s = judged-points before t.0 n m.0 in (
      subst (λ (k : ℕ). Came b p k (whole 10 n ∷ [])) m.1 (subst (λ (k : ℕ). Came b p t.1 (whole 10 k ∷ [])) s (whole_came b 10 p t.0 t.1 t.2)),
      ap (judge_points before) (sym s) ∙ m.0,
    )
