-- When a field and a job are accepted: exactly if nothing of "Refused because of the input" holds. Assumes nothing.
use Rattle.std.specs.Prelude.{Some, None, Result, Ok, Err}
use Rattle.bits.specs.declared.Refusal.{Refusal}
use Prim.Native.Nat.{ℕ, ◌+◌, ◌*◌, ◌≤◌, ◌<◌}
use native.Mathlib.Omega.{arith}
use mathlib.Core.Path.{◌≡◌, refl, ap, subst, ◌∙◌}
use mathlib.Core.Logic.{◌⊎◌, inl, inr}
use mathlib.Core.Bool.{Bool, true, false, ◌&&◌, cond}
use mathlib.Core.List.{List}
use lib.ListN.{length}
use lib.Dec.{leb}
use lib.Ieee.{Float, binary64, le, lt, of_bits}
use lib.Ieee.Scale.{finite}
use borrow.Author.Tests.{le-leb, lt-leb, leb-true}
use Rattle.numbers.specs.Numbers.{◌⊘◌, from_int, plus_zero, double_of}
use Rattle.bits.specs.declared.Refusal.TheVariants.{Truncated, TrailingData, NonFinite, OutOfRange, CountOutOfRange, TooManyCopies, TooManyColumns}
use Rattle.bits.specs.Bits.{field_at}
use Rattle.bits.specs.Reading.{Read, ok, bad, after, bits}
use Rattle.bits.specs.Fields.{Field, judge_count, counted, count, Range, judge_double, judge_number, measured, number}
use Rattle.job.specs.Jobs.{Job, a_job, ended, framed_width, judge_end, accepted, passed, judged, read_job}

-- ---- fields

pub bits-read : (w p : ℕ) (bytes : List ℕ)
    → (p + w ≤ 8 * length bytes → bits w bytes p ≡ ok (field_at bytes p w 0) (p + w)) × (8 * length bytes < p + w → bits w bytes p ≡ bad Truncated)
unfolding bits
bits-read w p bytes = (λ h. go true (le-leb (p + w) (8 * length bytes) h), λ h. go false (lt-leb (p + w) (8 * length bytes) h))
  where
    go : (t : Bool) → leb (p + w) (8 * length bytes) ≡ t → bits w bytes p ≡ cond t (ok (field_at bytes p w 0) (p + w)) (bad Truncated)
    go t e = ap (λ (x : Bool). cond x (ok (field_at bytes p w 0) (p + w)) (bad Truncated)) e

judge_in_lem : (least most n : ℕ) → least ≤ n → n ≤ most → judge_count least most n ≡ Ok n
unfolding judge_count
judge_in_lem least most n a b = rw (le-leb least n a, le-leb n most b)

judge_out : (least most n : ℕ) → (n < least) ⊎ (most < n) → judge_count least most n ≡ Err CountOutOfRange
unfolding judge_count
judge_out least most n (inl a) = rw (lt-leb least n a)
judge_out least most n (inr b) = go (leb least n)
  where
    go : (t : Bool) → cond (t && leb n most) (Ok n) (Err CountOutOfRange) ≡ Err CountOutOfRange
    go true = rw (lt-leb n most b)
    go false = refl

count-judged : (f : Field) (bytes : List ℕ) (p : ℕ) → p + f.width ≤ 8 * length bytes
    → count f bytes p ≡ counted (judge_count f.least f.most (field_at bytes p f.width 0)) (p + f.width)
unfolding count after
count-judged f bytes p h = ap (λ (r : Read ℕ). after r (λ n q. counted (judge_count f.least f.most n) q)) ((bits-read f.width p bytes).0 h)

pub count-read : (f : Field) (bytes : List ℕ) (p : ℕ) → p + f.width ≤ 8 * length bytes
    → let n = field_at bytes p f.width 0 in
    (f.least ≤ n → n ≤ f.most → count f bytes p ≡ ok n (p + f.width)) × ((n < f.least) ⊎ (f.most < n) → count f bytes p ≡ bad CountOutOfRange)
count-read f bytes p h =
    (λ a b. of (judge_in_lem f.least f.most (field_at bytes p f.width 0) a b), λ a. of (judge_out f.least f.most (field_at bytes p f.width 0) a))
  where
    of : {t : (Result ℕ Refusal)} → judge_count f.least f.most (field_at bytes p f.width 0) ≡ t → count f bytes p ≡ counted t (p + f.width)
    of e = count-judged f bytes p h ∙ ap (λ (t : Result ℕ Refusal). counted t (p + f.width)) e

number-judged : (r : Range) (bytes : List ℕ) (p : ℕ) → p + 64 ≤ 8 * length bytes
    → number r bytes p ≡ measured (judge_number r.least r.most (field_at bytes p 64 0)) (p + 64)
unfolding number after
number-judged r bytes p h = ap (λ (x : Read ℕ). after x (λ n q. measured (judge_number r.least r.most n) q)) ((bits-read 64 p bytes).0 h)

-- a double whose pattern is finite or not, within its range or not
judged_as_lem : (least most : Float) (n : ℕ) (t : Bool) → finite (of_bits binary64 n) ≡ t
    → let x = plus_zero (of_bits binary64 n) in
    judge_number least most n ≡ cond t (cond (le least x && le x most) (Ok x) (Err OutOfRange)) (Err NonFinite)
unfolding judge_number judge_double double_of
judged_as_lem least most n true e = ap (λ (t : Bool). judge_double least most (cond t (Some (plus_zero (of_bits binary64 n))) None)) e
judged_as_lem least most n false e = ap (λ (t : Bool). judge_double least most (cond t (Some (plus_zero (of_bits binary64 n))) None)) e

pub number_read : (r : Range) (bytes : List ℕ) (p : ℕ) → p + 64 ≤ 8 * length bytes
    → let x = of_bits binary64 (field_at bytes p 64 0) in
    (finite x ≡ false → number r bytes p ≡ bad NonFinite)
    × (finite x ≡ true → le r.least (plus_zero x) && le (plus_zero x) r.most ≡ false → number r bytes p ≡ bad OutOfRange)
    × (finite x ≡ true → le r.least (plus_zero x) && le (plus_zero x) r.most ≡ true → number r bytes p ≡ ok (plus_zero x) (p + 64))
number_read r bytes p h = (λ f. of false f, λ f e. of true f ∙ ap in_range_lem e, λ f e. of true f ∙ ap in_range_lem e)
  where
    X : Float
    X = plus_zero (of_bits binary64 (field_at bytes p 64 0))

    in_range_lem : Bool → Read Float
    in_range_lem t = measured (cond t (Ok X) (Err OutOfRange)) (p + 64)

    of : (t : Bool) → finite (of_bits binary64 (field_at bytes p 64 0)) ≡ t
        → number r bytes p ≡ measured (cond t (cond (le r.least X && le X r.most) (Ok X) (Err OutOfRange)) (Err NonFinite)) (p + 64)
    of t f = number-judged r bytes p h ∙ ap (λ (m : Result Float Refusal). measured m (p + 64)) (judged_as_lem r.least r.most (field_at bytes p 64 0) t f)

-- ---- a job

-- nothing is wrong at a job's end: 2, 7, 8
abbrev Ends : List ℕ → Job → ℕ → Type 0
Ends bytes j p = (ended bytes p ≡ true) × (j.copies ≤ 4096) × (lt (from_int 1_000_000) (framed_width j ⊘ j.header.resolution) ≡ false)

end-passed : (bytes : List ℕ) (p : ℕ) (i j : Job)
    → passed (judge_end bytes p i.copies (framed_width i) i.header.resolution) i ≡ accepted j → (i ≡ j) × Ends bytes i p
unfolding judge_end
end-passed bytes p i j e =
    go (ended bytes p) refl (leb i.copies 4096) refl (lt (from_int 1_000_000) (framed_width i ⊘ i.header.resolution)) refl e
  where
    go : (a : Bool) → ended bytes p ≡ a → (b : Bool) → leb i.copies 4096 ≡ b
        → (c : Bool) → lt (from_int 1_000_000) (framed_width i ⊘ i.header.resolution) ≡ c
        → passed (cond a (cond b (cond c (Err TooManyColumns) (Ok tt)) (Err TooManyCopies)) (Err TrailingData)) i ≡ accepted j
        → (i ≡ j) × Ends bytes i p
    go false f b g c h e = absurd (let z : ◌≡◌ {A = ℕ} 0 1 = cc in omega arith)
    go true f false g c h e = absurd (let z : ◌≡◌ {A = ℕ} 0 1 = cc in omega arith)
    go true f true g true h e = absurd (let z : ◌≡◌ {A = ℕ} 0 1 = cc in omega arith)
    go true f true g false h e = (let z : i ≡ j = cc in z, (f, leb-true i.copies 4096 g, h))

end-good : (bytes : List ℕ) (p : ℕ) (j : Job) → Ends bytes j p
    → passed (judge_end bytes p j.copies (framed_width j) j.header.resolution) j ≡ accepted j
unfolding judge_end
end-good bytes p j h = rw (h.0, le-leb j.copies 4096 h.1, h.2)

-- a job is accepted exactly if its fields are read and nothing is wrong at its end
pub job_read : (bytes : List ℕ) (j : Job)
    → (read_job bytes ≡ accepted j → (p : ℕ) × (a_job bytes 0 ≡ ok j p) × Ends bytes j p)
    × ((p : ℕ) → a_job bytes 0 ≡ ok j p → Ends bytes j p → read_job bytes ≡ accepted j)
unfolding read_job judged
job_read bytes j = (λ e. go (a_job bytes 0) refl e, λ p e h. ap (judged bytes) e ∙ end-good bytes p j h)
  where
    go : (r : Read Job) → a_job bytes 0 ≡ r → judged bytes r ≡ accepted j → (p : ℕ) × (a_job bytes 0 ≡ ok j p) × Ends bytes j p
    go (bad k) d e = absurd (let z : ◌≡◌ {A = ℕ} 0 1 = cc in omega arith)
    go (ok i p) d e = let t = end-passed bytes p i j e in subst (λ (x : Job). (p : ℕ) × (a_job bytes 0 ≡ ok x p) × Ends bytes x p) t.0 (p, d, t.1)
