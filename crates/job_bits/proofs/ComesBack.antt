-- W9: "accepted bytes, read and written, come back identical but for that". Assumes nothing.
use Rattle.std.specs.Prelude.{Ok, Err}
use mathlib.Core.Path.{◌≡◌, refl, sym, ap, subst, subst⁻¹, ◌∙◌}
use Prim.Native.Nat.{ℕ, zero, suc, ◌+◌, ◌-◌, ◌*◌, ◌/◌, ◌%◌, ◌^◌, ◌≤◌, ◌<◌}
use native.Mathlib.Omega.{arith}
use native.Mathlib.Nat.{zero-add}
use mathlib.Core.Logic.{inl, inr}
use mathlib.Core.Bool.{Bool, true, false, ◌&&◌, cond}
use mathlib.Core.List.{List, ◌++◌, map, flat_map}
use lib.ListN.{length, get_or, get_or-eq_default}
use lib.Seq.{ext_get_or}
use lib.Dec.{leb, ltb, eqb}
use borrow.Author.Tests.{eqb-true, ltb-true}
use lib.Ieee.{Float, lt}
use Rattle.numbers.specs.Numbers.{◌⊘◌, from_int}
use Rattle.numbers.proofs.Truth.{below_or_not, zero-not-one}
use Rattle.bits.specs.declared.Refusal.TheVariants.{TrailingData, TooManyCopies, TooManyColumns}
use Rattle.bits.specs.Bits.{field_at}
use Rattle.bits.specs.Reading.{Read, ok, bad}
use Rattle.bits.proofs.Taking.{chunk}
use Rattle.job.specs.Jobs.{Job, accepted, refused, a_job, ended, framed_width, judge_end, passed, judged, read_job}
use Rattle.bit_writer.specs.Packed.{number_at, byte_at, bytes_for, packed}
use Rattle.bit_writer.proofs.Writing.{packed-length}
use Rattle.job_bits.specs.JobBits.{bytes_of}
use Rattle.job_bits.specs.Given as given
use Rattle.job_bits.specs.Given.{sized, given_job}
use Rattle.job_bits.specs.JobFields.{Field as JobField, field_bits, plus, job_fields}
use Rattle.job_bits.specs.JobTables.{counts_of, coordinates_of, rows_of, areas_of}
use Rattle.job_bits.proofs.Reading.{number_bit, At, at_first, at_all, byte_there}
use Rattle.job_bits.proofs.Coming.{unpacked, unpacked-length, unpacked-bits, unpacked-field, Span}
use Rattle.job_bits.proofs.FieldBits.{job-same}
use Rattle.job_bits.proofs.Returning.{Takes}
use Rattle.job_bits.proofs.KindsBack.{Jobs, job_came}

-- ---- bytes are their bits
byte_of : (b : List ℕ) (k : ℕ) → k < length b → get_or b k 0 < 256 → number_at (unpacked b) (8 * k) 8 0 ≡ get_or b k 0
byte_of b k h l =
    let r : 8 * k + 8 ≤ 8 * length b = omega arith in
    let m : 8 * k % 8 + 8 + 0 ≡ 8 = omega arith in
    let d : 8 * k / 8 ≡ k = omega arith in
    sym (unpacked-field b (8 * k) 8 0 r)
    ∙ chunk b (8 * k) 8 0 0 m
    ∙ ap (λ (i : ℕ). 0 * 2 ^ 8 + get_or b i 0 / 2 ^ 0 % 2 ^ 8) d
    ∙ z (get_or b k 0) l
  where
    z : (x : ℕ) → x < 256 → 0 * 256 + x / 1 % 256 ≡ x
    z x h = omega arith

same_number : (x y : List ℕ) → ((i : ℕ) → get_or x i 0 ≡ get_or y i 0) → (p w a : ℕ) → number_at x p w a ≡ number_at y p w a
unfolding number_at
same_number x y S p zero a = refl
same_number x y S p (suc w) a = ap (λ (k : ℕ). number_at x (suc p) w (a * 2 + k)) (S p) ∙ same_number x y S (suc p) w (a * 2 + get_or y p 0)

-- behind the last field only zeros are left
ended-parts : (b : List ℕ) (q : ℕ) → ended b q ≡ true → (8 * length b - q < 8) × (field_at b q (8 * length b - q) 0 ≡ 0)
unfolding ended
ended-parts b q e =
    let p = both (ltb (8 * length b - q) 8) (eqb (field_at b q (8 * length b - q) 0) 0) e in
    (ltb-true (8 * length b - q) 8 p.0, eqb-true (field_at b q (8 * length b - q) 0) 0 p.1)
  where
    both : (a c : Bool) → (a && c) ≡ true → (a ≡ true) × (c ≡ true)
    both true c e = (refl, e)
    both false c e = absurd (mathlib.Core.Bool.false≢true e)

rest-zero : (b : List ℕ) (q : ℕ) → q ≤ 8 * length b → ended b q ≡ true → (i : ℕ) → q ≤ i → get_or (unpacked b) i 0 ≡ 0
rest-zero b q h e i l =
    elim (below_or_not i (8 * length b)) [
      | inl a ↦
          let n : ℕ = 8 * length b - q in
          let s : suc (i - q) + (n - suc (i - q)) ≡ n = omega arith in
          let t : q + (i - q) ≡ i = omega arith in
          let r : q + n ≤ 8 * length b = omega arith in
          let z : number_at (unpacked b) q n 0 ≡ 0 = sym (unpacked-field b q n 0 r) ∙ (ended-parts b q e).1 in
          ap (λ (k : ℕ). get_or (unpacked b) k 0) (sym t)
          ∙ sym (number_bit (unpacked b) (unpacked-bits b) q (i - q) (n - suc (i - q)))
          ∙ ap (λ (k : ℕ). k / 2 ^ (n - suc (i - q)) % 2) (ap (λ (k : ℕ). number_at (unpacked b) q k 0) s ∙ z)
          ∙ none (2 ^ (n - suc (i - q))) (lib.Pow.pow_pos (n - suc (i - q)))
      | inr a ↦ get_or-eq_default (unpacked b) 0 (subst⁻¹ (λ (m : ℕ). m ≤ i) (unpacked-length b) a)
    ]
  where
    none : (k : ℕ) → 0 < k → 0 / k % 2 ≡ 0
    none k h = ap (λ (x : ℕ). x % 2) (native.Mathlib.Nat.div-eq_of_lt h)

same_bits : (b : List ℕ) (q : ℕ) (x : List ℕ) → Span b 0 q x → ended b q ≡ true → (i : ℕ) → get_or x i 0 ≡ get_or (unpacked b) i 0
same_bits b q x S e i =
    elim (below_or_not i (length x)) [
      | inl h ↦ S.same i h ∙ ap (λ (k : ℕ). get_or (unpacked b) k 0) (zero-add i)
      | inr h ↦ get_or-eq_default x 0 h ∙ sym (rest-zero b q S.room e i (omega (arith, S.end)))
    ]

-- every byte is below 256
unfoldable pub Bytes : List ℕ → Type 0
Bytes b = (k : ℕ) → k < length b → get_or b k 0 < 256

packed-back : (b : List ℕ) (q : ℕ) (x : List ℕ) → Bytes b → Span b 0 q x → ended b q ≡ true → packed x ≡ b
unfolding Bytes packed byte_at
packed-back b q x B S e =
    let n : bytes_for (length x) ≡ length b = omega (arith, S.end, S.room, (ended-parts b q e).0) in
    ext_get_or 0 (packed x) b (packed-length x ∙ n)
    (λ k h.
    let l : k < length b = subst (λ (m : ℕ). k < m) (packed-length x ∙ n) h in
    byte_there x (bytes_for (length x)) k (subst⁻¹ (λ (m : ℕ). k < m) n l)
    ∙ same_number x (unpacked b) (same_bits b q x S e) (8 * k) 8 0
    ∙ byte_of b k l (B k l))

-- ---- the whole
passed-parts : (b : List ℕ) (p : ℕ) (j k : Job) → passed (judge_end b p j.copies (framed_width j) j.header.resolution) j ≡ accepted k → (ended b p ≡ true)
    × (sized j ≡ accepted j) × (j ≡ k)
unfolding judge_end sized
passed-parts b p j k e = go (ended b p) (leb j.copies 4096) (lt (from_int 1_000_000) (framed_width j ⊘ j.header.resolution)) e
  where
    same : {a c : Job} → accepted a ≡ accepted c → a ≡ c
    same e = cc

    go : (s t u : Bool) → passed (cond s (cond t (cond u (Err TooManyColumns) (Ok tt)) (Err TooManyCopies)) (Err TrailingData)) j ≡ accepted k →
        (s ≡ true) × (cond t (cond u (refused TooManyColumns) (accepted j)) (refused TooManyCopies) ≡ accepted j) × (j ≡ k)
    go true true false e = (refl, refl, same e)
    go true true true e = absurd (zero-not-one (cc))
    go true false u e = absurd (zero-not-one (cc))
    go false t u e = absurd (zero-not-one (cc))

at_front : {A : Type 0} (l m : List A) → At (l ++ m) 0 l
at_front l m = at_first (l ++ m) 0 l m (at_all (l ++ m))

-- the fields of accepted bytes, as they came
pub record ComesBack (b : List ℕ) (j : Job) : Type 0 where
  pub fields : List JobField
  pub bytes : packed (flat_map field_bits fields) ≡ b
  pub plain : map plus fields ≡ job_fields j
  -- what is written is the same but for minus zeros
  pub written : bytes_of j ≡ packed (flat_map field_bits (map plus fields))
  -- and the job's own tables are taken by the writer, whatever stands behind them
  pub taken : (rs : List ℕ) (bs : List Float) (cs : List ℕ) (xs : List Float)
      → given_job j.header (rows_of j.kinds ++ rs) (areas_of j.kinds ++ bs) (counts_of j ++ cs) (coordinates_of j ++ xs) ≡ accepted j

pub comes_back : (b : List ℕ) (j : Job) → Bytes b → read_job b ≡ accepted j → ComesBack b j
unfolding read_job judged given_job given.judged Takes bytes_of
comes_back b j B e = go (a_job b 0) refl e
  where
    go : (t : Read Job) → a_job b 0 ≡ t → judged b t ≡ accepted j → ComesBack b j
    go (ok k q) f e =
        let P = passed-parts b q k j e in
        let J = subst (Jobs b 0 q) P.2 (job_came b k q f) in
        let s : sized j ≡ accepted j = subst (λ (z : Job). sized z ≡ accepted z) P.2 P.1 in
        record {
          fields = J.0.fields;
          bytes = packed-back b q _ B J.0.span P.0;
          plain = J.0.plain;
          written = ap packed (sym (job-same j) ∙ ap (flat_map field_bits) (sym J.0.plain));
          taken =
              λ rs bs cs xs.
              ap given.judged
              (J.1 (rows_of j.kinds ++ rs) (areas_of j.kinds ++ bs) (at_front (rows_of j.kinds) rs) (at_front (areas_of j.kinds) bs)
              (counts_of j ++ cs) (coordinates_of j ++ xs) 0 0 (at_front (counts_of j) cs) (at_front (coordinates_of j) xs)) ∙ s;
        }
    go (bad k) f e = absurd (zero-not-one (cc))

-- without a minus zero they come back identical
pub identical : (b : List ℕ) (j : Job) (C : ComesBack b j) → map plus C.fields ≡ C.fields → bytes_of j ≡ b
identical b j C e = C.written ∙ ap (λ (l : List JobField). packed (flat_map field_bits l)) e ∙ C.bytes
