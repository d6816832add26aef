-- Laws of the whole job: its end, its sheet's width, and the answer. Assumes nothing.
use Rattle.std.specs.Prelude.{Result, Ok, Err}
use mathlib.Core.Path.{◌≡◌, refl, sym, ap, ◌∙◌, subst}
use Prim.Native.Nat.{ℕ, zero, suc, ◌+◌, ◌-◌, ◌*◌, ◌/◌, ◌≤◌, ◌<◌}
use native.Mathlib.Omega.{arith}
use mathlib.Core.Bool.{true, false}
use mathlib.Core.List.{List, []}
use lib.ListN.{length, take, get_or, length-take}
use lib.Seq.{get_or-take}
use lib.Dec.{eqb}
use lib.Ieee.{Float, nan, lt}
use borrow.Author.Tests.{le-ltb, lt-ltb, le-leb, lt-leb}
use Rattle.numbers.specs.Numbers.{◌⊖◌, ◌⊘◌, from_int, smaller, larger}
use Rattle.numbers.proofs.Truth.{zero-not-one}
use Rattle.bits.specs.declared.Refusal.{Refusal}
use Rattle.bits.specs.declared.Refusal.TheVariants.{TrailingData, TooManyCopies, TooManyColumns}
use Rattle.bits.specs.Bits.{field_at}
use Rattle.bits.specs.Reading.{Read, ok, bad, after, bits}
use Rattle.bits.proofs.Taking.{field-zero}
use Rattle.job.specs.declared.Header.{Header}
use Rattle.job.specs.declared.ReadJob.{ReadJob}
use Rattle.kinds.specs.inner.Tables.{tabulate, kind_at}
use Rattle.job.specs.inner.Meaning.{job_read}
use Rattle.kinds.specs.sets.Sets.{Set, a_set}
use Rattle.kinds.specs.sets.inner.Answers.{set_at, set_read}
use Rattle.kinds.specs.Kinds.{Kind, some_kinds, copies_of}
use Rattle.frames.specs.declared.Frame.{Frame}
use Rattle.frames.specs.Frames.{framed}
use Rattle.frames.specs.inner.Turning.{framed_read}
use Rattle.frames.proofs.Turned.{framed_ok, framed-bad}
use Rattle.job.specs.Jobs.{frame_of, a_header, a_job, ended, left, right, width_of, framed_width, judge_end, refused, passed, judged, read_job}

-- ---- the end
module _ (bytes : List ℕ) (p : ℕ) where
  pub ended_more : (p + 7) / 8 < length bytes → false ≡ ended bytes p
  unfolding ended
  ended_more h =
      let l : 8 ≤ 8 * length bytes - p = omega arith in
      rw (le-ltb (8 * length bytes - p) 8 l)

  pub ended_less : length bytes < (p + 7) / 8 → true ≡ ended bytes p
  unfolding ended
  ended_less h =
      let l : 8 * length bytes - p < 8 = omega arith in
      let z : 8 * length bytes - p ≡ 0 = omega arith in
      let f : field_at bytes p (8 * length bytes - p) 0 ≡ 0 = ap (λ (w : ℕ). field_at bytes p w 0) z ∙ field-zero bytes p 0 in
      rw (lt-ltb (8 * length bytes - p) 8 l, f)

  module _ (h : (p + 7) / 8 ≤ length bytes) (k : length bytes ≤ (p + 7) / 8) where
    in_bits : bits (8 * ((p + 7) / 8) - p) bytes p ≡ ok (field_at bytes p (8 * length bytes - p) 0) (p + (8 * ((p + 7) / 8) - p))
    unfolding bits
    in_bits =
        let a : (p + 7) / 8 ≡ length bytes = omega arith in
        let l : p + (8 * ((p + 7) / 8) - p) ≤ 8 * length bytes = omega arith in
        rw (le-leb (p + (8 * ((p + 7) / 8) - p)) (8 * length bytes) l) (ap (λ (m : ℕ). ok (field_at bytes p (8 * m - p) 0) (p + (8 * ((p + 7) / 8) - p))) a)

    pub ended_same : {x q : ℕ} → bits (8 * ((p + 7) / 8) - p) bytes p ≡ ok x q → eqb x 0 ≡ ended bytes p
    unfolding ended
    ended_same {x} {q} e =
        let l : 8 * length bytes - p < 8 = omega arith in
        let s : ok x q ≡ ok (field_at bytes p (8 * length bytes - p) 0) (p + (8 * ((p + 7) / 8) - p)) = sym e ∙ in_bits in
        let y : x ≡ field_at bytes p (8 * length bytes - p) 0 = cc in
        rw (y, lt-ltb (8 * length bytes - p) 8 l)

    pub ended_never : {k : Refusal} → bits (8 * ((p + 7) / 8) - p) bytes p ≡ bad k → false ≡ ended bytes p
    ended_never {k} e =
        let s : ◌≡◌ {A = Read ℕ} (bad k) (ok (field_at bytes p (8 * length bytes - p) 0) (p + (8 * ((p + 7) / 8) - p))) = sym e ∙ in_bits in
        let z : ◌≡◌ {A = ℕ} 0 1 = cc in
        absurd (zero-not-one z)

-- ---- the width
pub left_more : (xs : List Float) (i : ℕ) (x : Float) → x ≡ left xs i → smaller x (get_or xs (2 * i) nan) ≡ left xs (i + 1)
unfolding left
left_more xs i x e =
    let a : i + 1 ≡ suc i = omega arith in
    rw (e, a)

pub right_more : (xs : List Float) (i : ℕ) (x : Float) → x ≡ right xs i → larger x (get_or xs (2 * i) nan) ≡ right xs (i + 1)
unfolding right
right_more xs i x e =
    let a : i + 1 ≡ suc i = omega arith in
    rw (e, a)

left-take : (xs : List Float) (m i : ℕ) → 2 * i ≤ m → left (take m xs) i ≡ left xs i
unfolding left
left-take xs m zero h = refl
left-take xs m (suc i) h =
    let k : 2 * i < m = omega arith in
    let w : 2 * i ≤ m = omega arith in
    rw (get_or-take m xs (2 * i) nan k, left-take xs m i w)

right-take : (xs : List Float) (m i : ℕ) → 2 * i ≤ m → right (take m xs) i ≡ right xs i
unfolding right
right-take xs m zero h = refl
right-take xs m (suc i) h =
    let k : 2 * i < m = omega arith in
    let w : 2 * i ≤ m = omega arith in
    rw (get_or-take m xs (2 * i) nan k, right-take xs m i w)

pub width_is : (xs : List Float) (es : List ℕ) (m : ℕ) → 2 * m ≤ length xs → right xs m ⊖ left xs m ≡ width_of (record { points = take (2 * m) xs; ends = es })
unfolding width_of
width_is xs es m h =
    let a : length (take (2 * m) xs) / 2 ≡ m = simp length-take (omega arith) in
    let l : 2 * m ≤ 2 * m = omega arith in
    rw (a, left-take xs (2 * m) m l, right-take xs (2 * m) m l)

-- of the sheet that was read, in the frame
pub width_read : (f : Frame) (s : Set) (xs : List Float) (es : List ℕ) (m : ℕ) {w : Float} → framed f s ≡ record { points = take (2 * m) xs; ends = es }
    → 2 * m ≤ length xs → w ≡ right xs m ⊖ left xs m → w ≡ width_of (framed f s)
width_read f s xs es m e h d = d ∙ width_is xs es m h ∙ ap width_of (sym e)

-- ---- after the last field
module _ (bytes : List ℕ) (p copies : ℕ) (w r : Float) where
  pub end-bits : ended bytes p ≡ false → Err TrailingData ≡ judge_end bytes p copies w r
  unfolding judge_end
  end-bits h = rw h

  module _ (h : ended bytes p ≡ true) where
    pub end-copies : 4096 < copies → Err TooManyCopies ≡ judge_end bytes p copies w r
    unfolding judge_end
    end-copies k = rw (h, lt-leb copies 4096 k)

    module _ (k : copies ≤ 4096) where
      pub end-columns : lt (from_int 1_000_000) (w ⊘ r) ≡ true → Err TooManyColumns ≡ judge_end bytes p copies w r
      unfolding judge_end
      end-columns l = rw (h, le-leb copies 4096 k, l)

      pub end-passed : lt (from_int 1_000_000) (w ⊘ r) ≡ false → (Ok tt) ≡ judge_end bytes p copies w r
      unfolding judge_end
      end-passed l = rw (h, le-leb copies 4096 k, l)

-- ---- the sheet, read in the frame g
module _ (bytes : List ℕ) (at : ℕ) (room : List Float) (ends : List ℕ) (r : Result (ℕ × ℕ × ℕ) Refusal) (f g : Frame) (h : f ≡ g)
    (e : framed_read f (a_set bytes at) ≡ set_read r room ends) where
  read_as_told : (t : Result (ℕ × ℕ × ℕ) Refusal) → r ≡ t → framed_read g (a_set bytes at) ≡ set_read t room ends
  read_as_told t d =
      subst (λ (x : Frame). framed_read x (a_set bytes at) ≡ set_read r room ends) h e ∙ ap (λ (x : Result (ℕ × ℕ × ℕ) Refusal). set_read x room ends) d

  pub sheet-read : (n m q : ℕ) → r ≡ Ok (n, m, q)
      → (s : Set) × (a_set bytes at ≡ ok s q) × (framed g s ≡ record { points = take (2 * m) room; ends = take n ends })
  sheet-read n m q d = framed_ok g (a_set bytes at) (record { points = take (2 * m) room; ends = take n ends }) q (read_as_told (Ok (n, m, q)) d)

  pub sheet-refused : (k : Refusal) → r ≡ Err k → a_set bytes at ≡ bad k
  sheet-refused k d = framed-bad g (a_set bytes at) k (read_as_told (Err k) d)

-- ---- the job
module _ (bytes : List ℕ) where
  pub job-header : {k : Refusal} → a_header bytes 0 ≡ bad k → read_job bytes ≡ refused k
  unfolding read_job judged a_job after
  job-header e = rw e

  module _ {h : Header} {p1 : ℕ} (e1 : a_header bytes 0 ≡ ok h p1) where
    pub job-sheet : {k : Refusal} → a_set bytes p1 ≡ bad k → read_job bytes ≡ refused k
    unfolding read_job judged a_job after
    job-sheet e = rw (e1, e)

    module _ {s : Set} {p2 : ℕ} (e2 : a_set bytes p1 ≡ ok s p2) where
      pub job-kinds : {k : Refusal} → some_kinds h.kinds [] bytes p2 ≡ bad k → read_job bytes ≡ refused k
      unfolding read_job judged a_job after
      job-kinds e = rw (e1, e2, e)

      pub job_in_lem : {ks : List Kind} {p3 : ℕ} → some_kinds h.kinds [] bytes p2 ≡ ok ks p3 → read_job bytes ≡ passed
          (judge_end bytes p3 (copies_of ks) (width_of (framed (frame_of h) s)) h.resolution)
          (record { header = h; sheet = s; kinds = ks; copies = copies_of ks })
      unfolding read_job judged a_job after framed_width
      job_in_lem e = rw (e1, e2, e)

-- what is answered after the last field, from what each callee gave
module _ (bytes R : List ℕ) (A : List Float) (P : List ℕ) (h : Header) (at c : ℕ) where
  pub job-answer :
      (p : ℕ) (w : Float) {s : Set} {d : Result (Unit {0}) Refusal}
      → read_job bytes ≡ passed (judge_end bytes p (copies_of (tabulate (kind_at bytes R A P) h.kinds)) (width_of (framed (frame_of h) s)) h.resolution)
      (record { header = h; sheet = s; kinds = tabulate (kind_at bytes R A P) h.kinds; copies = copies_of (tabulate (kind_at bytes R A P) h.kinds) })
      → set_at bytes at ≡ s
      → c ≡ copies_of (tabulate (kind_at bytes R A P) h.kinds)
      → w ≡ width_of (framed (frame_of h) s)
      → d ≡ judge_end bytes p c w h.resolution
      → read_job bytes ≡ passed d (record { header = h; sheet = set_at bytes at; kinds = tabulate (kind_at bytes R A P) h.kinds; copies = c })
  job-answer p w {s} {d} e es ec ew ed =
      e
      ∙ ap (λ (x : ℕ). passed (judge_end bytes p x (width_of (framed (frame_of h) s)) h.resolution)
      (record { header = h; sheet = s; kinds = tabulate (kind_at bytes R A P) h.kinds; copies = x })) (sym ec)
      ∙ ap (λ (x : Float). passed (judge_end bytes p c x h.resolution) (record
      { header = h; sheet = s; kinds = tabulate (kind_at bytes R A P) h.kinds; copies = c })) (sym ew)
      ∙ ap (λ (x : Result (Unit {0}) Refusal). passed x (record { header = h; sheet = s; kinds = tabulate (kind_at bytes R A P) h.kinds; copies = c })) (sym ed)
      ∙ ap (λ (x : Set). passed d (record { header = h; sheet = x; kinds = tabulate (kind_at bytes R A P) h.kinds; copies = c })) (sym es)

-- ---- a job as it was read
pub read_as : (bytes : List ℕ) (r : ReadJob) {a : (Result (Header × ℕ × ℕ) Refusal)} → read_job bytes ≡ job_read r.answer bytes r.rows r.areas r.places → r.answer ≡ a
    → read_job bytes ≡ job_read a bytes r.rows r.areas r.places
read_as bytes r e d = e ∙ ap (λ (a : Result (Header × ℕ × ℕ) Refusal). job_read a bytes r.rows r.areas r.places) d
