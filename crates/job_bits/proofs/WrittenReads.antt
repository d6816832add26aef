-- W9: "What it writes reads as the job it was given", "Two jobs of the same version are equal exactly when their written bytes are." Assumes nothing.
use mathlib.Core.Path.{◌≡◌, refl, sym, ap, ap₂, ◌∙◌}
use Prim.Native.Nat.{ℕ, zero, ◌-◌, ◌*◌, ◌≤◌, ◌<◌}
use native.Mathlib.Omega.{arith}
use native.Mathlib.Nat.{zero-add}
use mathlib.Core.Bool.{Bool, true, false, ◌&&◌, cond}
use mathlib.Core.List.{List, [], ◌∷◌, ◌++◌, flat_map}
use lib.ListN.{length}
use lib.Dec.{leb, eqb}
use borrow.Author.Tests.{lt-ltb, eq-eqb}
use lib.Ieee.{Float, binary64, to_bits, lt}
use Rattle.numbers.proofs.Truth.{zero-not-one}
use Rattle.numbers.specs.Numbers.{◌⊘◌, from_int}
use Rattle.bits.specs.declared.Refusal.TheVariants.{TooManyCopies, TooManyColumns}
use Rattle.bits.specs.Bits.{field_at}
use Rattle.bits.specs.Reading.{ok}
use Rattle.job.specs.declared.Header.{Header}
use Rattle.kinds.specs.sets.Sets.{Set}
use Rattle.kinds.specs.Kinds.{Orientation, Kind}
use Rattle.job.specs.Jobs.{Job, accepted, refused, ended, framed_width, judge_end, judged, read_job}
use Rattle.bit_writer.specs.Packed.{binary, packed}
use Rattle.bit_writer.proofs.Bits.{number_past}
use Rattle.bit_writer.proofs.Writing.{packed-length}
use Rattle.job_bits.specs.JobBits.{double_bits, frame_bits, version_bits, front_bits, header_bits, loops_bits, set_bits, orientation_bits, head_bits, head_of, kind_bits, job_bits, bytes_of}
use Rattle.job_bits.specs.Given as given
use Rattle.job_bits.specs.Given.{given_fields, sized, given_job}
use Rattle.job_bits.proofs.Reading.{AllBits, binary-bits, append_bits, none-bits, packed-field, at_all}
use Rattle.job_bits.proofs.Parts.{Reads}
use Rattle.job_bits.proofs.Wholes.{job_reads}

-- ---- a job's bits are bits
double-bits : (x : Float) → AllBits (double_bits x)
unfolding double_bits
double-bits x = binary-bits 64 (to_bits binary64 x)

all_bits : {A : Type 0} (f : A → List ℕ) → ((a : A) → AllBits (f a)) → (l : List A) → AllBits (flat_map f l)
unfolding flat_map
all_bits f F [] = none-bits
all_bits f F (a ∷ l) = append_bits (f a) (flat_map f l) (F a) (all_bits f F l)

loops_bits_lem : (before : ℕ) (es : List ℕ) (xs : List Float) → AllBits (loops_bits before es xs)
unfolding loops_bits
loops_bits_lem before [] xs = none-bits
loops_bits_lem before (e ∷ es) xs =
    append_bits (binary 10 (e - before)) _ (binary-bits 10 (e - before)) (append_bits (flat_map double_bits (lib.ListN.take (2 * (e - before)) xs)) _
    (all_bits double_bits double-bits (lib.ListN.take (2 * (e - before)) xs)) (loops_bits_lem e es (lib.ListN.drop (2 * (e - before)) xs)))

pub set-bits : (s : Set) → AllBits (set_bits s)
unfolding set_bits
set-bits s = append_bits (binary 7 (length s.ends)) (loops_bits 0 s.ends s.points) (binary-bits 7 (length s.ends))
    (loops_bits_lem 0 s.ends s.points)

orientation-bits : (o : Orientation) → AllBits (orientation_bits o)
unfolding orientation_bits
orientation-bits o = append_bits (set_bits o.apart) (set_bits o.inset) (set-bits o.apart) (set-bits o.inset)

kind-bits : (k : Kind) → AllBits (kind_bits k)
unfolding kind_bits head_bits
kind-bits k =
    append_bits (head_bits (head_of k)) (flat_map orientation_bits k.orientations)
    (append_bits _ _ (binary-bits 12 (head_of k).quantity) (append_bits _ _ (binary-bits 1 (head_of k).fill)
    (append_bits _ _ (binary-bits 32 (head_of k).priority) (append_bits _ _ (double-bits (head_of k).area) (binary-bits 5 (head_of k).orientations)))))
    (all_bits orientation_bits orientation-bits k.orientations)

version-bits : (h : Header) → AllBits (version_bits h)
unfolding version_bits frame_bits
version-bits h = append_bits (binary 4 h.version) _ (binary-bits 4 h.version) (go (eqb h.version 1))
  where
    go : (b : Bool) → AllBits (cond b [] (binary 2 h.corner ++ binary 1 h.axis))
    go true = none-bits
    go false = append_bits _ _ (binary-bits 2 h.corner) (binary-bits 1 h.axis)

front-bits : (h : Header) → AllBits (front_bits h)
unfolding front_bits
front-bits h =
    append_bits _ _ (binary-bits 7 h.kinds)
    (append_bits _ _ (binary-bits 12 h.rounds) (append_bits _ _ (binary-bits 64 h.seed) (double-bits h.resolution)))

pub job-bits : (j : Job) → AllBits (job_bits j)
unfolding job_bits header_bits
job-bits j =
    append_bits (header_bits j.header) _ (append_bits (version_bits j.header) (front_bits j.header) (version-bits j.header) (front-bits j.header))
    (append_bits (set_bits j.sheet) _ (set-bits j.sheet) (all_bits kind_bits kind-bits j.kinds))

-- ---- behind the last field zeros fill the last byte
pub packed-ended : (l : List ℕ) → AllBits l → ended (packed l) (length l) ≡ true
unfolding ended
packed-ended l A =
    let n : ℕ = 8 * length (packed l) - length l in
    let h : n < 8 = omega (arith, packed-length l) in
    let e : field_at (packed l) (length l) n 0 ≡ 0 = packed-field l A (length l) n 0 ∙ number_past l (length l) n 0 (z (length l)) ∙ zero
    (Prim.Native.Nat.◌^◌ 2 n) in
    ap₂ (λ (a b : Bool). a && b) (lt-ltb n 8 h) (eq-eqb (field_at (packed l) (length l) n 0) 0 e)
  where
    z : (n : ℕ) → n ≤ n
    z n = omega arith

    zero : (k : ℕ) → 0 * k ≡ 0
    zero k = omega arith

-- ---- the job
sized-parts : (j k : Job) → sized j ≡ accepted k → (leb j.copies 4096 ≡ true) × (lt (from_int 1_000_000) (framed_width j ⊘ j.header.resolution) ≡ false) ×
    (j ≡ k)
unfolding sized
sized-parts j k e = go (leb j.copies 4096) (lt (from_int 1_000_000) (framed_width j ⊘ j.header.resolution)) e
  where
    same : {a b : Job} → accepted a ≡ accepted b → a ≡ b
    same e = cc

    go : (a b : Bool) → cond a (cond b (refused TooManyColumns) (accepted j)) (refused TooManyCopies) ≡ accepted k → (a ≡ true) × (b ≡ false) × (j ≡ k)
    go true false e = (refl, refl, same e)
    go true true e = absurd (zero-not-one (cc))
    go false b e = absurd (zero-not-one (cc))

judged-accepted : (bytes : List ℕ) (p : ℕ) (j : Job) → ended bytes p ≡ true → leb j.copies 4096 ≡ true → lt (from_int 1_000_000)
    (framed_width j ⊘ j.header.resolution) ≡ false → judged bytes (ok j p) ≡ accepted j
unfolding judged judge_end
judged-accepted bytes p j e f g = rw (e, f, g)

pub fields_of : (g : Header) (rows : List ℕ) (areas : List Float) (cs : List ℕ) (xs : List Float) (j : Job) → given_job g rows areas cs xs ≡ accepted j → (d : ℕ) ×
    (y : ℕ) × (given_fields g rows areas cs xs 0 0 ≡ given.ok j d y) × (sized j ≡ accepted j)
unfolding given_job given.judged
fields_of g rows areas cs xs j e = go (given_fields g rows areas cs xs 0 0) refl e
  where
    go : (t : given.Taken Job) → given_fields g rows areas cs xs 0 0 ≡ t → given.judged t ≡ accepted j → (d : ℕ) × (y : ℕ) ×
        (given_fields g rows areas cs xs 0 0 ≡ given.ok j d y) × (sized j ≡ accepted j)
    go (given.ok k d y) f e =
        let s = (sized-parts k j e).2 in
        (d, y, f ∙ ap (λ (z : Job). given.ok z d y) s, ap sized (sym s) ∙ e)
    go (given.bad k) f e = absurd (zero-not-one (cc))

-- "What it writes reads as the job it was given"
pub written_reads : (g : Header) (rows : List ℕ) (areas : List Float) (cs : List ℕ) (xs : List Float) (j : Job) → given_job g rows areas cs xs ≡ accepted j →
    read_job (bytes_of j) ≡ accepted j
unfolding read_job bytes_of Reads
written_reads g rows areas cs xs j e =
    let t = fields_of g rows areas cs xs j e in
    let s = sized-parts j j t.3 in
    let A = job-bits j in
    let r = job_reads g rows areas cs xs 0 0 j t.0 t.1 t.2 (job_bits j) A 0 (at_all (job_bits j)) in
    ap (judged (packed (job_bits j))) (r ∙ ap (λ (q : ℕ). ok j q) (zero-add (length (job_bits j))))
    ∙ judged-accepted (packed (job_bits j)) (length (job_bits j)) j (packed-ended (job_bits j) A) s.0 s.1

-- "Two jobs of the same version are equal exactly when their written bytes are."
module _ (g h : Header) (rows rows' : List ℕ) (areas areas' : List Float) (cs cs' : List ℕ) (xs xs' : List Float) (j k : Job)
    (J : given_job g rows areas cs xs ≡ accepted j) (K : given_job h rows' areas' cs' xs' ≡ accepted k) where
  pub same_bytes : j ≡ k → bytes_of j ≡ bytes_of k
  same_bytes e = ap bytes_of e

  pub same-job : bytes_of j ≡ bytes_of k → j ≡ k
  same-job e = same (sym (written_reads g rows areas cs xs j J) ∙ ap read_job e ∙ written_reads h rows' areas' cs' xs' k K)
    where
      same : {a b : Job} → accepted a ≡ accepted b → a ≡ b
      same e = cc
