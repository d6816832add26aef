-- Laws of the header: what it is, once taken; what is written of it reads as it was. Assumes nothing.
use Rattle.std.specs.Prelude.{Ok}
use mathlib.Core.Path.{◌≡◌, refl, sym, ap, ap₂, subst, subst⁻¹, ◌∙◌}
use Prim.Native.Nat.{ℕ, ◌≤◌, ◌<◌}
use native.Mathlib.Nat.{add-zero}
use mathlib.Core.Bool.{Bool, true, false, ◌&&◌, ◌||◌, cond}
use mathlib.Core.List.{List, [], ◌++◌, append_assoc}
use lib.Dec.{ltb, eqb, lit<}
use borrow.Author.Tests.{eqb-true}
use lib.Ieee.{Float, binary64, to_bits}
use Rattle.numbers.proofs.Truth.{zero-not-one}
use Rattle.bits.specs.declared.Refusal.TheVariants.{UnknownVersion, CountOutOfRange}
use Rattle.bits.specs.Reading.{ok, bad, ◌>>=◌, ◌>>◌, give, unless, bits}
use Rattle.bits.specs.Fields.{kinds_field, judge_count, count, resolution_range, judge_number, number}
use Rattle.frames.specs.declared.Frame.{Frame}
use Rattle.frames.specs.Frames.{lower_left}
use Rattle.job.specs.declared.Header.{Header}
use Rattle.job.specs.Jobs.{frame_of, a_frame, after_frame, a_header}
use Rattle.bit_writer.specs.Packed.{binary}
use Rattle.job_bits.specs.JobBits.{double_bits, frame_bits, version_bits, front_bits, header_bits}
use Rattle.job_bits.specs.Given as given
use Rattle.job_bits.specs.Given.{version_fits, given_frame, given_version, given_front, given_header}
use Rattle.job_bits.proofs.Takers.{after_ok, ok_value, fits_was, counted_was, counted_ok, measured_was}
use Rattle.job_bits.proofs.Parts.{Reads, reads_then, reads_skip, reads_give, reads_same, reads_last, bits_reads, count_reads, number_reads}

-- ---- what it is, once taken
abbrev pub header_with : Header → ℕ → Float → Header
header_with g k r =
    record { version = g.version; corner = g.corner; axis = g.axis; kinds = k; rounds = g.rounds; seed = g.seed; resolution = r }

-- its version and frame go together
pub record FrameFits (g : Header) : Type 0 where
  pub version : version_fits g ≡ true
  pub corner : g.corner < 4
  pub axis : g.axis < 2

versioned_was : (b : Bool) (c x : ℕ) (u : Unit {0}) (d y : ℕ) → cond b (given.ok tt c x) (given.bad UnknownVersion) ≡ given.ok u d y → b ≡ true
versioned_was true c x u d y e = refl
versioned_was false c x u d y e = absurd (zero-not-one (cc))

pub version_was : (g : Header) (cs : List ℕ) (xs : List Float) (c x : ℕ) (u : Unit {0}) (d y : ℕ) → given_version g cs xs c x ≡ given.ok u d y → FrameFits g
unfolding given_version given_frame
version_was g cs xs c x u d y e =
    let r₁ = after_ok (cond (version_fits g) (given.ok tt c x) (given.bad UnknownVersion)) _ u d y e in
    let r₂ = after_ok (cond (ltb g.corner 4) (given.ok tt r₁.1 r₁.2) (given.bad CountOutOfRange)) _ u d y r₁.4 in
    record {
      version = versioned_was (version_fits g) c x r₁.0 r₁.1 r₁.2 r₁.3;
      corner = fits_was 4 g.corner _ _ _ _ _ r₂.3;
      axis = fits_was 2 g.axis _ _ _ _ _ r₂.4;
    }

-- what follows the frame
pub record TakenFront (g h : Header) : Type 0 where
  pub kinds : judge_count 1 64 g.kinds ≡ Ok h.kinds
  pub rounds : g.rounds < 4096
  pub seed : g.seed < 18446744073709551616
  pub resolution : judge_number resolution_range.least resolution_range.most (to_bits binary64 g.resolution) ≡ Ok h.resolution
  pub same : header_with g h.kinds h.resolution ≡ h
  pub number : h.kinds ≡ g.kinds
  pub few : h.kinds ≤ 64

pub front_was : (g h : Header) (cs : List ℕ) (xs : List Float) (c x d y : ℕ) → given_front g cs xs c x ≡ given.ok h d y → TakenFront g h
unfolding given_front
front_was g h cs xs c x d y e =
    let r₁ = after_ok (given.counted (judge_count 1 64 g.kinds) c x) _ h d y e in
    let r₂ = after_ok (cond (ltb g.rounds 4096) (given.ok tt r₁.1 r₁.2) (given.bad CountOutOfRange)) _ h d y r₁.4 in
    let r₃ = after_ok (cond (ltb g.seed 18446744073709551616) (given.ok tt r₂.1 r₂.2) (given.bad CountOutOfRange)) _ h d y r₂.4 in
    let r₄ = after_ok (given.measured (judge_number resolution_range.least resolution_range.most (to_bits binary64 g.resolution)) r₃.1 r₃.2) _ h d y
    r₃.4 in
    let k = counted_ok 1 64 g.kinds _ _ _ _ _ r₁.3 in
    subst (TakenFront g) (ok_value r₄.4)
    (record {
      kinds = counted_was _ _ _ _ _ _ r₁.3;
      rounds = fits_was 4096 g.rounds _ _ _ _ _ r₂.3;
      seed = fits_was 18446744073709551616 g.seed _ _ _ _ _ r₃.3;
      resolution = measured_was _ _ _ _ _ _ r₄.3;
      same = refl;
      number = k.0;
      few = k.1;
    })

-- both
pub record TakenHeader (g h : Header) : Type 0 where
  pub frame : FrameFits g
  pub front : TakenFront g h

pub header_was : (g h : Header) (cs : List ℕ) (xs : List Float) (c x d y : ℕ) → given_header g cs xs c x ≡ given.ok h d y → TakenHeader g h
unfolding given_header
header_was g h cs xs c x d y e =
    let r = after_ok (given_version g cs xs c x) (λ a d y. given_front g cs xs d y) h d y e in
    record { frame = version_was g cs xs c x r.0 r.1 r.2 r.3; front = front_was g h cs xs r.1 r.2 d y r.4 }

-- ---- what is written of it reads as it was
-- the frame that version 1 means
lower-left : (g : Header) → (eqb g.corner 0 && eqb g.axis 1) ≡ true → lower_left ≡ frame_of g
lower-left g e = go (eqb g.corner 0) (eqb g.axis 1) (eqb-true g.corner 0) (eqb-true g.axis 1) e
  where
    go : (a b : Bool) → (a ≡ true → g.corner ≡ 0) → (b ≡ true → g.axis ≡ 1) → (a && b) ≡ true → lower_left ≡ frame_of g
    go true true f h e = ap₂ (λ (c a : ℕ). record { corner = c; axis = a }) (sym (f refl)) (sym (h refl))
    go true false f h e = absurd (mathlib.Core.Bool.false≢true e)
    go false b f h e = absurd (mathlib.Core.Bool.false≢true e)

frame_reads : (g : Header) → FrameFits g → Reads (a_frame g.version) (cond (eqb g.version 1) [] (frame_bits g)) (frame_of g)
unfolding a_frame frame_bits version_fits
frame_reads g F = go (eqb g.version 1) F.version
  where
    go : (b : Bool) → cond b (eqb g.corner 0 && eqb g.axis 1) (eqb g.version 2) ≡ true
        → Reads (cond b (give lower_left) (bits 2 >>= λ c. bits 1 >>= λ a. give (record { corner = c; axis = a })))
        (cond b [] (binary 2 g.corner ++ binary 1 g.axis)) (frame_of g)
    go true e = subst (λ (f : Frame). Reads (give lower_left) [] f) (lower-left g e) (reads_give lower_left)
    go false e =
        reads_then (bits 2) (λ c. bits 1 >>= (λ a. give (record { corner = c; axis = a }))) (binary 2 g.corner) (binary 1 g.axis) g.corner (frame_of g)
        (bits_reads 2 g.corner F.corner)
        (reads_last (bits 1) (λ a. give (record { corner = g.corner; axis = a })) (binary 1 g.axis) g.axis (frame_of g)
        (bits_reads 1 g.axis F.axis) (reads_give (frame_of g)))

-- the version is 1 or 2
pub version_known : (g : Header) → version_fits g ≡ true → ((eqb g.version 1 || eqb g.version 2) ≡ true) × (g.version < 16)
unfolding version_fits
version_known g e = go (eqb g.version 1) (eqb g.version 2) (eqb-true g.version 1) (eqb-true g.version 2) e
  where
    go : (a b : Bool) → (a ≡ true → g.version ≡ 1) → (b ≡ true → g.version ≡ 2)
        → cond a (eqb g.corner 0 && eqb g.axis 1) b ≡ true → ((a || b) ≡ true) × (g.version < 16)
    go true b f h e = (refl, subst⁻¹ (λ (n : ℕ). n < 16) (f refl) (lit< tt))
    go false true f h e = (refl, subst⁻¹ (λ (n : ℕ). n < 16) (h refl) (lit< tt))
    go false false f h e = absurd (mathlib.Core.Bool.false≢true e)

unless_reads : (b : Bool) → b ≡ true → Reads (unless UnknownVersion b) [] tt
unfolding Reads
unless_reads b e l A p T = ap (λ (b : Bool). cond b (ok tt p) (bad UnknownVersion)) e ∙ ap (λ (q : ℕ). ok tt q) (sym (add-zero p))

front_reads : (g h : Header) → TakenFront g h → Reads (after_frame g.version (frame_of g)) (front_bits (header_with g h.kinds h.resolution))
    (header_with g h.kinds h.resolution)
unfolding after_frame front_bits
front_reads g h F =
    let k = h.kinds in
    let n = g.rounds in
    let s = g.seed in
    let r = h.resolution in
    let v = header_with g k r in
    let with : ℕ → ℕ → ℕ → Float → Header =
    λ k n s r. record { version = g.version; corner = g.corner; axis = g.axis; kinds = k; rounds = n; seed = s; resolution = r } in
    reads_then (count kinds_field) (λ k. bits 12 >>= (λ n. bits 64 >>= (λ s. number resolution_range >>= (λ r. give (with k n s r)))))
    (binary 7 k) (binary 12 n ++ (binary 64 s ++ double_bits r)) k v (count_reads kinds_field g.kinds k F.kinds (lit< tt))
    (reads_then (bits 12) (λ n. bits 64 >>= (λ s. number resolution_range >>= (λ r. give (with k n s r)))) (binary 12 n) (binary 64 s ++ double_bits r) n v
    (bits_reads 12 n F.rounds)
    (reads_then (bits 64) (λ s. number resolution_range >>= (λ r. give (with k n s r))) (binary 64 s) (double_bits r) s v (bits_reads 64 s F.seed)
    (reads_last (number resolution_range) (λ r. give (with k n s r)) (double_bits r) r v
    (number_reads resolution_range (to_bits binary64 g.resolution) r F.resolution) (reads_give v))))

pub header_reads : (g h : Header) (cs : List ℕ) (xs : List Float) (c x d y : ℕ) → given_header g cs xs c x ≡ given.ok h d y → Reads a_header (header_bits h) h
unfolding a_header header_bits version_bits frame_bits
header_reads g h cs xs c x d y e =
    let T = header_was g h cs xs c x d y e in
    let a : Header = header_with g h.kinds h.resolution in
    let k = version_known g T.frame.version in
    let v = g.version in
    let X : List ℕ = cond (eqb v 1) [] (frame_bits g) in
    subst (λ (z : Header). Reads a_header ((binary 4 z.version ++ cond (eqb z.version 1) [] (frame_bits z)) ++ front_bits z) z) T.front.same
    (reads_same a_header (binary 4 v ++ (X ++ front_bits a)) ((binary 4 v ++ X) ++ front_bits a) a (sym (append_assoc (binary 4 v) X (front_bits a)))
    (reads_then (bits 4) (λ v. unless UnknownVersion (eqb v 1 || eqb v 2) >> (a_frame v >>= after_frame v)) (binary 4 v) (X ++ front_bits a) v a
    (bits_reads 4 v k.1)
    (reads_skip (unless UnknownVersion (eqb v 1 || eqb v 2)) (a_frame v >>= after_frame v) [] (X ++ front_bits a) tt a (unless_reads _ k.0)
    (reads_then (a_frame v) (after_frame v) X (front_bits a) (frame_of g) a (frame_reads g T.frame) (front_reads g h T.front)))))
