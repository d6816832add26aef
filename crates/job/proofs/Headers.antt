-- Laws of the header. Assumes nothing.
use mathlib.Core.Path.{◌≡◌}
use Prim.Native.Nat.{ℕ}
use mathlib.Core.List.{List}
use lib.Ieee.{Float}
use borrow.Author.Tests.{eq-eqb, ne_eqb}
use Rattle.bits.specs.declared.Refusal.{Refusal}
use Rattle.bits.specs.declared.Refusal.TheVariants.{UnknownVersion}
use Rattle.bits.specs.Reading.{Read, ok, bad, after, bits}
use Rattle.frames.specs.declared.Frame.{Frame}
use Rattle.frames.specs.Frames.{lower_left}
use Rattle.bits.specs.Fields.{kinds_field, count, resolution_range, number}
use Rattle.job.specs.declared.Header.{Header}
use Rattle.job.specs.Jobs.{a_frame, after_frame, a_header}
use Rattle.job.specs.inner.Meaning.{framed_header}

module _ (bytes : List ℕ) (p v : ℕ) (f : Frame) where
  pub front-1 : {k : Refusal} → count kinds_field bytes p ≡ bad k → after_frame v f bytes p ≡ bad k
  unfolding after_frame after
  front-1 e = rw e

  module _ {c p1 : ℕ} (e1 : count kinds_field bytes p ≡ ok c p1) where
    pub front-2 : {k : Refusal} → bits 12 bytes p1 ≡ bad k → after_frame v f bytes p ≡ bad k
    unfolding after_frame after
    front-2 e = rw (e1, e)

    module _ {n p2 : ℕ} (e2 : bits 12 bytes p1 ≡ ok n p2) where
      pub front-3 : {k : Refusal} → bits 64 bytes p2 ≡ bad k → after_frame v f bytes p ≡ bad k
      unfolding after_frame after
      front-3 e = rw (e1, e2, e)

      module _ {s p3 : ℕ} (e3 : bits 64 bytes p2 ≡ ok s p3) where
        pub front-4 : {k : Refusal} → number resolution_range bytes p3 ≡ bad k → after_frame v f bytes p ≡ bad k
        unfolding after_frame after
        front-4 e = rw (e1, e2, e3, e)

        pub front_in : {x : Float} {p4 : ℕ} → number resolution_range bytes p3 ≡ ok x p4 → after_frame v f bytes p ≡ ok
            (record { version = v; corner = f.corner; axis = f.axis; kinds = c; rounds = n; seed = s; resolution = x }) p4
        unfolding after_frame after
        front_in e = rw (e1, e2, e3, e)

-- ---- the frame of version 2
module _ (bytes : List ℕ) (p : ℕ) where
  pub framed-1 : {k : Refusal} → bits 2 bytes p ≡ bad k → framed_header 2 bytes p ≡ bad k
  unfolding framed_header a_frame after
  framed-1 e = rw e

  module _ {c p1 : ℕ} (e1 : bits 2 bytes p ≡ ok c p1) where
    pub framed-2 : {k : Refusal} → bits 1 bytes p1 ≡ bad k → framed_header 2 bytes p ≡ bad k
    unfolding framed_header a_frame after
    framed-2 e = rw (e1, e)

    pub framed_in : {a p2 : ℕ} → bits 1 bytes p1 ≡ ok a p2 → {r : Read Header} → after_frame 2 (record { corner = c; axis = a }) bytes p2 ≡ r
        → framed_header 2 bytes p ≡ r
    unfolding framed_header a_frame after
    framed_in e {r} d = rw (e1, e) d

-- ---- the version
module _ (bytes : List ℕ) where
  pub header-end : {k : Refusal} → bits 4 bytes 0 ≡ bad k → a_header bytes 0 ≡ bad k
  unfolding a_header after
  header-end e = rw e

  module _ {v p1 : ℕ} (e1 : bits 4 bytes 0 ≡ ok v p1) where
    pub header-other : (v ≡ 1 → ⊥) → (v ≡ 2 → ⊥) → a_header bytes 0 ≡ bad UnknownVersion
    unfolding a_header after
    header-other h g = rw (e1, ne_eqb v 1 h, ne_eqb v 2 g)

    pub header-one : v ≡ 1 → {r : Read Header} → after_frame v lower_left bytes p1 ≡ r → a_header bytes 0 ≡ r
    unfolding a_header a_frame after
    header-one h {r} f = rw (e1, eq-eqb v 1 h) f

    pub header_two : v ≡ 2 → {r : Read Header} → framed_header 2 bytes p1 ≡ r → a_header bytes 0 ≡ r
    unfolding a_header framed_header after
    header_two h {r} f = rw (e1, h) f
