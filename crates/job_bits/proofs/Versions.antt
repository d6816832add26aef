-- Laws of the version of a job that is given. Assumes nothing.
use mathlib.Core.Path.{◌≡◌, refl, sym, ap, ap₂, ◌∙◌}
use Prim.Native.Nat.{ℕ}
use mathlib.Core.Bool.{Bool, true, false, ◌&&◌, cond}
use mathlib.Core.List.{List}
use lib.Dec.{eqb}
use borrow.Author.Tests.{eq-eqb, eqb-true}
use lib.Ieee.{Float}
use Rattle.bits.specs.declared.Refusal.TheVariants.{UnknownVersion}
use Rattle.frames.specs.Frames.{lower_left}
use Rattle.job.specs.declared.Header.{Header}
use Rattle.job.specs.Jobs.{Job, accepted, refused, frame_of}
use Rattle.job_bits.specs.Given.{after, version_fits, given_version, given_set, given_kinds, given_header, given_fields, judged, given_job}
use Rattle.job_bits.proofs.Takers.{after_ok, ok_value}
use Rattle.job_bits.proofs.Headers.{header_was}
use Rattle.job_bits.proofs.WrittenReads.{fields_of}

pub version-kept : (h : Header) (rows : List ℕ) (areas : List Float) (cs : List ℕ) (xs : List Float) (j : Job) → given_job h rows areas cs xs ≡ accepted j
    → (j.header.version ≡ h.version) × (frame_of j.header ≡ frame_of h)
unfolding given_fields
version-kept h rows areas cs xs j e =
    let t = fields_of h rows areas cs xs j e in
    let p = after_ok (given_header h cs xs 0 0) _ j t.0 t.1 t.2 in
    let q = after_ok (given_set cs xs p.1 p.2) _ j t.0 t.1 p.4 in
    let r = after_ok (given_kinds rows areas p.0.kinds 0 cs xs q.1 q.2) _ j t.0 t.1 q.4 in
    let s : p.0 ≡ j.header = ap (λ (z : Job). z.header) (ok_value r.4) in
    let T = (header_was h p.0 cs xs 0 0 p.1 p.2 p.3).front.same in
    (ap (λ (g : Header). g.version) (sym (T ∙ s)), ap frame_of (sym (T ∙ s)))

-- another frame than version 1's
frame-not : (h : Header) → h.version ≡ 1 → (frame_of h ≡ lower_left → ⊥) → version_fits h ≡ false
unfolding version_fits
frame-not h e n =
    ap (λ (b : Bool). cond b (eqb h.corner 0 && eqb h.axis 1) (eqb h.version 2)) (eq-eqb h.version 1 e)
    ∙ go (eqb h.corner 0) (eqb h.axis 1) (eqb-true h.corner 0) (eqb-true h.axis 1)
  where
    go : (a b : Bool) → (a ≡ true → h.corner ≡ 0) → (b ≡ true → h.axis ≡ 1) → (a && b) ≡ false
    go true true f g = absurd (n (ap₂ (λ (c a : ℕ). record { corner = c; axis = a }) (f refl) (g refl)))
    go true false f g = refl
    go false b f g = refl

pub version-1_frame : (h : Header) (rows : List ℕ) (areas : List Float) (cs : List ℕ) (xs : List Float) → h.version ≡ 1 → (frame_of h ≡ lower_left → ⊥)
    → given_job h rows areas cs xs ≡ refused UnknownVersion
unfolding given_job judged given_fields given_header given_version after
version-1_frame h rows areas cs xs e n = rw (frame-not h e n)
