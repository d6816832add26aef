-- W9: accepted bytes, read and written: the header. Assumes nothing.
use Rattle.std.specs.Prelude.{Ok}
use mathlib.Core.Path.{◌≡◌, refl, sym, ap, ap₂, subst, ◌∙◌}
use Prim.Native.Nat.{ℕ, ◌*◌, ◌≤◌, ◌<◌}
use native.Mathlib.Nat.{add-zero}
use mathlib.Core.Bool.{Bool, true, false, ◌&&◌, ◌||◌, cond}
use mathlib.Core.List.{List, [], ◌∷◌, ◌++◌}
use lib.ListN.{length}
use lib.Dec.{eqb, lit<}
use lib.Ieee.{binary64, to_bits}
use Rattle.bits.specs.declared.Refusal.TheVariants.{UnknownVersion}
use Rattle.bits.specs.Reading.{ok, bad, Reader, after, ◌>>=◌, give, unless, bits}
use Rattle.bits.specs.Fields.{kinds_field, judge_count, count, resolution_range, judge_number, number}
use Rattle.bits.proofs.Accepted.{bad-not_ok, ok_same, after_ok, bits_less, ok_place}
use Rattle.frames.specs.declared.Frame.{Frame}
use Rattle.frames.specs.Frames.{lower_left}
use Rattle.job.specs.declared.Header.{Header}
use Rattle.job.specs.Jobs.{frame_of, a_frame, after_frame, a_header}
use Rattle.job_bits.specs.Given as given
use Rattle.job_bits.specs.Given.{version_fits, given_frame, given_version, given_front, given_header}
use Rattle.job_bits.specs.JobFields.{whole, double_field, version_fields, front_fields, header_fields}
use Rattle.job_bits.proofs.Coming.{Came, came_none, came_then, came_room, whole_came, double_came, count_came}
use Rattle.job_bits.proofs.Returning.{Takes, takes_then, takes_give, count_takes, fits_takes, number_takes}
use Rattle.job_bits.proofs.Headers.{header_with, FrameFits}

-- ---- the header's own numbers are taken by the writer
versioned_takes : (h : Header) → version_fits h ≡ true → Takes (given.versioned h) [] [] tt
unfolding Takes
versioned_takes h e cs xs c x T U =
    ap (λ (b : Bool). cond b (given.ok tt c x) (given.bad UnknownVersion)) e ∙ ap₂ (λ (i j : ℕ). given.ok tt i j) (sym (add-zero c)) (sym (add-zero x))

version_takes : (h : Header) → FrameFits h → Takes (given_version h) [] [] tt
unfolding given_version given_frame
version_takes h F =
    takes_then (given.versioned h) (λ _. given.◌>>=◌ (given.fits 2 h.corner) (λ _. given.fits 1 h.axis)) [] [] [] [] tt tt
    (versioned_takes h F.version)
    (takes_then (given.fits 2 h.corner) (λ _. given.fits 1 h.axis) [] [] [] [] tt tt (fits_takes 2 h.corner F.corner)
    (fits_takes 1 h.axis F.axis))

-- what the reader promises of the fields after the frame
pub record FrontFits (h : Header) : Type 0 where
  pub kinds : judge_count 1 64 h.kinds ≡ Ok h.kinds
  pub rounds : h.rounds < 4096
  pub seed : h.seed < 18446744073709551616
  pub resolution : judge_number resolution_range.least resolution_range.most (to_bits binary64 h.resolution) ≡ Ok h.resolution

front_takes : (h : Header) → FrontFits h → Takes (given_front h) [] [] h
unfolding given_front
front_takes h F =
    takes_then (given.count kinds_field h.kinds)
    (λ k. given.◌>>=◌ (given.fits 12 h.rounds) (λ _. given.◌>>=◌ (given.fits 64 h.seed)
    (λ _. given.◌>>=◌ (given.number resolution_range h.resolution) (λ r. given.give (header_with h k r)))))
    [] [] [] [] h.kinds h (count_takes kinds_field h.kinds F.kinds)
    (takes_then (given.fits 12 h.rounds)
    (λ _. given.◌>>=◌ (given.fits 64 h.seed) (λ _. given.◌>>=◌ (given.number resolution_range h.resolution) (λ r. given.give (header_with h h.kinds r))))
    [] [] [] [] tt h (fits_takes 12 h.rounds F.rounds)
    (takes_then (given.fits 64 h.seed) (λ _. given.◌>>=◌ (given.number resolution_range h.resolution) (λ r. given.give (header_with h h.kinds r)))
    [] [] [] [] tt h (fits_takes 64 h.seed F.seed)
    (takes_then (given.number resolution_range h.resolution) (λ r. given.give (header_with h h.kinds r)) [] [] [] [] h.resolution h
    (number_takes resolution_range h.resolution F.resolution) (takes_give h))))

header_takes : (h : Header) → FrameFits h → FrontFits h → Takes (given_header h) [] [] h
unfolding given_header
header_takes h F G = takes_then (given_version h) (λ _. given_front h) [] [] [] [] tt h (version_takes h F) (front_takes h G)

-- ---- the header's fields, as they came
-- a frame of a version, with its fields
pub record FrameCame (b : List ℕ) (p q v : ℕ) (f : Frame) : Type 0 where
  pub came : Came b p q (cond (eqb v 1) [] (whole 2 f.corner ∷ whole 1 f.axis ∷ []))
  pub fits : cond (eqb v 1) (eqb f.corner 0 && eqb f.axis 1) (eqb v 2) ≡ true
  pub corner : f.corner < 4
  pub axis : f.axis < 2

abbrev framed : Reader Frame
framed = bits 2 >>= λ c. bits 1 >>= λ a. give (record { corner = c; axis = a })

-- of the two bits and the one
two_came : (b : List ℕ) (p : ℕ) (f : Frame) (q : ℕ) → framed b p ≡ ok f q
    → Came b p q (whole 2 f.corner ∷ whole 1 f.axis ∷ []) × (f.corner < 4) × (f.axis < 2)
two_came b p f q e =
    let r₁ = after_ok (bits 2 b p) (λ c t. after (bits 1 b t) (λ a u. ok (record { corner = c; axis = a }) u)) f q e in
    let r₂ = after_ok (bits 1 b r₁.1) (λ a u. ok (record { corner = r₁.0; axis = a }) u) f q r₁.3 in
    subst (λ (g : Frame). Came b p q (whole 2 g.corner ∷ whole 1 g.axis ∷ []) × (g.corner < 4) × (g.axis < 2)) (ok_same r₂.3) (
      subst (λ (k : ℕ). Came b p k (whole 2 r₁.0 ∷ whole 1 r₂.0 ∷ [])) (ok_place r₂.3)
          (came_then b p r₁.1 r₂.1 _ _ (whole_came b 2 p r₁.0 r₁.1 r₁.2) (whole_came b 1 r₁.1 r₂.0 r₂.1 r₂.2)),
      bits_less 2 b p r₁.0 r₁.1 r₁.2,
      bits_less 1 b r₁.1 r₂.0 r₂.1 r₂.2,
    )

frame_came : (b : List ℕ) (p v : ℕ) (f : Frame) (q : ℕ) → p ≤ 8 * length b → (eqb v 1 || eqb v 2) ≡ true → a_frame v b p ≡ ok f q → FrameCame b p q v f
unfolding a_frame
frame_came b p v f q h k e = go (eqb v 1) refl e
  where
    of : (t : Bool) → eqb v 1 ≡ t → Came b p q (cond t [] (whole 2 f.corner ∷ whole 1 f.axis ∷ []))
        → cond t (eqb f.corner 0 && eqb f.axis 1) (eqb v 2) ≡ true → f.corner < 4 → f.axis < 2 → FrameCame b p q v f
    of t e c g i j =
        record {
          came = subst (λ (t : Bool). Came b p q (cond t [] (whole 2 f.corner ∷ whole 1 f.axis ∷ []))) (sym e) c;
          fits = ap (λ (t : Bool). cond t (eqb f.corner 0 && eqb f.axis 1) (eqb v 2)) e ∙ g;
          corner = i;
          axis = j;
        }

    second : (t : Bool) → eqb v 1 ≡ t → t ≡ false → eqb v 2 ≡ true
    second t e g = sym (ap (λ (a : Bool). a || eqb v 2) (e ∙ g)) ∙ k

    go : (t : Bool) → eqb v 1 ≡ t → cond t (give lower_left) framed b p ≡ ok f q → FrameCame b p q v f
    go true e g =
        let s : lower_left ≡ f = ok_same g in
        of true e (subst (λ (k : ℕ). Came b p k []) (ok_place g) (came_none b p h))
        (subst (λ (f : Frame). (eqb f.corner 0 && eqb f.axis 1) ≡ true) s refl) (subst (λ (f : Frame). f.corner < 4) s (lit< tt))
        (subst (λ (f : Frame). f.axis < 2) s (lit< tt))
    go false e g = let T = two_came b p f q g in of false e T.0 (second false e refl) T.1 T.2

front_came : (v : ℕ) (f : Frame) (b : List ℕ) (p : ℕ) (h : Header) (q : ℕ) → after_frame v f b p ≡ ok h q
    → Came b p q (front_fields h) × FrontFits h × (h.version ≡ v) × (frame_of h ≡ f)
unfolding after_frame front_fields
front_came v f b p h q e =
    let r₁ = after_ok (count kinds_field b p) _ h q e in
    let r₂ = after_ok (bits 12 b r₁.1) _ h q r₁.3 in
    let r₃ = after_ok (bits 64 b r₂.1) _ h q r₂.3 in
    let r₄ = after_ok (number resolution_range b r₃.1) _ h q r₃.3 in
    let C₁ = count_came kinds_field b p r₁.0 r₁.1 r₁.2 in
    let C₂ = whole_came b 12 r₁.1 r₂.0 r₂.1 r₂.2 in
    let C₃ = whole_came b 64 r₂.1 r₃.0 r₃.1 r₃.2 in
    let C₄ = double_came resolution_range b r₃.1 r₄.0 r₄.1 r₄.2 in
    subst (λ (h : Header). Came b p q (front_fields h) × FrontFits h × (h.version ≡ v) × (frame_of h ≡ f)) (ok_same r₄.3) (
      subst (λ (k : ℕ). Came b p k (whole 7 r₁.0 ∷ whole 12 r₂.0 ∷ whole 64 r₃.0 ∷ double_field r₄.0 ∷ [])) (ok_place r₄.3)
          (came_then b p r₁.1 r₄.1 _ _ C₁.0 (came_then b r₁.1 r₂.1 r₄.1 _ _ C₂ (came_then b r₂.1 r₃.1 r₄.1 _ _ C₃ C₄.0))),
      record {
        kinds = C₁.1;
        rounds = bits_less 12 b r₁.1 r₂.0 r₂.1 r₂.2;
        seed = bits_less 64 b r₂.1 r₃.0 r₃.1 r₃.2;
        resolution = C₄.1;
      },
      refl,
      refl,
    )

-- where the test holds the position stays
unless-stays : (t : Bool) (p : ℕ) (u : Unit {0}) (q : ℕ) → cond t (ok tt p) (bad UnknownVersion) ≡ ok u q → (t ≡ true) × (p ≡ q)
unless-stays true p u q e = (refl, ok_place e)
unless-stays false p u q e = absurd (bad-not_ok e)

pub header-back : (b : List ℕ) (p : ℕ) (h : Header) (q : ℕ) → a_header b p ≡ ok h q → Came b p q (header_fields h) × Takes (given_header h) [] [] h
unfolding a_header header_fields version_fields version_fits
header-back b p h q e =
    let r₀ = after_ok (bits 4 b p) (λ v r. after (unless UnknownVersion (eqb v 1 || eqb v 2) b r) (λ u s. after (a_frame v b s) (λ f t. after_frame v f b t))) h q
    e in
    let v = r₀.0 in
    let r₁ = after_ok (unless UnknownVersion (eqb v 1 || eqb v 2) b r₀.1) (λ u s. after (a_frame v b s) (λ f t. after_frame v f b t)) h q r₀.3 in
    let r₂ = after_ok (a_frame v b r₁.1) (λ f t. after_frame v f b t) h q r₁.3 in
    let U = unless-stays (eqb v 1 || eqb v 2) r₀.1 r₁.0 r₁.1 r₁.2 in
    let C₀ = subst (λ (k : ℕ). Came b p k (whole 4 v ∷ [])) U.1 (whole_came b 4 p v r₀.1 r₀.2) in
    let F = frame_came b r₁.1 v r₂.0 r₂.1 (came_room b p r₁.1 _ C₀) U.0 r₂.2 in
    let G = front_came v r₂.0 b r₂.1 h q r₂.3 in
    let own = came_then b p r₂.1 q _ _ (came_then b p r₁.1 r₂.1 _ _ C₀ F.came) G.0 in (
      subst (λ (n : ℕ). Came b p q ((whole 4 n ∷ cond (eqb n 1) [] (whole 2 h.corner ∷ whole 1 h.axis ∷ [])) ++ front_fields h)) (sym G.2)
          (subst (λ (f : Frame). Came b p q ((whole 4 v ∷ cond (eqb v 1) [] (whole 2 f.corner ∷ whole 1 f.axis ∷ [])) ++ front_fields h)) (sym G.3)
          own),
      header_takes h (of_frame h v r₂.0 G.2 G.3 F.fits F.corner F.axis) G.1,
    )
  where
    of_frame : (h : Header) (v : ℕ) (f : Frame) → h.version ≡ v → frame_of h ≡ f
        → cond (eqb v 1) (eqb f.corner 0 && eqb f.axis 1) (eqb v 2) ≡ true → f.corner < 4 → f.axis < 2 → FrameFits h
    of_frame h v f e g i j k =
        record {
          version = ap₂ (λ (v : ℕ) (f : Frame). cond (eqb v 1) (eqb f.corner 0 && eqb f.axis 1) (eqb v 2)) e g ∙ i;
          corner = subst (λ (f : Frame). f.corner < 4) (sym g) j;
          axis = subst (λ (f : Frame). f.axis < 2) (sym g) k;
        }
