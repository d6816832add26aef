-- What an accepted job promises of its numbers. Assumes nothing.
use Rattle.std.specs.Prelude.{Ok, Err}
use mathlib.Core.Path.{◌≡◌, refl, sym, ◌∙◌, subst}
use Prim.Native.Nat.{ℕ, zero, suc, ◌+◌, ◌*◌, ◌^◌, ◌≤◌, ◌<◌}
use native.Mathlib.Omega.{arith}
use mathlib.Core.Bool.{Bool, true, false, ◌||◌, cond, true≢false}
use mathlib.Core.List.{List, []}
use lib.ListN.{length, get_or}
use lib.Dec.{T, leb, eqb}
use lib.Ieee.{Float, nan, inf, fin, lt}
use lib.Ieee.Scale.{finite}
use borrow.Author.Tests.{eqb-true, leb-true}
use Rattle.numbers.specs.Numbers.{from_int, ◌⊘◌, smaller, larger}
use Rattle.numbers.proofs.Doubles.{Small}
use Rattle.numbers.proofs.Literals.{milli}
use Rattle.numbers.proofs.Truth.{zero-not-one}
use Rattle.bits.specs.declared.Refusal.{Refusal}
use Rattle.bits.specs.declared.Refusal.TheVariants.{UnknownVersion, TrailingData, TooManyCopies, TooManyColumns}
use Rattle.bits.specs.Reading.{Read, ok, bad, ◌>>=◌, ◌>>◌, give, unless, bits}
use Rattle.bits.specs.Fields.{kinds_field, count, resolution_range, number}
use Rattle.bits.proofs.Accepted.{Gives, bind, given, unless_ok, bits_less, count_in_range, Between, number-between, UpFrom, resolution_in}
use Rattle.kinds.specs.sets.Sets.{a_set}
use Rattle.kinds.proofs.sets.Accepted.{Coordinates, coordinate_at, Good, set-good}
use Rattle.kinds.specs.Kinds.{some_kinds, copies_of}
use Rattle.kinds.proofs.Accepted.{Every, GoodKind, kinds-good}
use Rattle.job.specs.declared.Header.{Header}
use Rattle.frames.specs.declared.Frame.{Frame}
use Rattle.frames.specs.Frames.{lower_left}
use Rattle.job.specs.Jobs.{Job, a_frame, after_frame, a_header, a_job, ended, left, right, framed_width, judge_end, accepted, refused, passed, judged, read_job}

pub record GoodHeader (h : Header) : Type 0 where
  pub version : h.version ≤ 2
  pub corner : h.corner < 4
  pub axis : h.axis < 2
  pub kinds_least : 1 ≤ h.kinds
  pub kinds_most : h.kinds ≤ 64
  pub rounds : h.rounds < 4096
  pub seed : h.seed < 18446744073709551616
  pub resolution : UpFrom milli 10000 h.resolution

pub record GoodJob (j : Job) : Type 0 where
  pub header : GoodHeader j.header
  pub sheet_points : ℕ
  pub sheet : Good j.sheet sheet_points
  pub kinds : Every GoodKind j.kinds
  pub number : length j.kinds ≡ j.header.kinds
  pub total : j.copies ≡ copies_of j.kinds

abbrev GoodFrame : Frame → Type 0
GoodFrame f = (f.corner < 4) × (f.axis < 2)

front-good : (v : ℕ) → v ≤ 2 → (f : Frame) → GoodFrame f → Gives (after_frame v f) GoodHeader
unfolding after_frame
front-good v hv f hf =
    bind (count kinds_field) (λ k. bits 12 >>= λ n. bits 64 >>= λ s. number resolution_range >>= λ r. give (H k n s r)) (λ k. (1 ≤ k) × (k ≤ 64)) GoodHeader
    (count_in_range kinds_field) (λ k hk.
    bind (bits 12) (λ n. bits 64 >>= λ s. number resolution_range >>= λ r. give (H k n s r)) (λ n. n < 2 ^ 12) GoodHeader (bits_less 12) (λ n hn.
    bind (bits 64) (λ s. number resolution_range >>= λ r. give (H k n s r)) (λ s. s < 2 ^ 64) GoodHeader (bits_less 64) (λ s hs.
    bind (number resolution_range) (λ r. give (H k n s r)) (λ r. Between resolution_range.least resolution_range.most r) GoodHeader
    (number-between resolution_range) (λ r hr.
    given (H k n s r) GoodHeader (record {
      version = hv;
      corner = hf.0;
      axis = hf.1;
      kinds_least = hk.0;
      kinds_most = hk.1;
      rounds = hn;
      seed = hs;
      resolution = resolution_in hr;
    })))))
  where
    H : ℕ → ℕ → ℕ → Float → Header
    H k n s r = record { version = v; corner = f.corner; axis = f.axis; kinds = k; rounds = n; seed = s; resolution = r }

frame-good : (v : ℕ) → Gives (a_frame v) GoodFrame
unfolding a_frame
frame-good v = go (eqb v 1)
  where
    two : Gives (bits 2 >>= λ c. bits 1 >>= λ a. give (record { corner = c; axis = a })) GoodFrame
    two =
        bind (bits 2) (λ c. bits 1 >>= λ a. give (record { corner = c; axis = a })) (λ c. c < 2 ^ 2) GoodFrame (bits_less 2) (λ c hc.
        bind (bits 1) (λ a. give (record { corner = c; axis = a })) (λ a. a < 2 ^ 1) GoodFrame (bits_less 1) (λ a ha.
        given (record { corner = c; axis = a }) GoodFrame (hc, ha)))

    go : (t : Bool) → Gives (cond t (give lower_left) (bits 2 >>= λ c. bits 1 >>= λ a. give (record { corner = c; axis = a }))) GoodFrame
    go true = given lower_left GoodFrame (omega arith, omega arith)
    go false = two

-- versions 1 and 2
one_or_two : (v : ℕ) → (eqb v 1 || eqb v 2) ≡ true → v ≤ 2
one_or_two v e = go (eqb v 1) (eqb v 2) refl refl e
  where
    go : (a b : Bool) → eqb v 1 ≡ a → eqb v 2 ≡ b → (a || b) ≡ true → v ≤ 2
    go true b p q d = let h = eqb-true v 1 p in omega arith
    go false true p q d = let h = eqb-true v 2 q in omega arith
    go false false p q d = absurd (true≢false (sym d))

pub header-good : Gives a_header GoodHeader
unfolding a_header
header-good =
    bind (bits 4) (λ v. unless UnknownVersion (eqb v 1 || eqb v 2) >> (a_frame v >>= after_frame v)) (λ v. v < 2 ^ 4) GoodHeader (bits_less 4) (λ v hv.
    bind (unless UnknownVersion (eqb v 1 || eqb v 2)) (λ u. a_frame v >>= after_frame v) (λ u. (eqb v 1 || eqb v 2) ≡ true) GoodHeader
    (unless_ok UnknownVersion (eqb v 1 || eqb v 2)) (λ u e.
    bind (a_frame v) (after_frame v) GoodFrame GoodHeader (frame-good v) (λ f hf. front-good v (one_or_two v e) f hf)))

pub whole-good : Gives a_job GoodJob
unfolding a_job
whole-good =
    bind a_header (λ h. a_set >>= λ s. some_kinds h.kinds [] >>= λ ks. give (record { header = h; sheet = s; kinds = ks; copies = copies_of ks })) GoodHeader
    GoodJob header-good (λ h hh.
    bind a_set (λ s. some_kinds h.kinds [] >>= λ ks. give (record { header = h; sheet = s; kinds = ks; copies = copies_of ks })) (λ s. (m : ℕ) × Good s m)
    GoodJob set-good (λ s hs.
    bind (some_kinds h.kinds []) (λ ks. give (record { header = h; sheet = s; kinds = ks; copies = copies_of ks }))
    (λ l. Every GoodKind l × (length l ≡ 0 + h.kinds)) GoodJob (kinds-good h.kinds [] tt) (λ ks hk.
    given (record { header = h; sheet = s; kinds = ks; copies = copies_of ks }) GoodJob
    (record { header = hh; sheet_points = hs.0; sheet = hs.1; kinds = hk.0; number = hk.1 ∙ plus h.kinds; total = refl }))))
  where
    plus : (n : ℕ) → 0 + n ≡ n
    plus n = omega arith

-- ---- an accepted job
pub record Kept (bytes : List ℕ) (j : Job) : Type 0 where
  pub good : GoodJob j
  pub copies : j.copies ≤ 4096
  pub columns : lt (from_int 1_000_000) (framed_width j ⊘ j.header.resolution) ≡ false

not-accepted : {k : Refusal} {j : Job} → refused k ≡ accepted j → ⊥
not-accepted e = zero-not-one (cc)

pub same-job : {i j : Job} → accepted i ≡ accepted j → i ≡ j
same-job e = cc

end_in : (bytes : List ℕ) (p copies : ℕ) (w r : Float) (i j : Job) → passed (judge_end bytes p copies w r) i ≡ accepted j → (i ≡ j) × (copies ≤ 4096) ×
    (lt (from_int 1_000_000) (w ⊘ r) ≡ false)
unfolding judge_end
end_in bytes p copies w r i j e = go (ended bytes p) (leb copies 4096) (leb-true copies 4096) (lt (from_int 1_000_000) (w ⊘ r)) refl e
  where
    go : (a b : Bool) → (b ≡ true → copies ≤ 4096) → (c : Bool) → lt (from_int 1_000_000) (w ⊘ r) ≡ c → passed
        (cond a (cond b (cond c (Err TooManyColumns) (Ok tt)) (Err TooManyCopies)) (Err TrailingData)) i ≡ accepted j → (i ≡ j) × (copies ≤ 4096) ×
        (lt (from_int 1_000_000) (w ⊘ r) ≡ false)
    go false b f c h e = absurd (not-accepted e)
    go true false f c h e = absurd (not-accepted e)
    go true true f true h e = absurd (not-accepted e)
    go true true f false h e = (same-job e, f refl, h)

judged_in_lem : (bytes : List ℕ) (r : Read Job) (j : Job) → ((i : Job) (q : ℕ) → r ≡ ok i q → GoodJob i) → judged bytes r ≡ accepted j → Kept bytes j
unfolding judged
judged_in_lem bytes (bad k) j f e = absurd (not-accepted e)
judged_in_lem bytes (ok i q) j f e =
    let t = end_in bytes q i.copies (framed_width i) i.header.resolution i j e in
    subst (λ (x : Job). Kept bytes x) t.0 (record { good = f i q refl; copies = t.1; columns = t.2 })

-- every number of an accepted job is finite, not minus zero and within its range; its counts and copies are within theirs
pub job_good : (bytes : List ℕ) (j : Job) → read_job bytes ≡ accepted j → Kept bytes j
unfolding read_job
job_good bytes j e = judged_in_lem bytes (a_job bytes 0) j (λ i q d. whole-good bytes 0 i q d) e

-- ---- the bounds of a set: its smallest and largest x are coordinates
below_infinity : (x : Float) → T (finite x) → lt x (inf false) ≡ true
unfolding lt
below_infinity nan h = absurd h
below_infinity (inf s) h = absurd h
below_infinity (fin s m e) h = refl

above_infinity : (x : Float) → T (finite x) → lt (inf true) x ≡ true
unfolding lt
above_infinity nan h = absurd h
above_infinity (inf s) h = absurd h
above_infinity (fin s m e) h = refl

one_of : (t : Bool) (x y : Float) → Small 100000 x → Small 100000 y → Small 100000 (cond t x y)
one_of true x y a b = a
one_of false x y a b = b

module _ (xs : List Float) (c : Coordinates xs) where
  pub left-small : (n : ℕ) → 2 * suc n ≤ length xs → Small 100000 (left xs (suc n))
  unfolding left smaller
  left-small zero h =
      let a : Small 100000 (get_or xs 0 nan) = coordinate_at xs 0 c (omega arith) in
      subst (λ (t : Bool). Small 100000 (cond t (get_or xs 0 nan) (inf false))) (sym (below_infinity (get_or xs 0 nan) a.num.is_finite)) a
  left-small (suc n) h = one_of (lt (get_or xs (2 * suc n) nan) (left xs (suc n))) (get_or xs (2 * suc n) nan) (left xs (suc n))
      (coordinate_at xs (2 * suc n) c (omega arith)) (left-small n (omega arith))

  pub right-small : (n : ℕ) → 2 * suc n ≤ length xs → Small 100000 (right xs (suc n))
  unfolding right larger
  right-small zero h =
      let a : Small 100000 (get_or xs 0 nan) = coordinate_at xs 0 c (omega arith) in
      subst (λ (t : Bool). Small 100000 (cond t (get_or xs 0 nan) (inf true))) (sym (above_infinity (get_or xs 0 nan) a.num.is_finite)) a
  right-small (suc n) h = one_of (lt (right xs (suc n)) (get_or xs (2 * suc n) nan)) (get_or xs (2 * suc n) nan) (right xs (suc n))
      (coordinate_at xs (2 * suc n) c (omega arith)) (right-small n (omega arith))
