-- Laws of the header, judged and put. Assumes nothing.
use Rattle.std.specs.Prelude.{Option, Some, None, unwrap_or, Result, Ok, Err}
use mathlib.Core.Path.{◌≡◌, refl, sym, ap, subst, ◌∙◌}
use Prim.Native.Nat.{ℕ, ◌≤◌, ◌<◌}
use native.Mathlib.Omega.{arith}
use mathlib.Core.Bool.{Bool, true, false, ◌&&◌, cond}
use mathlib.Core.List.{List, [], ◌++◌, append-nil}
use lib.ListN.{length}
use lib.Dec.{eqb, ltb, lit<}
use borrow.Author.Tests.{lt-ltb, le-ltb, eq-eqb, ne_eqb, eqb-true}
use lib.Ieee.{Float, nan, le, binary64, to_bits}
use Rattle.numbers.proofs.Truth.{zero-not-one}
use Rattle.numbers.specs.Numbers.{double_of}
use Rattle.bits.specs.declared.Refusal.{Refusal}
use Rattle.bits.specs.declared.Refusal.TheVariants.{UnknownVersion, OutOfRange, CountOutOfRange}
use Rattle.bits.specs.Fields.{judge_count, judge_double, judge_number, resolution_range}
use Rattle.job.specs.declared.Header.{Header}
use Rattle.bit_writer.specs.declared.BitWriter.{BitWriter}
use Rattle.bit_writer.specs.Packed.{binary}
use Rattle.bit_writer.specs.inner.BitWriting.{Put}
use Rattle.bit_writer.proofs.Bits.{binary-length}
use Rattle.bit_writer.proofs.Writing.{put_then, put_same}
use Rattle.set_writer.specs.declared.Walk.{Walk}
use Rattle.set_writer.specs.inner.Walks.{Walks, went, stopped, Near}
use Rattle.set_writer.proofs.Walking.{Went, so, went_on, walk-bad, walk_tail, near-then, near_at, near_more}
use Rattle.job_bits.specs.JobBits.{double_bits, frame_bits, version_bits, front_bits, header_bits}
use Rattle.job_bits.specs.Given.{Taken, ok, after, version_fits, given_frame, given_version, given_front, given_header}
use Rattle.job_bits.proofs.Doubles.{ok-value}
use Rattle.job_bits.proofs.Headers.{header_with, front_was}
use Rattle.write_job.specs.inner.PutJob.{value_of, value_in}

-- what is put of a header, whatever the tables are
abbrev pub Puts : {A : Type 0} → ((cs : List ℕ) (xs : List Float) → ℕ → ℕ → Taken A) → (A → List ℕ) → Walk → List ℕ → Result Walk Refusal → List ℕ → ℕ → Type 0
Puts t bits w out r o n = ((cs : List ℕ) (xs : List Float) → Walks (t cs xs w.counts w.coordinates) bits w out r o) × Near w r 0 0 n

-- a walk whose writer has moved
abbrev pub moved : Walk → BitWriter → Walk
moved w p = record { counts = w.counts; coordinates = w.coordinates; writer = p }

-- ---- the version and the frame
pub version-fits : (g : Header) (a : Bool) → g.version ≡ 1 → g.corner ≡ 0 → a ≡ eqb g.axis 1 → a ≡ version_fits g
unfolding version_fits
version-fits g a e f h = rw (eq-eqb g.version 1 e, eq-eqb g.corner 0 f) h

pub version-frame : (g : Header) → g.version ≡ 1 → (g.corner ≡ 0 → ⊥) → false ≡ version_fits g
unfolding version_fits
version-frame g e f = rw (eq-eqb g.version 1 e, ne_eqb g.corner 0 f)

pub version-other : (g : Header) (a : Bool) → (g.version ≡ 1 → ⊥) → a ≡ eqb g.version 2 → a ≡ version_fits g
unfolding version_fits
version-other g a e h = rw (ne_eqb g.version 1 e) h

-- the frame of version 1 fits its fields
lower : (g : Header) → g.version ≡ 1 → version_fits g ≡ true → (ltb g.corner 4 ≡ true) × (ltb g.axis 2 ≡ true)
unfolding version_fits
lower g v e =
    go (eqb g.corner 0) (eqb g.axis 1) (eqb-true g.corner 0) (eqb-true g.axis 1)
    (ap (λ (b : Bool). cond b (eqb g.corner 0 && eqb g.axis 1) (eqb g.version 2)) (sym (eq-eqb g.version 1 v)) ∙ e)
  where
    go : (a b : Bool) → (a ≡ true → g.corner ≡ 0) → (b ≡ true → g.axis ≡ 1) → (a && b) ≡ true → (ltb g.corner 4 ≡ true) × (ltb g.axis 2 ≡ true)
    go true true f h e = (
      lt-ltb g.corner 4 (subst (λ (n : ℕ). n < 4) (sym (f refl)) (lit< tt)),
      lt-ltb g.axis 2 (subst (λ (n : ℕ). n < 2) (sym (h refl)) (lit< tt)),
    )
    go true false f h e = absurd (mathlib.Core.Bool.false≢true e)
    go false b f h e = absurd (mathlib.Core.Bool.false≢true e)

module _ (g : Header) (w : Walk) (out o₁ o₂ : List ℕ) where
  pub frame-not-1 : 4 ≤ g.corner → Puts (given_frame g) (λ _. frame_bits g) w out (Err CountOutOfRange) out 3
  unfolding given_frame after
  frame-not-1 h = ((λ cs xs. stopped {k = CountOutOfRange} (rw (le-ltb g.corner 4 h)) refl), tt)

  pub frame-not-2 : g.corner < 4 → 2 ≤ g.axis → length o₁ ≡ length out → Puts (given_frame g) (λ _. frame_bits g) w out (Err CountOutOfRange) o₁ 3
  unfolding given_frame after
  frame-not-2 h i l = ((λ cs xs. stopped {k = CountOutOfRange} (rw (lt-ltb g.corner 4 h, le-ltb g.axis 2 i)) l), tt)

  pub frame-put : (p₁ p₂ : BitWriter) → g.corner < 4 → g.axis < 2 → Put out w.writer (binary 2 g.corner) o₁ p₁ → Put o₁ p₁ (binary 1 g.axis) o₂ p₂
      → Puts (given_frame g) (λ _. frame_bits g) w out (Ok (moved w p₂)) o₂ 3
  unfolding given_frame after frame_bits
  frame-put p₁ p₂ h i P₁ P₂ = (
    (λ cs xs. went {v = moved w p₂} tt (rw (lt-ltb g.corner 4 h, lt-ltb g.axis 2 i)) (put_then _ _ _ _ _ _ _ _ P₁ P₂)),
    (omega arith, omega arith, omega (arith, P₁.count, P₂.count, binary-length 2 g.corner, binary-length 1 g.axis)),
  )

  pub version-not : version_fits g ≡ false → Puts (given_version g) (λ _. version_bits g) w out (Err UnknownVersion) out 7
  unfolding given_version after
  version-not e = ((λ cs xs. stopped {k = UnknownVersion} (rw e) refl), tt)

  -- version 1: its frame fits
  pub version-one : (p₁ : BitWriter) → version_fits g ≡ true → g.version ≡ 1 → Put out w.writer (binary 4 g.version) o₁ p₁
      → Puts (given_version g) (λ _. version_bits g) w out (Ok (moved w p₁)) o₁ 7
  unfolding given_version given_frame after version_bits
  version-one p₁ e v P =
      let F = lower g v e in (
        (λ cs xs. went {v = moved w p₁} tt (rw (e, F.0, F.1))
            (put_same _ _ _ _ _ _ (sym (append-nil (binary 4 g.version)) ∙ ap (λ (b : Bool). binary 4 g.version ++ cond b [] (frame_bits g))
            (sym (eq-eqb g.version 1 v))) P)),
        (omega arith, omega arith, omega (arith, P.count, binary-length 4 g.version)),
      )

  -- version 2: its frame follows
  pub version_two : (p₁ : BitWriter) (r : Result Walk Refusal) → version_fits g ≡ true → (g.version ≡ 1 → ⊥) → Put out w.writer (binary 4 g.version) o₁ p₁
      → Puts (given_frame g) (λ _. frame_bits g) (moved w p₁) o₁ r o₂ 3 → Puts (given_version g) (λ _. version_bits g) w out r o₂ 7
  unfolding given_version version_bits
  version_two p₁ r e v P F = (
    (λ cs xs. walk_tail {u = moved w p₁} (λ _ c x. given_frame g cs xs c x) (λ _. frame_bits g) (λ _. version_bits g) tt (rw e) P (F.0 cs xs)
        (λ _ c x _. ap (λ (b : Bool). binary 4 g.version ++ cond b [] (frame_bits g)) (ne_eqb g.version 1 v))),
    near_more w r _ _ _ 0 0 7 (near-then w (moved w p₁) r 0 0 4 _ _ _ (omega arith, omega arith, omega (arith, P.count, binary-length 4 g.version)) F.1)
        (omega arith)
        (omega arith) (omega arith),
  )

-- ---- the fields after the frame
module _ (g : Header) (w : Walk) (out o₁ o₂ o₃ o₄ : List ℕ) where
  pub front-not-1 : (k : Refusal) (t : Result ℕ Refusal) → t ≡ judge_count 1 64 g.kinds → t ≡ Err k → Puts (given_front g) front_bits w out (Err k) out 147
  unfolding given_front after
  front-not-1 k t e f = ((λ cs xs. stopped {k = k} (rw (sym e ∙ f)) refl), tt)

  pub front-not-2 : (n : ℕ) (t : Result ℕ Refusal) → t ≡ judge_count 1 64 g.kinds → t ≡ Ok n → 4096 ≤ g.rounds → length o₁ ≡ length out
      → Puts (given_front g) front_bits w out (Err CountOutOfRange) o₁ 147
  unfolding given_front after
  front-not-2 n t e f h l = ((λ cs xs. stopped {k = CountOutOfRange} (rw (sym e ∙ f, le-ltb g.rounds 4096 h)) l), tt)

  judged : (b : ℕ) (m s : Result Float Refusal) → b ≡ to_bits binary64 g.resolution → m ≡ judge_number resolution_range.least resolution_range.most b → m ≡ s
      → judge_number resolution_range.least resolution_range.most (to_bits binary64 g.resolution) ≡ s
  judged b m s p q r = ap (judge_number resolution_range.least resolution_range.most) (sym p) ∙ sym q ∙ r

  pub front-not-3 : (n b : ℕ) (t : Result ℕ Refusal) (m : Result Float Refusal) (k : Refusal) → t ≡ judge_count 1 64 g.kinds → t ≡ Ok n → g.rounds < 4096
      → g.seed < 18446744073709551616 → b ≡ to_bits binary64 g.resolution → m ≡ judge_number resolution_range.least resolution_range.most b
      → m ≡ Err k → length o₃ ≡ length out → Puts (given_front g) front_bits w out (Err k) o₃ 147
  unfolding given_front after
  front-not-3 n b t m k e f h i p q r l =
      ((λ cs xs. stopped {k = k} (rw (sym e ∙ f, lt-ltb g.rounds 4096 h, lt-ltb g.seed 18446744073709551616 i, judged b m (Err k) p q r)) l), tt)

  pub front-put : (n b d : ℕ) (t : Result ℕ Refusal) (m : Result Float Refusal) (x : Float) (p₁ p₂ p₃ p₄ : BitWriter) → t ≡ judge_count 1 64 g.kinds → t ≡ Ok n
      → g.rounds < 4096 → g.seed < 18446744073709551616 → b ≡ to_bits binary64 g.resolution
      → m ≡ judge_number resolution_range.least resolution_range.most b → m ≡ Ok x → d ≡ to_bits binary64 x
      → Put out w.writer (binary 7 n) o₁ p₁ → Put o₁ p₁ (binary 12 g.rounds) o₂ p₂ → Put o₂ p₂ (binary 64 g.seed) o₃ p₃ → Put o₃ p₃ (binary 64 d) o₄ p₄
      → Puts (given_front g) front_bits w out (Ok (moved w p₄)) o₄ 147
  unfolding given_front after front_bits double_bits
  front-put n b d t m x p₁ p₂ p₃ p₄ e f h i p q r z P₁ P₂ P₃ P₄ = (
    (λ cs xs. went {v = moved w p₄} (header_with g n x)
        (rw (sym e ∙ f, lt-ltb g.rounds 4096 h, lt-ltb g.seed 18446744073709551616 i, judged b m (Ok x) p q r))
        (put_then _ _ _ _ _ _ _ _ P₁ (put_then _ _ _ _ _ _ _ _ P₂ (put_then _ _ _ _ _ _ _ _ P₃ (put_same _ _ _ _ _ _ (ap (binary 64) z) P₄))))),
    (
      omega arith,
      omega arith,
      omega (
        arith,
        P₁.count,
        P₂.count,
        P₃.count,
        P₄.count,
        binary-length 7 n,
        binary-length 12 g.rounds,
        binary-length 64
            g.seed,
        binary-length 64 d,
      ),
    ),
  )

-- ---- the header
module _ (g : Header) (w : Walk) (out o₁ o₂ : List ℕ) where
  pub header-not : (r : Result Walk Refusal) (k : Refusal) → Puts (given_version g) (λ _. version_bits g) w out r o₁ 7 → r ≡ Err k → Puts (given_header g) header_bits w out
      (Err k) o₁ 154
  unfolding given_header
  header-not r k F e = ((λ cs xs. walk-bad (λ _ c x. given_front g cs xs c x) header_bits k (F.0 cs xs) e), tt)

  pub header-put : (u : Walk) (r₁ r : Result Walk Refusal) → Puts (given_version g) (λ _. version_bits g) w out r₁ o₁ 7 → r₁ ≡ Ok u
      → Puts (given_front g) front_bits u o₁ r o₂ 147 → Puts (given_header g) header_bits w out r o₂ 154
  unfolding given_header header_bits version_bits frame_bits
  header-put u r₁ r F e G = (
    (λ cs xs. go cs xs (went_on u (F.0 cs xs) e) (G.0 cs xs)),
    near_more w r _ _ _ 0 0 154 (near-then w u r 0 0 7 _ _ _ (near_at w (Ok u) 0 0 7 F.1 e) G.1) (omega arith) (omega arith) (omega arith),
  )
    where
      same : (cs : List ℕ) (xs : List Float) (b : Header) (c x d y : ℕ) → given_front g cs xs c x ≡ ok b d y → header_bits b ≡ version_bits g ++ front_bits b
      same cs xs b c x d y f = ap (λ (h : Header). version_bits h ++ front_bits b) (sym (front_was g b cs xs c x d y f).same)

      go : (cs : List ℕ) (xs : List Float) → Went (given_version g cs xs w.counts w.coordinates) (λ _. version_bits g) w out u o₁
          → Walks (given_front g cs xs u.counts u.coordinates) front_bits u o₁ r o₂
          → Walks (after (given_version g cs xs w.counts w.coordinates) (λ _ c x. given_front g cs xs c x)) header_bits w out r o₂
      go cs xs (so a f p) G = walk_tail (λ _ c x. given_front g cs xs c x) front_bits header_bits a f p G (λ b c x z. same cs xs b _ _ c x z)

-- ---- what a double is, once taken
judged_value : (least most : Float) (t : Option Float) (v : Float) → judge_double least most t ≡ Ok v → v ≡ value_in t
unfolding judge_double
judged_value least most None v e = absurd (zero-not-one (cc))
judged_value least most (Some x) v e = go (le least x && le x most) e
  where
    go : (b : Bool) → cond b (Ok x) (Err OutOfRange) ≡ Ok v → v ≡ x
    go true e = sym (ok-value e)
    go false e = absurd (zero-not-one (cc))

pub number_value : (least most x v : Float) → judge_number least most (to_bits binary64 x) ≡ Ok v → v ≡ value_of x
unfolding judge_number value_of
number_value least most x v e = judged_value least most (double_of (to_bits binary64 x)) v e

-- ---- the double of a number
pub value_is : (x v : Float) (b : ℕ) (t : Option Float) → b ≡ to_bits binary64 x → t ≡ double_of b → v ≡ unwrap_or t nan → v ≡ value_of x
unfolding value_of
value_is x v b t e f g = g ∙ ap value_in (f ∙ ap double_of e)
