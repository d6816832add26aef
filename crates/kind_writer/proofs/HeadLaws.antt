-- Laws of a kind's fields, judged and put. Assumes nothing.
use Rattle.std.specs.Prelude.{Result, Ok, Err}
use mathlib.Core.Path.{◌≡◌, refl, sym, ap, ◌∙◌}
use Prim.Native.Nat.{ℕ, ◌+◌, ◌*◌, ◌≤◌, ◌<◌}
use native.Mathlib.Omega.{arith}
use mathlib.Core.List.{List}
use lib.ListN.{length, get_or}
use borrow.Author.Tests.{lt-ltb, le-ltb}
use lib.Ieee.{Float, nan, binary64, to_bits}
use Rattle.bits.specs.declared.Refusal.{Refusal}
use Rattle.bits.specs.declared.Refusal.TheVariants.{CountOutOfRange}
use Rattle.bits.specs.Fields.{judge_count, judge_number, area_range}
use Rattle.kinds.specs.declared.KindHead.{KindHead}
use Rattle.kinds.specs.Kinds.{head_at}
use Rattle.bit_writer.specs.declared.BitWriter.{BitWriter}
use Rattle.bit_writer.specs.Packed.{binary}
use Rattle.bit_writer.specs.inner.BitWriting.{Put}
use Rattle.bit_writer.proofs.Bits.{binary-length}
use Rattle.bit_writer.proofs.Writing.{put_then, put_same}
use Rattle.set_writer.specs.declared.Walk.{Walk}
use Rattle.job_bits.specs.JobBits.{double_bits, head_bits}
use Rattle.job_bits.specs.Given.{after, given_head}
use Rattle.set_writer.specs.inner.Walks.{Walks, went, stopped, Near}

module _ (g : KindHead) (w : Walk) (out o₁ o₂ o₃ o₄ o₅ : List ℕ) where
  pub head-not-1 : (k : Refusal) (t : Result ℕ Refusal) → t ≡ judge_count 1 4095 g.quantity → t ≡ Err k →
      ((cs : List ℕ) (xs : List Float) → Walks (given_head g cs xs w.counts w.coordinates) head_bits w out (Err k) out) × Unit {0}
  unfolding given_head after
  head-not-1 k t e f = ((λ cs xs. stopped {k = k} (rw (sym e ∙ f)) refl), tt)

  pub head-not-2 : (n : ℕ) (t : Result ℕ Refusal) → t ≡ judge_count 1 4095 g.quantity → t ≡ Ok n → 2 ≤ g.fill → length o₁ ≡ length out →
      ((cs : List ℕ) (xs : List Float) → Walks (given_head g cs xs w.counts w.coordinates) head_bits w out (Err CountOutOfRange) o₁) × Unit {0}
  unfolding given_head after
  head-not-2 n t e f h l = ((λ cs xs. stopped {k = CountOutOfRange} (rw (sym e ∙ f, le-ltb g.fill 2 h)) l), tt)

  pub head-not-3 : (n : ℕ) (t : Result ℕ Refusal) → t ≡ judge_count 1 4095 g.quantity → t ≡ Ok n → g.fill < 2 → 4294967296 ≤ g.priority → length o₂ ≡ length out →
      ((cs : List ℕ) (xs : List Float) → Walks (given_head g cs xs w.counts w.coordinates) head_bits w out (Err CountOutOfRange) o₂) × Unit {0}
  unfolding given_head after
  head-not-3 n t e f h i l = ((λ cs xs. stopped {k = CountOutOfRange} (rw (sym e ∙ f, lt-ltb g.fill 2 h, le-ltb g.priority 4294967296 i)) l), tt)

  pub head-not-4 : (n b : ℕ) (t : Result ℕ Refusal) (m : Result Float Refusal) (k : Refusal) → t ≡ judge_count 1 4095 g.quantity → t ≡ Ok n → g.fill < 2 → g.priority <
      4294967296 → b ≡ to_bits binary64 g.area → m ≡ judge_number area_range.least area_range.most b → m ≡ Err k → length o₃ ≡ length out →
      ((cs : List ℕ) (xs : List Float) → Walks (given_head g cs xs w.counts w.coordinates) head_bits w out (Err k) o₃) × Unit {0}
  unfolding given_head after
  head-not-4 n b t m k e f h i p q r l =
      let z : judge_number area_range.least area_range.most (to_bits binary64 g.area) ≡ Err k = ap (judge_number area_range.least area_range.most)
      (sym p) ∙ sym q ∙ r in
      ((λ cs xs. stopped {k = k} (rw (sym e ∙ f, lt-ltb g.fill 2 h, lt-ltb g.priority 4294967296 i, z)) l), tt)

  pub head-not-5 : (n b : ℕ) (t s : Result ℕ Refusal) (m : Result Float Refusal) (v : Float) (k : Refusal) → t ≡ judge_count 1 4095 g.quantity → t ≡ Ok n → g.fill < 2 →
      g.priority < 4294967296 → b ≡ to_bits binary64 g.area → m ≡ judge_number area_range.least area_range.most b → m ≡ Ok v → s ≡ judge_count 1 16
      g.orientations → s ≡ Err k → length o₄ ≡ length out → ((cs : List ℕ) (xs : List Float) → Walks (given_head g cs xs w.counts w.coordinates)
      head_bits w out (Err k) o₄) × Unit {0}
  unfolding given_head after
  head-not-5 n b t s m v k e f h i p q r x y l =
      let z : judge_number area_range.least area_range.most (to_bits binary64 g.area) ≡ Ok v = ap (judge_number area_range.least area_range.most)
      (sym p) ∙ sym q ∙ r in
      ((λ cs xs. stopped {k = k} (rw (sym e ∙ f, lt-ltb g.fill 2 h, lt-ltb g.priority 4294967296 i, z, sym x ∙ y)) l), tt)

  pub head-put : (n b d u : ℕ) (t s : Result ℕ Refusal) (m : Result Float Refusal) (v : Float) (p₁ p₂ p₃ p₄ p₅ : BitWriter) → t ≡ judge_count 1 4095 g.quantity → t ≡ Ok n →
      g.fill < 2 → g.priority < 4294967296 → b ≡ to_bits binary64 g.area → m ≡ judge_number area_range.least area_range.most b → m ≡ Ok v → s ≡
      judge_count 1 16 g.orientations → s ≡ Ok u → d ≡ to_bits binary64 v → Put out w.writer (binary 12 n) o₁ p₁ → Put o₁ p₁ (binary 1 g.fill) o₂ p₂ →
      Put o₂ p₂ (binary 32 g.priority) o₃ p₃ → Put o₃ p₃ (binary 64 d) o₄ p₄ → Put o₄ p₄ (binary 5 u) o₅ p₅ →
      ((cs : List ℕ) (xs : List Float) → Walks (given_head g cs xs w.counts w.coordinates) head_bits w out
      (Ok (record { counts = w.counts; coordinates = w.coordinates; writer = p₅ })) o₅) × Near w
      (Ok (record { counts = w.counts; coordinates = w.coordinates; writer = p₅ })) 0 0 114
  unfolding given_head after head_bits double_bits
  head-put n b d u t s m v p₁ p₂ p₃ p₄ p₅ e f h i p q r x y z P₁ P₂ P₃ P₄ P₅ =
      let j : judge_number area_range.least area_range.most (to_bits binary64 g.area) ≡ Ok v = ap (judge_number area_range.least area_range.most)
      (sym p) ∙ sym q ∙ r in (
        (λ cs xs. went {v = record { counts = w.counts; coordinates = w.coordinates; writer = p₅ }}
            (record { quantity = n; fill = g.fill; priority = g.priority; area = v; orientations = u })
            (rw (sym e ∙ f, lt-ltb g.fill 2 h, lt-ltb g.priority 4294967296 i, j, sym x ∙ y))
            (put_then _ _ _ _ _ _ _ _ P₁ (put_then _ _ _ _ _ _ _ _ P₂ (put_then _ _ _ _ _ _ _ _ P₃
            (put_then _ _ _ _ _ _ _ _ (put_same _ _ _ _ _ _ (ap (binary 64) z) P₄) P₅))))),
        (
          omega arith,
          omega arith,
          omega (
            arith,
            P₁.count,
            P₂.count,
            P₃.count,
            P₄.count,
            P₅.count,
            binary-length 12 n,
            binary-length 1 g.fill,
            binary-length 32 g.priority,
            binary-length 64 d,
            binary-length 5 u,
          ),
        ),
      )

-- ---- a kind's fields in the tables
abbrev head : ℕ → ℕ → ℕ → Float → ℕ → KindHead
head q f p a n = record { quantity = q; fill = f; priority = p; area = a; orientations = n }

pub head_is : (rows : List ℕ) (areas : List Float) (k q f p n : ℕ) (a : Float) → q ≡ get_or rows (4 * k) 0 → f ≡ get_or rows (4 * k + 1) 0 → p ≡ get_or rows
    (4 * k + 2) 0 → n ≡ get_or rows (4 * k + 3) 0 → a ≡ get_or areas k nan → head q f p a n ≡ head_at rows areas k
unfolding head_at
head_is rows areas k q f p n a e₁ e₂ e₃ e₄ e₅ = λ i. record { quantity = e₁ i; fill = e₂ i; priority = e₃ i; area = e₅ i; orientations = e₄ i }
