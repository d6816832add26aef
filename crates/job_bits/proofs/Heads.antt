-- Laws of a kind's fields, as they are taken. Assumes nothing.
use mathlib.Core.Path.{◌≡◌, refl, sym, ap, ap₂, subst, ◌∙◌}
use Prim.Native.Nat.{ℕ, zero, suc, ◌-◌, ◌≤◌, ◌<◌}
use native.Mathlib.Omega.{arith}
use mathlib.Core.Bool.{Bool, true, false, cond}
use mathlib.Core.List.{List, ◌∷◌}
use lib.ListN.{length}
use lib.IntN.{pos, negsuc}
use lib.Dec.{ltb, eqb}
use lib.Ieee.{Float, binary64, to_bits}
use Rattle.bits.specs.declared.Refusal.TheVariants.{CountOutOfRange}
use Rattle.bits.specs.Fields.{judge_count, area_range, judge_number}
use Rattle.kinds.specs.declared.KindHead.{KindHead}
use Rattle.kinds.specs.Kinds.{Orientation, kind_of, signed}
use Rattle.job_bits.specs.JobBits.{twos, head_of}
use Rattle.job_bits.specs.Given.{ok, bad, after, counted, measured, given_head, given_orientation, given_orientations}
use Rattle.job_bits.proofs.Takers.{after_ok, ok_value, fits_was, counted_ok}

-- ---- what they are, once taken
-- fill and priority fit, and the orientations and the quantity are those given
pub record Taken-head (g a : KindHead) : Type 0 where
  pub fill : a.fill < 2
  pub priority : a.priority < 4294967296
  pub orientations : a.orientations ≡ g.orientations
  pub quantity : a.quantity ≡ g.quantity
  pub few : a.orientations ≤ 16
  pub some : a.quantity ≤ 4095

pub head-taken : (g a : KindHead) (cs : List ℕ) (xs : List Float) (c x d y : ℕ) → given_head g cs xs c x ≡ ok a d y → Taken-head g a
unfolding given_head
head-taken g a cs xs c x d y e =
    let r₁ = after_ok (counted (judge_count 1 4095 g.quantity) c x) _ a d y e in
    let r₂ = after_ok (cond (ltb g.fill 2) (ok tt r₁.1 r₁.2) (bad CountOutOfRange)) _ a d y r₁.4 in
    let r₃ = after_ok (cond (ltb g.priority 4294967296) (ok tt r₂.1 r₂.2) (bad CountOutOfRange)) _ a d y r₂.4 in
    let r₄ = after_ok (measured (judge_number area_range.least area_range.most (to_bits binary64 g.area)) r₃.1 r₃.2) _ a d y r₃.4 in
    let r₅ = after_ok (counted (judge_count 1 16 g.orientations) r₄.1 r₄.2) _ a d y r₄.4 in
    let s : record { quantity = r₁.0; fill = g.fill; priority = g.priority; area = r₄.0; orientations = r₅.0 } ≡ a = ok_value r₅.4 in
    subst (Taken-head g) s
    (record {
      fill = fits_was 2 g.fill _ _ _ _ _ r₂.3;
      priority = fits_was 4294967296 g.priority _ _ _ _ _ r₃.3;
      orientations = (counted_ok 1 16 g.orientations _ _ _ _ _ r₅.3).0;
      quantity = (counted_ok 1 4095 g.quantity _ _ _ _ _ r₁.3).0;
      few = (counted_ok 1 16 g.orientations _ _ _ _ _ r₅.3).1;
      some = (counted_ok 1 4095 g.quantity _ _ _ _ _ r₁.3).1;
    })

-- ---- a kind's fields from the kind
bit_back : (n : ℕ) → n < 2 → cond (eqb n 1) 1 0 ≡ n
bit_back zero h = refl
bit_back (suc zero) h = refl
bit_back (suc (suc n)) h = absurd (omega arith)

twos_back : (n : ℕ) → n < 4294967296 → twos (signed n) ≡ n
unfolding twos signed
twos_back n h = go (ltb n 2147483648)
  where
    z : (n : ℕ) → n < 4294967296 → 4294967296 - suc (4294967296 - suc n) ≡ n
    z n h = omega arith

    go : (t : Bool) → twos (elim t [ true ↦ pos n | false ↦ negsuc (4294967296 - suc n) ]) ≡ n
    go true = refl
    go false = z n h

abbrev head : ℕ → ℕ → ℕ → Float → ℕ → KindHead
head q f p a n = record { quantity = q; fill = f; priority = p; area = a; orientations = n }

pub head-back : (g a : KindHead) (os : List Orientation) → Taken-head g a → length os ≡ a.orientations → head_of (kind_of a os) ≡ a
unfolding head_of kind_of
head-back g a os T e =
    ap (λ (x : ℕ). head a.quantity x (twos (signed a.priority)) a.area (length os)) (bit_back a.fill T.fill)
    ∙ ap₂ (λ (x y : ℕ). head a.quantity a.fill x a.area y) (twos_back a.priority T.priority) e

-- ---- orientations
pub orientations-length : (n : ℕ) (cs : List ℕ) (xs : List Float) (c x : ℕ) (os : List Orientation) (d y : ℕ) → given_orientations n cs xs c x ≡ ok os d y →
    length os ≡ n
unfolding given_orientations
orientations-length zero cs xs c x os d y e = ap length (sym (ok_value e))
orientations-length (suc n) cs xs c x os d y e =
    let p = after_ok (given_orientation cs xs c x) (λ o c x. after (given_orientations n cs xs c x) (λ os c x. ok (o ∷ os) c x)) os d y e in
    let q = after_ok (given_orientations n cs xs p.1 p.2) (λ os c x. ok (p.0 ∷ os) c x) os d y p.4 in
    ap length (sym (ok_value q.4)) ∙ ap suc (orientations-length n cs xs p.1 p.2 q.0 q.1 q.2 q.3)
