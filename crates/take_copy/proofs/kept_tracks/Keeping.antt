-- Numbers kept and put back one after another. Assumes nothing.
use Prim.Native.Nat.{ℕ, ◌+◌, ◌*◌, ◌<◌}
use native.Mathlib.Omega.{arith}
use mathlib.Core.Path.{◌≡◌, refl, sym, subst, ◌∙◌}
use mathlib.Core.Logic.{inl, inr}
use mathlib.Core.List.{List}
use lib.ListN.{length, get_or, set, length-set}
use lib.Seq.{get_or-set_same, get_or-set_other}
use Rattle.numbers.proofs.Truth.{same_or_not}
use Rattle.take_copy.specs.kept_tracks.inner.Kept.{Kept, PutBack}

module _ (slot : ℕ) where
  pub kept-none : (tracks kept : List ℕ) → Kept slot 0 tracks kept
  kept-none tracks kept i h = absurd (omega arith)

  pub kept_on : (tracks kept : List ℕ) (i v : ℕ) → i < length kept → v ≡ get_or tracks (2 * slot + i) 0 → Kept slot i tracks kept
      → Kept slot (i + 1) tracks (set kept i v)
  kept_on tracks kept i v l e h q b = elim (same_or_not q i) [
    | inl z ↦ subst (λ (m : ℕ). get_or (set kept i v) m 0 ≡ get_or tracks (2 * slot + m) 0) (sym z) (get_or-set_same kept i v 0 l ∙ e)
    | inr z ↦ get_or-set_other kept i q v 0 z ∙ h q (omega arith)
  ]

  pub back_none : (kept before : List ℕ) → PutBack slot 0 kept before before
  back_none kept before = record { there = kept-none before kept; ahead = λ p h. refl; behind = λ p h. refl; long = refl }

  module _ (kept before after : List ℕ) (i v : ℕ) (l : 2 * slot + i < length after) (e : v ≡ get_or kept i 0) (g : PutBack slot i kept before after) where
    other : (p : ℕ) → (p ≡ 2 * slot + i → ⊥) → get_or (set after (2 * slot + i) v) p 0 ≡ get_or after p 0
    other p n = get_or-set_other after (2 * slot + i) p v 0 n

    here : (q : ℕ) → q < i + 1 → get_or kept q 0 ≡ get_or (set after (2 * slot + i) v) (2 * slot + q) 0
    here q b = elim (same_or_not q i) [
      | inl z ↦ subst (λ (m : ℕ). get_or kept m 0 ≡ get_or (set after (2 * slot + i) v) (2 * slot + m) 0) (sym z)
          (sym e ∙ sym (get_or-set_same after (2 * slot + i) v 0 l))
      | inr z ↦ g.there q (omega arith) ∙ sym (other (2 * slot + q) (λ x. z (omega (arith, x))))
    ]

    pub back_on : PutBack slot (i + 1) kept before (set after (2 * slot + i) v)
    back_on =
        record {
          there = here;
          ahead = λ p h. other p (λ x. absurd (omega (arith, x))) ∙ g.ahead p h;
          behind = λ p h. other p (λ x. absurd (omega (arith, x))) ∙ g.behind p (omega arith);
          long = length-set after (2 * slot + i) v ∙ g.long;
        }

  pub back_all : (kept before after : List ℕ) (i n : ℕ) → i ≡ n → PutBack slot i kept before after → PutBack slot n kept before after
  back_all kept before after i n e g = subst (λ (m : ℕ). PutBack slot m kept before after) e g
