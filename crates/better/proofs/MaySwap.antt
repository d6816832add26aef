-- Laws of the test whether two kinds may be swapped. Assumes nothing.
use Prim.Native.Nat.{ℕ, ◌+◌, ◌*◌, ◌<◌}
use mathlib.Core.Path.{◌≡◌, refl, ap, sym, ◌∙◌}
use mathlib.Core.Bool.{Bool, true, false, not, ◌&&◌, beq}
use mathlib.Core.List.{List}
use lib.ListN.{length, get_or, get_or-map}
use lib.IntN.{ℤ}
use lib.Dec.{eqb}
use lib.Ieee.{Float}
use Rattle.kinds.specs.Kinds.{Kind, lower, signed}
use Rattle.job.specs.Jobs.{Job}
use Rattle.accounts.specs.tables.inner.Tabled.{Tabled}
use Rattle.nesting.specs.CopyOrder.{same_priority}
use Rattle.nesting.specs.Rounds.{no_kind, swappable}

abbrev pub same : ℤ → ℤ → Bool
same p q = not (lower p q) && not (lower q p)

abbrev test : Bool → Bool → Bool → ℤ → ℤ → Bool
test e f g p q = not e && (beq f g && same p q)

test_no : (e f g : Bool) (p q : ℤ) → not e ≡ false → false ≡ test e f g p q
test_no true f g p q h = refl
test_no false f g p q h = cc

test_apart : (e f g : Bool) (p q : ℤ) → beq f g ≡ false → false ≡ test e f g p q
test_apart true f g p q h = refl
test_apart false f g p q h = rw h

test_yes : (e f g : Bool) (p q : ℤ) → not e ≡ true → beq f g ≡ true → same p q ≡ test e f g p q
test_yes true f g p q h i = cc
test_yes false f g p q h i = rw i

module _ (j : Job) (rows : List ℕ) (areas : List Float) (t : Tabled j rows areas) (a b : ℕ) (ha : a < length j.kinds) (hb : b < length j.kinds) where
  fill_at_lem : (k : ℕ) → k < length j.kinds → (get_or j.kinds k no_kind).fill ≡ eqb (get_or rows (4 * k + 1) 0) 1
  unfolding no_kind
  fill_at_lem k h = sym (get_or-map (λ (x : Kind). x.fill) j.kinds k no_kind) ∙ t.fill k h

  priority_at_lem : (k : ℕ) → k < length j.kinds → (get_or j.kinds k no_kind).priority ≡ signed (get_or rows (4 * k + 2) 0)
  unfolding no_kind
  priority_at_lem k h = sym (get_or-map (λ (x : Kind). x.priority) j.kinds k no_kind) ∙ t.priority k h

  abbrev fill_of : ℕ → Bool
  fill_of k = eqb (get_or rows (4 * k + 1) 0) 1

  abbrev priority_of : ℕ → ℤ
  priority_of k = signed (get_or rows (4 * k + 2) 0)

  tested : test (eqb a b) (fill_of a) (fill_of b) (priority_of a) (priority_of b) ≡ swappable j.kinds a b
  unfolding swappable same_priority
  tested =
      ap (λ (f : Bool). test (eqb a b) f (fill_of b) (priority_of a) (priority_of b)) (sym (fill_at_lem a ha))
      ∙ (ap (λ (f : Bool). test (eqb a b) (get_or j.kinds a no_kind).fill f (priority_of a) (priority_of b)) (sym (fill_at_lem b hb))
      ∙ (ap (λ (p : ℤ). test (eqb a b) (get_or j.kinds a no_kind).fill (get_or j.kinds b no_kind).fill p (priority_of b)) (sym (priority_at_lem a ha))
      ∙ ap (λ (p : ℤ). test (eqb a b) (get_or j.kinds a no_kind).fill (get_or j.kinds b no_kind).fill (get_or j.kinds a no_kind).priority p) (sym (priority_at_lem b hb))))

  pub equal_kinds : not (eqb a b) ≡ false → false ≡ swappable j.kinds a b
  equal_kinds e = test_no (eqb a b) (fill_of a) (fill_of b) (priority_of a) (priority_of b) e ∙ tested

  pub fills_apart : beq (fill_of a) (fill_of b) ≡ false → false ≡ swappable j.kinds a b
  fills_apart e = test_apart (eqb a b) (fill_of a) (fill_of b) (priority_of a) (priority_of b) e ∙ tested

  pub fills_alike : (r : Bool) → not (eqb a b) ≡ true → beq (fill_of a) (fill_of b) ≡ true → r ≡ same (priority_of a) (priority_of b) → r ≡ swappable j.kinds a b
  fills_alike r e f g = g ∙ (test_yes (eqb a b) (fill_of a) (fill_of b) (priority_of a) (priority_of b) e f ∙ tested)
