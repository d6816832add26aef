-- A copy's search writes remembered columns and look counts of its kind's slots alone. Assumes nothing.
use Rattle.std.specs.Prelude.{None, Ok}
use Prim.{⊥}
use Prim.Native.Nat.{ℕ, zero, suc, ◌+◌, ◌<◌, ◌≤◌}
use native.Mathlib.Omega.{arith}
use mathlib.Core.Path.{◌≡◌, refl, ◌∙◌}
use mathlib.Core.Logic.{◌⊎◌, inl, inr}
use mathlib.Core.List.{List}
use lib.ListN.{get_or}
use lib.Seq.{get_or-set_other}
use lib.Ieee.{Float}
use Rattle.index.specs.declared.Index.{Index}
use Rattle.choose.specs.inner.Choosing.{Surroundings, Chosen, chosen, won, orientation_of, bettered, choose_from}
use Rattle.choose.proofs.Turns.{orient_other}
use Rattle.search.specs.inner.Searching.{search_of, remembering}
use Rattle.place.specs.declared.Totals.{Totals}
use Rattle.place.specs.inner.Placing.{place_with, place_of}
use Rattle.take_copy.specs.kept_tracks.inner.Kept.{Outside}

orient_next : (w : Surroundings) (i o j : ℕ) (counts next : List ℕ) → (j ≡ i → ⊥) → get_or (orientation_of w i o counts next).next j 0 ≡ get_or next j 0
unfolding orientation_of won search_of remembering
orient_next w i o j counts next h = get_or-set_other next i j _ 0 h

module _ (w : Surroundings) (slot j : ℕ) where
  abbrev Beside : ℕ → Type 0
  Beside n = (j < slot) ⊎ (slot + n ≤ j)

  apart : (o n : ℕ) → Beside (o + suc n) → j ≡ slot + o → ⊥
  apart o n (inl h) e = omega arith
  apart o n (inr h) e = omega arith

  onward : (o n : ℕ) → Beside (o + suc n) → Beside (o + 1 + n)
  onward o n (inl h) = inl h
  onward o n (inr h) = inr (omega arith)

  counts-outside : (n o : ℕ) (b : Chosen) → Beside (o + n) → get_or (choose_from w slot n o b).counts j 0 ≡ get_or b.counts j 0
  unfolding choose_from bettered
  counts-outside zero o b h = refl
  counts-outside (suc n) o b h =
      counts-outside n (o + 1) (bettered b.winner (orientation_of w (slot + o) o b.counts b.next)) (onward o n h)
      ∙ orient_other w (slot + o) o j b.counts b.next (apart o n h)

  next-outside : (n o : ℕ) (b : Chosen) → Beside (o + n) → get_or (choose_from w slot n o b).next j 0 ≡ get_or b.next j 0
  unfolding choose_from bettered
  next-outside zero o b h = refl
  next-outside (suc n) o b h =
      next-outside n (o + 1) (bettered b.winner (orientation_of w (slot + o) o b.counts b.next)) (onward o n h)
      ∙ orient_next w (slot + o) o j b.counts b.next (apart o n h)

  from_first : (n : ℕ) → Beside n → Beside (0 + n)
  from_first n (inl h) = inl h
  from_first n (inr h) = inr (omega arith)

-- the choice among the n orientations leaves every other slot
pub choose_outside : (w : Surroundings) (slot n : ℕ) (b : Chosen)
    → Outside slot n (choose_from w slot n 0 b).counts b.counts × Outside slot n (choose_from w slot n 0 b).next b.next
choose_outside w slot n b =
    (λ j h. counts-outside w slot j n 0 b (from_first w slot j n h), λ j h. next-outside w slot j n 0 b (from_first w slot j n h))

-- and so does placing the copy
pub place-outside : (ix : Index) (w : Surroundings) (area : Float) (slot n : ℕ) (t : Totals) (placed : List Float) (e s f counts next : List ℕ)
    → Outside slot n (place_of ix w area slot n t placed e s f counts next).counts counts
    × Outside slot n (place_of ix w area slot n t placed e s f counts next).next next
unfolding place_of place_with
place-outside ix w area slot n t placed e s f counts next = choose_outside w slot n (chosen (Ok None) counts next)

-- the same where more slots may differ
pub outside_of_more : (slot m n : ℕ) (a b : List ℕ) → m ≤ n → Outside slot m a b → Outside slot n a b
outside_of_more slot m n a b l o i (inl h) = o i (inl h)
outside_of_more slot m n a b l o i (inr h) = o i (inr (omega arith))
