-- The shapes by slot of a job in its tables are those of its planner. Assumes nothing.
use Rattle.std.specs.Prelude.{Ok}
use mathlib.Core.Path.{◌≡◌, refl, sym, ap, ◌∙◌}
use mathlib.Core.Logic.{◌⊎◌, inl, inr}
use mathlib.Core.Bool.{true, false}
use mathlib.Core.List.{List, [], ◌∷◌, map}
use Prim.Native.Nat.{ℕ, zero, suc, ◌+◌, ◌*◌, ◌/◌, ◌%◌, ◌≤◌, ◌<◌}
use native.Mathlib.Omega.{arith}
use lib.ListN.{length, get_or}
use lib.Ieee.{Float}
use borrow.Author.Tests.{lt-ltb, le-ltb}
use Rattle.numbers.proofs.Truth.{below_or_not}
use Rattle.trapezoid.specs.Strip.{flat}
use Rattle.index.proofs.Flat.{map_at}
use Rattle.kinds.specs.Kinds.{Kind, kind_of, head_at}
use Rattle.kinds.specs.inner.Tables.{tabulate, orientation_at, orientations_of, kind_with, kind_at}
use Rattle.kinds.proofs.Tables.{length-tabulate, tabulate_at}
use Rattle.job.specs.declared.Header.{Header}
use Rattle.frames.specs.declared.Frame.{Frame}
use Rattle.frames.specs.Frames.{framed}
use Rattle.kinds.specs.sets.Sets.{Set}
use Rattle.job.specs.Jobs.{Job, frame_of, accepted}
use Rattle.job.specs.inner.Meaning.{job_read}
use Rattle.filling.specs.Shapes.{Shape, planner_of, set_strips, set_bounds, shape_for, no_shape, shape_of}
use Rattle.filling.specs.State.{by_slot, slot_shape}
use Rattle.filling.proofs.Reading.{up_from-same}
use Rattle.shapes.specs.set_strips.inner.SetStrips.{strips_of, strips_at}
use Rattle.shapes.specs.slots.inner.Slots.{in_use, slot_strips, slot_bounds, slot_of}
use Rattle.shapes.proofs.slots.SlotWalk.{not_in_use}
use Rattle.prepare.specs.inner.Ready.{FromTables}
use Rattle.kinds.specs.sets.inner.Answers.{set_at}

-- what `job::read` answers
pub from-tables : (bytes rows places : List ℕ) (areas : List Float) (h : Header) (s c : ℕ) (j : Job) → job_read (Ok (h, s, c)) bytes rows areas places ≡ accepted
    j → FromTables bytes rows places s h.kinds j
from-tables bytes rows places areas h s c j e = record { areas = areas; sheet_is = (cc); kinds_are = (cc) }

-- ---- lists
module _ {A B : Type 0} (f : A → B) where
  map-past : (l : List A) (i : ℕ) (d : B) → length l ≤ i → get_or (map f l) i d ≡ d
  map-past [] i d h = refl
  map-past (a ∷ l) zero d h = absurd (omega arith)
  map-past (a ∷ l) (suc i) d h = map-past l i d (omega arith)

-- f of what is tabulated
module _ {A B : Type 0} (f : A → B) (g : ℕ → A) (n : ℕ) where
  tabulated : (i : ℕ) (d : B) → i < n → get_or (map f (tabulate g n)) i d ≡ f (g i)
  tabulated i d h =
      let l = length-tabulate g n in
      map_at f (tabulate g n) i d (g i) (omega arith) ∙ ap f (tabulate_at g n i (g i) h)

  not_tabulated : (i : ℕ) (d : B) → n ≤ i → get_or (map f (tabulate g n)) i d ≡ d
  not_tabulated i d h = let l = length-tabulate g n in map-past f (tabulate g n) i d (omega arith)

-- ---- a slot
module _ (f : Frame) (bytes rows places : List ℕ) (kinds : ℕ) where
  slot_used : (i : ℕ) → in_use rows kinds i ≡ true → shape_for f (orientation_at bytes places i) ≡ slot_of f bytes rows places kinds i
  unfolding shape_for orientation_at slot_of slot_strips slot_bounds set_strips strips_at strips_of
  slot_used i e = let z : 2 * i + 0 ≡ 2 * i = omega arith in rw (e, slot_strips, slot_bounds, z)

  slot_unused : (i : ℕ) → in_use rows kinds i ≡ false → no_shape ≡ slot_of f bytes rows places kinds i
  unfolding slot_of slot_strips slot_bounds no_shape flat
  slot_unused i e = rw (e, slot_strips, slot_bounds)

  abbrev Row : List Float → ℕ → List Shape
  Row areas k = map (shape_for f) (kind_at bytes rows areas places k).orientations

  row_is : (areas : List Float) (k : ℕ) → Row areas k ≡ map (shape_for f) (tabulate (λ (o : ℕ). orientation_at bytes places (16 * k + o))
      (get_or rows (4 * k + 3) 0))
  unfolding kind_at kind_with kind_of head_at orientations_of
  row_is areas k = refl

  whole : (i : ℕ) → 16 * (i / 16) + i % 16 ≡ i
  whole i = omega arith

  used : (i : ℕ) → i / 16 < kinds → i % 16 < get_or rows (4 * (i / 16) + 3) 0 → in_use rows kinds i ≡ true
  unfolding in_use
  used i a b = rw (lt-ltb (i / 16) kinds a, lt-ltb (i % 16) (get_or rows (4 * (i / 16) + 3) 0) b)

  few-turns : (i : ℕ) → i / 16 < kinds → get_or rows (4 * (i / 16) + 3) 0 ≤ i % 16 → in_use rows kinds i ≡ false
  unfolding in_use
  few-turns i a b = rw (lt-ltb (i / 16) kinds a, le-ltb (i % 16) (get_or rows (4 * (i / 16) + 3) 0) b)

  slot_at : (areas : List Float) (i : ℕ) → get_or (get_or (map (λ k. map (shape_for f) k.orientations) (tabulate (kind_at bytes rows areas places) kinds)) (i / 16)
      []) (i % 16) no_shape ≡ slot_of f bytes rows places kinds i
  slot_at areas i = go (below_or_not (i / 16) kinds)
    where
      turn : i / 16 < kinds → (i % 16 < get_or rows (4 * (i / 16) + 3) 0) ⊎ (get_or rows (4 * (i / 16) + 3) 0 ≤ i % 16) → get_or (Row areas (i / 16)) (i % 16) no_shape
          ≡ slot_of f bytes rows places kinds i
      turn h (inl l) =
          ap (λ (r : List Shape). get_or r (i % 16) no_shape) (row_is areas (i / 16))
          ∙ tabulated (shape_for f) (λ (o : ℕ). orientation_at bytes places (16 * (i / 16) + o)) (get_or rows (4 * (i / 16) + 3) 0) (i % 16) no_shape l
          ∙ ap (λ (k : ℕ). shape_for f (orientation_at bytes places k)) (whole i)
          ∙ slot_used i (used i h l)
      turn h (inr l) =
          ap (λ (r : List Shape). get_or r (i % 16) no_shape) (row_is areas (i / 16))
          ∙ not_tabulated (shape_for f) (λ (o : ℕ). orientation_at bytes places (16 * (i / 16) + o)) (get_or rows (4 * (i / 16) + 3) 0) (i % 16) no_shape l
          ∙ slot_unused i (few-turns i h l)

      go : (i / 16 < kinds) ⊎ (kinds ≤ i / 16) → get_or (get_or (map (λ k. map (shape_for f) k.orientations) (tabulate (kind_at bytes rows areas places) kinds))
          (i / 16) []) (i % 16) no_shape ≡ slot_of f bytes rows places kinds i
      go (inl h) =
          ap (λ (r : List Shape). get_or r (i % 16) no_shape) (tabulated (λ k. map (shape_for f) k.orientations) (kind_at bytes rows areas places) kinds (i / 16)
          [] h)
          ∙ turn h (below_or_not (i % 16) (get_or rows (4 * (i / 16) + 3) 0))
      go (inr h) =
          ap (λ (r : List Shape). get_or r (i % 16) no_shape) (not_tabulated (λ k. map (shape_for f) k.orientations) (kind_at bytes rows areas places) kinds
          (i / 16) [] h)
          ∙ slot_unused i (sym (not_in_use rows kinds i h))

module _ {bytes rows places : List ℕ} {at kinds : ℕ} {j : Job} (T : FromTables bytes rows places at kinds j) where
  abbrev F : Frame
  F = frame_of j.header

  slot_is : (i : ℕ) → slot_shape (planner_of j) i ≡ slot_of F bytes rows places kinds i
  unfolding slot_shape shape_of planner_of
  slot_is i =
      ap (λ (ks : List Kind). get_or (get_or (map (λ k. map (shape_for F) k.orientations) ks) (i / 16) []) (i % 16) no_shape) T.kinds_are
      ∙ slot_at F bytes rows places kinds T.areas i

  pub slots_are : by_slot (slot_of F bytes rows places kinds) ≡ by_slot (slot_shape (planner_of j))
  unfolding by_slot
  slots_are = up_from-same (slot_of F bytes rows places kinds) (slot_shape (planner_of j)) 1024 0 (λ i a b. sym (slot_is i))

  pub sheet-bounds_are : set_bounds (framed F (set_at bytes at)) ≡ (planner_of j).bounds
  unfolding planner_of
  sheet-bounds_are = ap (λ (s : Set). set_bounds (framed F s)) (sym T.sheet_is)

  pub sheet-strips_are : set_strips true (framed F (set_at bytes at)) ≡ (planner_of j).sheet
  unfolding planner_of
  sheet-strips_are = ap (λ (s : Set). set_strips true (framed F s)) (sym T.sheet_is)
