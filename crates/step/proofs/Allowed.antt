-- What placing the next copy asks, of a state and rooms that refusal 31 lets pass. Assumes nothing.
use Prim.Native.Nat.{ℕ, zero, suc, ◌+◌, ◌*◌, ◌^◌, ◌<◌, ◌≤◌}
use native.Mathlib.Omega.{arith}
use mathlib.Core.Path.{◌≡◌, sym, subst, subst⁻¹}
use mathlib.Core.List.{List, [], ◌∷◌}
use lib.ListN.{length, get_or, take}
use lib.Dec.{T}
use lib.Ieee.{Float, binary64}
use mir.Val.{Val}
use denote.Array.{each}
use denote.Floats.{FloatOf}
use denote.Shadow.{shadow}
use Rattle.numbers.proofs.Patterns.{nan-fits}
use Rattle.trapezoid.specs.Strip.{capacity}
use Rattle.index.specs.inner.Listing.{FirstBuckets}
use Rattle.job.specs.Jobs.{Job}
use Rattle.filling.specs.declared.State.{State}
use Rattle.filling.specs.Rooms.{Rooms}
use Rattle.filling.specs.State.{apart_room, inset_room, orientation_counts}
use Rattle.filling.specs.Consistent.{sheet_index}
use Rattle.filling.proofs.Reading.{kinds_many}
use Rattle.choose.specs.declared.Grid.{Grid}
use Rattle.choose.specs.inner.Choosing.{grid_of, surroundings_in}
use Rattle.place.specs.declared.Copy.{Copy}
use Rattle.place.specs.declared.Totals.{Totals}
use Rattle.place.specs.inner.Placing.{totals_of, copy_of}
use Rattle.place.specs.inner.Standing.{Standing, Fixed}
use Rattle.filling_laws.proofs.ReadyStrips.{AllFit}
use Rattle.filling_laws.proofs.Ready.{InDoubles, strips-within, ready_fixed, ready-counts, ready-standing}
use Rattle.filling_laws.proofs.ReadyOrder.{slots-within, next-kind}
use Rattle.step.specs.inner.Going.{Going}

-- ---- the numbers of an array of doubles
pub each-fit : (xs : List Float) (us : List Val) → shadow (each Float (FloatOf binary64).own_val xs us) → AllFit xs
each-fit [] us p i = nan-fits
each-fit (x ∷ xs) [] p i = absurd p
each-fit (x ∷ xs) (u ∷ us) p zero = subst T (sym p.0.1) tt
each-fit (x ∷ xs) (u ∷ us) p (suc i) = each-fit xs us p.1 i

-- ---- numbers
pub six : (a l : ℕ) → 6 * a ≤ l → l < 2 ^ 64 → 6 * a < 2 ^ 64
six a l h g = omega arith

below : (s n o : ℕ) → s + n ≤ 1024 → o < n → s + o < 1024
below s n o h g = omega arith

module _ {j : Job} {s : State} {w : Rooms} {rows : List ℕ} {areas : List Float} {sheet_starts starts : List ℕ}
    (G : Going j s w rows areas sheet_starts starts) where
  -- ---- the next copy's kind and its number of orientations
  abbrev pub kind : ℕ
  kind = get_or s.order s.taken 0

  abbrev pub turns : ℕ
  turns = get_or rows (4 * kind + 3) 0

  pub listed : kind < length (orientation_counts j)
  listed = next-kind j s w G.passes G.good G.left

  pub known : kind < length j.kinds
  known = subst (λ (n : ℕ). kind < n) (kinds_many j) listed

  pub turns_are : get_or (orientation_counts j) kind 0 ≡ turns
  turns_are = G.tabled.orientations kind known

  pub kind_few : kind < 64
  kind_few = let a = known in let b = G.tabled.few in omega arith

  pub taken-few : s.taken < 4096
  taken-few = let a = G.left in let b = G.few in omega arith

  slots : 16 * kind + turns ≤ 1024
  slots = subst (λ (n : ℕ). 16 * kind + n ≤ 1024) turns_are (slots-within j G.good kind listed)

  -- ---- the strips lie within their rooms
  pub sheet-within : 6 * s.tables.sheet_strips ≤ length w.sheet
  sheet-within = (strips-within j s w G.passes).sheet

  pub apart-within : (g : Grid) → g ≡ grid_of s.tables → 6 * g.apart_strips ≤ length w.shapes
  apart-within g e = subst⁻¹ (λ (g : Grid). 6 * g.apart_strips ≤ length w.shapes) e (strips-within j s w G.passes).apart

  -- ---- the copy as code has it
  module _ (q : Copy) (f : q ≡ copy_of s.order rows areas s.taken) where
    pub slots-few : q.slot + q.orientations ≤ 1024
    slots-few = subst⁻¹ (λ (q : Copy). q.slot + q.orientations ≤ 1024) f slots

    pub turns_few : q.orientations ≤ 1024
    turns_few = let h = slots-few in omega arith

    module _ (D : InDoubles s w) where
      pub allowed_counts : (counts : List ℕ) → counts ≡ s.look_counts → (o : ℕ) → o < q.orientations → get_or counts (q.slot + o) 0 + 4000000002 < 2 ^ 64
      allowed_counts counts e =
          subst⁻¹ (λ (q : Copy). (o : ℕ) → o < q.orientations → get_or counts (q.slot + o) 0 + 4000000002 < 2 ^ 64) f
          (λ o h. subst⁻¹ (λ (l : List ℕ). get_or l (16 * kind + o) 0 + 4000000002 < 2 ^ 64) e
          (ready-counts j s w G.passes D kind listed o (subst⁻¹ (λ (m : ℕ). o < m) turns_are h) G.few))

  module _ (D : InDoubles s w) (I : length s.tables.inset_bounds ≡ 4096) (P : length s.tables.parts ≡ 4096) (room : ℕ) (placed : List Float) where
    -- what the job fixes of slot i, by the grid
    abbrev FixedBy : Grid → ℕ → Type 0
    FixedBy g i =
        Fixed g.index (surroundings_in room g s.tables.inset_bounds s.tables.parts w.shapes (take (6 * s.tables.sheet_strips) w.sheet) placed)
        w.sheet_entries sheet_starts i

    fixed : (o : ℕ) → o < turns → FixedBy (grid_of s.tables) (16 * kind + o)
    unfolding apart_room inset_room
    fixed o h =
        ready_fixed j s w G.passes D kind listed o (subst⁻¹ (λ (m : ℕ). o < m) turns_are h) room placed sheet_starts I P
        (below (16 * kind) turns o slots h) G.sheet_laid

    pub allowed_fixed : (g : Grid) → g ≡ grid_of s.tables → (q : Copy) → q ≡ copy_of s.order rows areas s.taken
        → (o : ℕ) → o < q.orientations → FixedBy g (q.slot + o)
    allowed_fixed g e q f =
        subst⁻¹ (λ (g : Grid). (o : ℕ) → o < q.orientations → FixedBy g (q.slot + o)) e
        (subst⁻¹ (λ (q : Copy). (o : ℕ) → o < q.orientations → FixedBy (grid_of s.tables) (q.slot + o)) f fixed)

  pub allowed_standing : InDoubles s w → (g : Grid) → g ≡ grid_of s.tables → (t : Totals) → t ≡ totals_of s
      → Standing g.index w.placed t.placed_strips w.placed_entries starts
  allowed_standing D g e t f =
      subst⁻¹ (λ (g : Grid). Standing g.index w.placed t.placed_strips w.placed_entries starts) e
      (subst⁻¹ (λ (t : Totals). Standing (sheet_index s.tables.sheet_bounds) w.placed t.placed_strips w.placed_entries starts) f
      (ready-standing j s w G.passes D starts G.placed_laid))

  -- ---- the bucket numbers
  pub allowed_sheet_firsts : (g : Grid) → g ≡ grid_of s.tables → FirstBuckets g.index (take (6 * s.tables.sheet_strips) w.sheet)
      (capacity (take (6 * s.tables.sheet_strips) w.sheet)) w.sheet_firsts
  allowed_sheet_firsts g e =
      subst⁻¹ (λ (g : Grid). FirstBuckets g.index (take (6 * s.tables.sheet_strips) w.sheet)
      (capacity (take (6 * s.tables.sheet_strips) w.sheet)) w.sheet_firsts) e G.sheet_kept

  pub allowed_firsts : (g : Grid) → g ≡ grid_of s.tables → (t : Totals) → t ≡ totals_of s
      → FirstBuckets g.index w.placed t.placed_strips w.placed_firsts
  allowed_firsts g e t f =
      subst⁻¹ (λ (g : Grid). FirstBuckets g.index w.placed t.placed_strips w.placed_firsts) e
      (subst⁻¹ (λ (t : Totals). FirstBuckets (sheet_index s.tables.sheet_bounds) w.placed t.placed_strips w.placed_firsts) f G.placed_kept)
