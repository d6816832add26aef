-- The tests of what a copy wrote, by cases. Assumes nothing.
use Prim.Native.Nat.{ℕ, zero, suc, ◌+◌, ◌-◌, ◌*◌, ◌≤◌, ◌<◌}
use native.Mathlib.Omega.{arith}
use native.Mathlib.Nat.{sub-zero}
use mathlib.Core.Path.{◌≡◌, sym, ap, ap₂, subst, ◌∙◌}
use mathlib.Core.Bool.{Bool, true, false, ◌&&◌}
use mathlib.Core.List.{List, [], ◌∷◌}
use lib.ListN.{get_or, take, drop}
use lib.Seq.{take-nil}
use lib.Ieee.{Float}
use Rattle.strips.specs.declared.Rect.{Rect}
use Rattle.filling.specs.Consistent.{bounded, strips_fit, layout_fits, gap_fits}
use Rattle.rooms.specs.tracks.inner.Tracks.{next_columns, look_counts_from}
use Rattle.rooms.proofs.tracks.Fields.{field_at}
use Rattle.search.specs.declared.columns.Columns.{Columns}
use Rattle.search.specs.columns.inner.Stands.{columns_of}
use Rattle.search.proofs.columns.Sizes.{BoundedRect, Resolving, few-columns}
use Rattle.choose.specs.declared.Choice.{Choice}
use Rattle.choose.specs.declared.Grid.{Grid}
use Rattle.choose.specs.inner.Choosing.{bounds_at}
use Rattle.place.specs.declared.Copy.{Copy}
use Rattle.place.specs.declared.Step.{Step}
use Rattle.consistent.specs.slot_tests.inner.Slots.{last_for, track_test}
use Rattle.take_copy.specs.copy_tests.inner.CopyTest.{slot_track_test, tracks_test, choice_test, outcome_test, copy_test}

-- ---- a slot

module _ (bounds : Rect) (resolution : Float) (inset_bounds : List Float) (i : ℕ) {t : Rect} {c : Columns} (et : t ≡ bounds_at inset_bounds i)
    (ec : c ≡ columns_of bounds t resolution) where
  columns-same : c ≡ columns_of bounds (bounds_at inset_bounds i) resolution
  columns-same = ec ∙ ap (λ (x : Rect). columns_of bounds x resolution) et

  pub told-few : BoundedRect bounds → Resolving resolution → BoundedRect (bounds_at inset_bounds i) → c.count ≤ 4000000000
  told-few b r h =
      subst (λ (x : Columns). x.count ≤ 4000000000) (sym columns-same) (few-columns bounds (bounds_at inset_bounds i) resolution b h r)

  pub told_slot : (taken : ℕ) (tracks : List ℕ) → i < 1024 → {r : Bool} → r ≡ track_test taken (last_for c) (get_or tracks (2 * i) 0) (get_or tracks (2 * i + 1) 0)
      → r ≡ slot_track_test bounds resolution taken inset_bounds (next_columns tracks) (look_counts_from tracks) i
  unfolding slot_track_test
  told_slot taken tracks l e =
      let z : 2 * i ≡ 2 * i + 0 = omega arith in
      e
      ∙ (ap (λ (x : Columns). track_test taken (last_for x) (get_or tracks (2 * i) 0) (get_or tracks (2 * i + 1) 0)) columns-same
      ∙ ap₂ (track_test taken (last_for (columns_of bounds (bounds_at inset_bounds i) resolution)))
      (ap (λ (p : ℕ). get_or tracks p 0) z ∙ sym (field_at 0 2 0 1024 tracks i 0 l)) (sym (field_at 0 2 1 1024 tracks i 0 l)))

-- ---- position and gap

module _ (p : Choice) where
  pub choice_x : bounded p.x ≡ false → choice_test p ≡ false
  unfolding choice_test
  choice_x e = ap (λ b. b && (bounded p.y && gap_fits p.gap)) e

  pub choice_y : bounded p.x ≡ true → bounded p.y ≡ false → choice_test p ≡ false
  unfolding choice_test
  choice_y a e = ap₂ (λ b c. b && (c && gap_fits p.gap)) a e

  pub choice_gap : bounded p.x ≡ true → bounded p.y ≡ true → gap_fits p.gap ≡ choice_test p
  unfolding choice_test
  choice_gap a e = sym (ap₂ (λ b c. b && (c && gap_fits p.gap)) a e)

-- ---- all

-- the part that is lent
pub part_is : {A : Type 0} (a b : ℕ) (l : List A) → take (b - a) (drop a l) ≡ drop a (take b l)
part_is zero b l = ap (λ n. take n l) (sub-zero b)
part_is (suc a) zero l = let e : 0 - suc a ≡ 0 = omega arith in ap (λ n. take n (drop (suc a) l)) e
part_is (suc a) (suc b) [] = take-nil (suc b - suc a)
part_is (suc a) (suc b) (x ∷ l) = let e : suc b - suc a ≡ b - a = omega arith in ap (λ n. take n (drop a l)) e ∙ part_is a b l

module _ (g : Grid) (copy : Copy) (taken strips : ℕ) (r : Step) (inset_bounds placed : List Float) (tracks : List ℕ) where
  abbrev Layout : Bool
  Layout = layout_fits r.totals.right r.totals.unplaced_area

  abbrev Tracks : Bool
  Tracks = tracks_test g.bounds g.resolution taken copy.slot copy.orientations inset_bounds (next_columns tracks) (look_counts_from tracks)

  pub told-strips : {b : Bool} → b ≡ strips_fit (take (6 * r.totals.placed_strips - 6 * strips) (drop (6 * strips) placed))
      → b ≡ strips_fit (drop (6 * strips) (take (6 * r.totals.placed_strips) placed))
  told-strips e = e ∙ ap strips_fit (part_is (6 * strips) (6 * r.totals.placed_strips) placed)

  pub copy-strips : strips_fit (drop (6 * strips) (take (6 * r.totals.placed_strips) placed)) ≡ false
      → copy_test g copy taken strips r inset_bounds placed tracks ≡ false
  unfolding copy_test
  copy-strips e = ap (λ b. b && (Layout && (Tracks && outcome_test r.outcome))) e

  module _ (a : strips_fit (drop (6 * strips) (take (6 * r.totals.placed_strips) placed)) ≡ true) where
    pub copy-layout : layout_fits r.totals.right r.totals.unplaced_area ≡ false
        → copy_test g copy taken strips r inset_bounds placed tracks ≡ false
    unfolding copy_test
    copy-layout e = ap₂ (λ b c. b && (c && (Tracks && outcome_test r.outcome))) a e

    module _ (l : layout_fits r.totals.right r.totals.unplaced_area ≡ true) where
      pub copy_tracks : tracks_test g.bounds g.resolution taken copy.slot copy.orientations inset_bounds (next_columns tracks) (look_counts_from tracks) ≡
          false
          → copy_test g copy taken strips r inset_bounds placed tracks ≡ false
      unfolding copy_test
      copy_tracks e =
          ap₂ (λ b c. b && (c && (Tracks && outcome_test r.outcome))) a l ∙ ap (λ b. b && outcome_test r.outcome) e

      pub copy_outcome : tracks_test g.bounds g.resolution taken copy.slot copy.orientations inset_bounds (next_columns tracks) (look_counts_from tracks) ≡
          true
          → outcome_test r.outcome ≡ copy_test g copy taken strips r inset_bounds placed tracks
      unfolding copy_test
      copy_outcome e =
          sym (ap₂ (λ b c. b && (c && (Tracks && outcome_test r.outcome))) a l ∙ ap (λ b. b && outcome_test r.outcome) e)
