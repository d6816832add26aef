-- The tests of what a copy wrote are the definition's. Assumes nothing.
use Rattle.std.specs.Prelude.{Some, None, Ok, Err}
use Prim.Native.Nat.{ℕ, zero, suc, ◌+◌, ◌*◌, ◌<◌}
use native.Mathlib.Numerals.{add-one}
use mathlib.Core.Path.{◌≡◌, refl, sym, ap, ap₂, ◌∙◌}
use mathlib.Core.Bool.{Bool, true, ◌&&◌}
use mathlib.Core.List.{List, [], map}
use lib.ListN.{length, get_or, take, drop}
use lib.Ieee.{Float, nan}
use Rattle.index.specs.Buckets.{up_from}
use Rattle.job.specs.Jobs.{Job}
use Rattle.filling.specs.declared.State.{State}
use Rattle.filling.specs.declared.Tables.{Tables}
use Rattle.filling.specs.Rooms.{Rooms}
use Rattle.filling.specs.Shapes.{Planner}
use Rattle.filling.specs.Search as Search
use Rattle.filling.specs.State.{orientation_counts, shape_at, planner_at, track_at, tracks_of, stands_at}
use Rattle.filling.specs.Consistent.{every, bounded, strips_fit, layout_fits, gap_fits, position_fits, tracks_fit, placed_strips_of}
use Rattle.rooms.specs.tracks.inner.Tracks.{next_columns, look_counts_from}
use Rattle.choose.specs.inner.Choosing.{grid_of}
use Rattle.place.specs.declared.Copy.{Copy}
use Rattle.place.specs.inner.Placing.{Outcome}
use Rattle.place.specs.declared.Step.{Step}
use Rattle.place.specs.declared.Totals.{Totals}
use Rattle.place.specs.inner.Placing.{totals_of, orientation_number, outcome_x, y_of, gap_of}
use Rattle.consistent.specs.slot_tests.inner.Slots.{track_test}
use Rattle.consistent.proofs.strip_tests.GapTests.{and-true, and_both}
use Rattle.consistent.proofs.SameSlots.{track_same, last_of_slot}
use Rattle.filling_laws.proofs.SameCore.{row}
use Rattle.batch.specs.inner.Tested.{place_fits, copy_fits}
use Rattle.take_copy.specs.copy_tests.inner.CopyTest.{slot_track_test, tracks_test, choice_test, outcome_test, copy_test}

-- ---- the tracks of a kind

module _ (t : Tables) (room : List Float) (taken : ℕ) (next looks : List ℕ) (p : Planner) (eb : p.bounds ≡ t.sheet_bounds)
    (er : p.resolution ≡ t.resolution)
    (first : ℕ) where
  slots_same : (n c : ℕ)
      → every (λ o. slot_track_test t.sheet_bounds t.resolution taken t.inset_bounds next looks (first + o)) (up_from n c)
      ≡ tracks_fit p taken (map (λ o. shape_at t room (first + o)) (up_from n c)) (map (λ o. track_at next looks (first + o)) (up_from n c))
  unfolding every up_from tracks_fit slot_track_test
  slots_same zero c = refl
  slots_same (suc n) c =
      ap₂ ◌&&◌
      (ap (λ m. track_test taken m (get_or next (first + c) 0) (get_or looks (first + c) 0)) (last_of_slot t room taken next looks p eb er (first + c))
      ∙ track_same taken (Search.last_of p (shape_at t room (first + c))) next looks (first + c))
      (slots_same n (suc c))

  pub tracks_same : (n : ℕ)
      → tracks_test t.sheet_bounds t.resolution taken first n t.inset_bounds next looks
      ≡ tracks_fit p taken (map (λ o. shape_at t room (first + o)) (up_from n 0)) (map (λ o. track_at next looks (first + o)) (up_from n 0))
  unfolding tracks_test
  tracks_same n = slots_same n 0

-- ---- position and gap

-- what stands at place n of the layout is the outcome
pub record Written (t : State) (n : ℕ) (o : Outcome) : Type 0 where
  pub number : get_or t.layout.orientation n 0 ≡ orientation_number o
  pub x : get_or t.layout.x n nan ≡ outcome_x o
  pub y : get_or t.layout.y n nan ≡ y_of o
  pub gap : get_or t.layout.gap n nan ≡ gap_of o

module _ (t : State) (n : ℕ) where
  stands-none : every place_fits (stands_at t n 0) ≡ true
  unfolding every stands_at
  stands-none = refl

  stands_one : (o : ℕ) → every place_fits (stands_at t n (suc o))
      ≡ (bounded (get_or t.layout.x n nan) && bounded (get_or t.layout.y n nan)) && gap_fits (get_or t.layout.gap n nan)
  unfolding every stands_at place_fits position_fits
  stands_one o = and-true _

  stands_same : (o : Outcome) → Written t n o → outcome_test o ≡ every place_fits (stands_at t n (get_or t.layout.orientation n 0))
  unfolding outcome_test choice_test
  stands_same (Ok (Some p)) w =
      and_both (bounded p.x) (bounded p.y) (gap_fits p.gap)
      ∙ (ap₂ (λ (u v : Float). (bounded u && bounded v) && gap_fits p.gap) (sym w.x) (sym w.y)
      ∙ (ap (λ (u : Float). (bounded (get_or t.layout.x n nan) && bounded (get_or t.layout.y n nan)) && gap_fits u) (sym w.gap)
      ∙ (sym (stands_one p.orientation) ∙ ap (λ (m : ℕ). every place_fits (stands_at t n m)) (sym (w.number ∙ add-one p.orientation)))))
  stands_same (Ok None) w = sym (ap (λ (m : ℕ). every place_fits (stands_at t n m)) w.number ∙ stands-none)
  stands_same (Err k) w = sym (ap (λ (m : ℕ). every place_fits (stands_at t n m)) w.number ∙ stands-none)

-- ---- all

module _ (j : Job) (t : State) (w : Rooms) (n strips : ℕ) (tracks : List ℕ) (copy : Copy) (r : Step)
    (kind : get_or t.order n 0 < length (orientation_counts j)) (slot : copy.slot ≡ 16 * get_or t.order n 0)
    (turns : copy.orientations ≡ get_or (orientation_counts j) (get_or t.order n 0) 0) (totals : r.totals ≡ totals_of t) (written : Written t n r.outcome)
    (next : next_columns tracks ≡ t.next_column) (looks : look_counts_from tracks ≡ t.look_counts) where
  abbrev k : ℕ
  k = get_or t.order n 0

  abbrev p : Planner
  p = planner_at j t.tables w

  shapes_of : get_or p.shapes k [] ≡ map (λ o. shape_at t.tables w.shapes (16 * k + o)) (up_from (get_or (orientation_counts j) k 0) 0)
  unfolding planner_at
  shapes_of = row (shape_at t.tables w.shapes) (orientation_counts j) k kind

  tracks_of_lem : get_or (tracks_of j t) k [] ≡ map (λ o. track_at t.next_column t.look_counts (16 * k + o)) (up_from (get_or (orientation_counts j) k 0) 0)
  unfolding tracks_of
  tracks_of_lem = row (track_at t.next_column t.look_counts) (orientation_counts j) k kind

  bounds_of : p.bounds ≡ t.tables.sheet_bounds
  unfolding planner_at
  bounds_of = refl

  resolution_of : p.resolution ≡ t.tables.resolution
  unfolding planner_at
  resolution_of = refl

  kind-same : tracks_test t.tables.sheet_bounds t.tables.resolution t.taken copy.slot copy.orientations t.tables.inset_bounds
      (next_columns tracks) (look_counts_from tracks)
      ≡ tracks_fit p t.taken (get_or p.shapes k []) (get_or (tracks_of j t) k [])
  kind-same =
      ap₂ (λ (a b : ℕ). tracks_test t.tables.sheet_bounds t.tables.resolution t.taken a b t.tables.inset_bounds (next_columns tracks)
      (look_counts_from tracks)) slot turns
      ∙ (ap₂ (tracks_test t.tables.sheet_bounds t.tables.resolution t.taken (16 * k) (get_or (orientation_counts j) k 0) t.tables.inset_bounds)
      next looks
      ∙ (tracks_same t.tables w.shapes t.taken t.next_column t.look_counts p bounds_of resolution_of (16 * k)
      (get_or (orientation_counts j) k 0)
      ∙ sym (ap₂ (tracks_fit p t.taken) shapes_of tracks_of_lem)))

  -- 31's tests of what the copy at place n wrote
  pub copy-test_is : copy_test (grid_of t.tables) copy t.taken strips r t.tables.inset_bounds w.placed tracks ≡ copy_fits j n strips t w
  unfolding copy_test copy_fits placed_strips_of
  copy-test_is =
      ap (λ (q : Totals). strips_fit (drop (6 * strips) (take (6 * q.placed_strips) w.placed)) && (layout_fits q.right q.unplaced_area
      && (tracks_test t.tables.sheet_bounds t.tables.resolution t.taken copy.slot copy.orientations t.tables.inset_bounds
      (next_columns tracks) (look_counts_from tracks) && outcome_test r.outcome))) totals
      ∙ ap₂ (λ (a b : Bool). strips_fit (drop (6 * strips) (take (6 * t.placed_strips) w.placed))
      && (layout_fits t.layout.right t.layout.unplaced_area && (a && b))) kind-same (stands_same t n r.outcome written)
