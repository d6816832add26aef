-- For inner functions' contracts only: 31's tests of what a copy wrote, in the code's order. That they are the definition's is proved in
-- proofs/copy_tests. Definitions only. Assumes nothing.
use Rattle.std.specs.Prelude.{Some, None, Ok, Err}
use Rattle.std.specs.Prelude.{ℕ, ◌+◌, ◌*◌, Bool, true, ◌&&◌, List, get_or, take, drop, Float}
use Rattle.strips.specs.declared.Rect.{Rect}
use Rattle.index.specs.Buckets.{up_from}
use Rattle.filling.specs.Consistent.{every, bounded, strips_fit, layout_fits, gap_fits}
use Rattle.rooms.specs.tracks.inner.Tracks.{next_columns, look_counts_from}
use Rattle.search.specs.columns.inner.Stands.{columns_of}
use Rattle.choose.specs.declared.Choice.{Choice}
use Rattle.choose.specs.declared.Grid.{Grid}
use Rattle.choose.specs.inner.Choosing.{bounds_at}
use Rattle.place.specs.declared.Copy.{Copy}
use Rattle.place.specs.inner.Placing.{Outcome}
use Rattle.place.specs.declared.Step.{Step}
use Rattle.consistent.specs.slot_tests.inner.Slots.{last_for, track_test}

-- remembered column and look count of slot i
unfoldable pub slot_track_test : Rect → Float → ℕ → List Float → List ℕ → List ℕ → ℕ → Bool
slot_track_test bounds resolution taken inset_bounds next looks i =
    track_test taken (last_for (columns_of bounds (bounds_at inset_bounds i) resolution)) (get_or next i 0) (get_or looks i 0)

-- of the n slots from `slot` on
unfoldable pub tracks_test : Rect → Float → ℕ → ℕ → ℕ → List Float → List ℕ → List ℕ → Bool
tracks_test bounds resolution taken slot n inset_bounds next looks =
    every (λ o. slot_track_test bounds resolution taken inset_bounds next looks (slot + o)) (up_from n 0)

-- position and gap
unfoldable pub choice_test : Choice → Bool
choice_test p = bounded p.x && (bounded p.y && gap_fits p.gap)

-- a copy without a place has neither
unfoldable pub outcome_test : Outcome → Bool
outcome_test (Ok (Some p)) = choice_test p
outcome_test (Ok None) = true
outcome_test (Err k) = true

-- what a copy wrote: r's totals are those after it, before it `strips` strips were placed
unfoldable pub copy_test : Grid → Copy → ℕ → ℕ → Step → List Float → List Float → List ℕ → Bool
copy_test g copy taken strips r inset_bounds placed tracks =
    strips_fit (drop (6 * strips) (take (6 * r.totals.placed_strips) placed))
    && (layout_fits r.totals.right r.totals.unplaced_area
    && (tracks_test g.bounds g.resolution taken copy.slot copy.orientations inset_bounds (next_columns tracks) (look_counts_from tracks)
    && outcome_test r.outcome))
