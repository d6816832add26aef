-- For inner functions' contracts only: a state and rooms from what is lent, and 31's tests in the code's order. That they are the
-- definition's is proved in proofs/. Definitions only. Assumes nothing.
use Rattle.std.specs.Prelude.{ℕ, ◌*◌, Bool, ◌&&◌, List, take, drop, leb, Float}
use Rattle.trapezoid.specs.Strip.{capacity}
use Rattle.index.specs.Buckets.{standing_capacity}
use Rattle.strips.specs.declared.Rect.{Rect}
use Rattle.filling.specs.declared.State.{State}
use Rattle.filling.specs.Consistent.{strips_fit, bounds_fit, resolution_fits, layout_fits, numbers_lie, entries_for, firsts_for}
use Rattle.consistent.specs.slot_tests.inner.Slots.{Slots, slots, slots_test}

abbrev pub state_of : ℕ → ℕ → Float → Float → Float → Rect → ℕ → ℕ → List Float → List ℕ → List ℕ → List ℕ → List ℕ → List ℕ → List Float → List Float
    → List Float → State
state_of taken placed_strips right area resolution bounds sheet_strips apart_strips inset_bounds parts order next looks orientation x y gap =
    record {
      tables = record {
        resolution = resolution;
        sheet_bounds = bounds;
        sheet_strips = sheet_strips;
        apart_strips = apart_strips;
        inset_bounds = inset_bounds;
        parts = parts;
      };
      order = order;
      taken = taken;
      next_column = next;
      look_counts = looks;
      placed_strips = placed_strips;
      layout = record { orientation = orientation; x = x; y = y; gap = gap; unplaced_area = area; right = right };
    }

-- the slots, with the two parts of the shapes room
abbrev pub slots_of : Rect → Float → ℕ → List Float → List ℕ → List Float → ℕ → List ℕ → List ℕ → Slots
slots_of bounds resolution taken inset_bounds parts shapes apart_strips next looks =
    slots bounds resolution taken inset_bounds parts (take (6 * apart_strips) shapes) (drop (6 * apart_strips) shapes) next looks

-- ---- the tests, in three groups; the order, the gaps and the copies are apart

unfoldable pub state_test : ℕ → ℕ → Float → Rect → Float → Float → Bool
state_test taken copies resolution bounds right area = leb taken copies && (resolution_fits resolution && (bounds_fit bounds && layout_fits right area))

unfoldable pub counts_test : ℕ → ℕ → ℕ → List Float → List Float → List Float → List ℕ → List ℕ → Bool
counts_test sheet_strips apart_strips placed_strips sheet shapes placed sheet_firsts placed_firsts =
    leb sheet_strips (standing_capacity sheet sheet_firsts) && (leb apart_strips (capacity shapes) && leb placed_strips (standing_capacity placed placed_firsts))

-- strips, numbers and entries of a part: the numbers first, since the walk of the entries reads them
unfoldable pub strip_room_test : Rect → List Float → List ℕ → List ℕ → Bool
strip_room_test bounds part entries firsts = strips_fit part && (numbers_lie (firsts_for bounds part) firsts && numbers_lie (entries_for bounds part) entries)

unfoldable pub standing_test : Rect → List Float → List Float → List ℕ → List ℕ → List ℕ → List ℕ → Bool
standing_test bounds sheet placed sheet_entries placed_entries sheet_firsts placed_firsts =
    strip_room_test bounds sheet sheet_entries sheet_firsts && strip_room_test bounds placed placed_entries placed_firsts

unfoldable pub rooms_test : Slots → List ℕ → ℕ → Bool → Bool → Bool
rooms_test w rows kinds counted stands = counted && (slots_test w rows kinds && stands)
