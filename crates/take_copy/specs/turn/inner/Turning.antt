-- For inner functions' contracts only: a state that lies in arrays, and what one copy more leaves of it. Definitions only. Assumes nothing.
use Rattle.std.specs.Prelude.{Result, Ok, Err, ℕ, ◌+◌, ◌*◌, ◌≡◌, List, length, set, take, T, Float}
use Rattle.filling.specs.declared.Refusal.{Refusal}
use Rattle.std.specs.Float.{binary64}
use Rattle.std.specs.Float.Ieee.{fits}
use Rattle.numbers.specs.Numbers.{pos_zero}
use Rattle.filling.specs.declared.State.{State}
use Rattle.filling.specs.declared.Tables.{Tables}
use Rattle.filling.specs.Rooms.{Rooms, zeros}
use Rattle.filling.specs.NextCopy.{Step}
use Rattle.rooms.specs.tracks.inner.Tracks.{next_columns, look_counts_from}
use Rattle.choose.specs.declared.Grid.{Grid}
use Rattle.choose.specs.inner.Choosing.{grid_of}
use Rattle.place.specs.declared.Totals.{Totals}
use Rattle.filling_laws.proofs.ReadyNumbers.{RectFits}
use Rattle.filling_laws.proofs.ReadyStrips.{AllFit}

-- the state whose slots' numbers lie in one table, and whose layout in four
abbrev pub state_in : Tables → List ℕ → ℕ → List ℕ → Totals → List ℕ → List Float → List Float → List Float → State
state_in b order taken tracks t orientation x y gap =
    record {
      tables = b;
      order = order;
      taken = taken;
      next_column = next_columns tracks;
      look_counts = look_counts_from tracks;
      placed_strips = t.placed_strips;
      layout = record { orientation = orientation; x = x; y = y; gap = gap; unplaced_area = t.unplaced_area; right = t.right };
    }

-- a refused copy changes nothing
abbrev pub kept_of : Result (Unit {0}) Refusal → List ℕ → List ℕ → List ℕ
kept_of (Ok tt) before after = after
kept_of (Err k) before after = before

abbrev pub written_at : {A : Type 0} → Result (Unit {0}) Refusal → List A → ℕ → A → List A
written_at (Ok tt) l n a = set l n a
written_at (Err k) l n a = l

abbrev pub taken_after : Result (Unit {0}) Refusal → ℕ → ℕ
taken_after (Ok tt) n = n + 1
taken_after (Err k) n = n

-- a verdict with state and rooms after it
abbrev pub step_in : Result (Unit {0}) Refusal → State → Rooms → List Float → Step
step_in v s w intervals = record { verdict = v; state = s; rooms = w; intervals = zeros pos_zero intervals }

-- tables and sheet are what the state's tables say; the sheet's room is `whole`
pub record Tabling (b : Tables) (g : Grid) (inset_bounds : List Float) (parts : List ℕ) (whole sheet : List Float) : Type 0 where
  pub grid : g ≡ grid_of b
  pub inset_bounds_are : inset_bounds ≡ b.inset_bounds
  pub parts_are : parts ≡ b.parts
  pub sheet_is : sheet ≡ take (6 * b.sheet_strips) whole
  pub bounds_long : length b.inset_bounds ≡ 4096
  pub parts_long : length b.parts ≡ 4096
  pub resolution-fits : T (fits binary64 b.resolution)
  pub bounds-fit : RectFits b.sheet_bounds
  pub insets_fit : AllFit b.inset_bounds
  pub whole_fits : AllFit whole

-- a layout's four lists are as long as the code's arrays
pub record Sizes (orientation : List ℕ) (x y gap : List Float) : Type 0 where
  pub orientations : length orientation ≡ 4096
  pub xs : length x ≡ 4096
  pub ys : length y ≡ 4096
  pub gaps : length gap ≡ 4096
