-- For inner functions' contracts only: the tables and rooms that a filling is given, that they are a job's, and the state that it leaves. Definitions only.
-- Assumes nothing.
use Rattle.std.specs.Prelude.{Result, Ok, Err, ℕ, ◌+◌, ◌*◌, ◌≤◌, ◌≡◌, List, length, take, drop, replicate, Float}
use Rattle.filling.specs.declared.Refusal.{Refusal}
use Rattle.numbers.specs.Numbers.{pos_zero}
use Rattle.trapezoid.specs.Strip.{capacity}
use Rattle.index.specs.declared.Index.{Index}
use Rattle.index.specs.inner.Listing.{Laid, FirstBuckets}
use Rattle.index.specs.Buckets.{strip_numbers}
use Rattle.strips.specs.declared.Rect.{Rect}
use Rattle.job.specs.Jobs.{Job, accepted, read_job}
use Rattle.filling.specs.declared.State.{State}
use Rattle.filling.specs.Shapes.{Planner, planner_of}
use Rattle.filling.specs.Rooms.{Rooms, laid}
use Rattle.filling.specs.State.{apart_room, inset_room}
use Rattle.filling.specs.Consistent.{sheet_index}
use Rattle.filling.specs.Start.{tables_of, first_rooms}
use Rattle.filling.specs.Fill.{Filling, filled, stopped}
use Rattle.accounts.specs.tables.inner.Tabled.{Tabled}
use Rattle.rooms.specs.tracks.inner.Tracks.{next_columns, look_counts_from, orientations, xs, ys, gaps}
use Rattle.choose.specs.declared.Grid.{Grid}
use Rattle.place.specs.declared.Totals.{Totals}

-- what is worked out of a job before the first copy
pub record Given : Type 0 where
  pub index : Index
  pub bounds : Rect
  pub resolution : Float
  pub rows : List ℕ
  pub areas : List Float
  pub inset_bounds : List Float
  pub parts : List ℕ
  pub apart : List Float
  pub inset : List Float
  pub sheet : List Float
  pub sheet_entries : List ℕ
  pub sheet_starts : List ℕ

abbrev pub given : Index → Rect → Float → List ℕ → List Float → List Float → List ℕ → List Float → List Float → List Float → List ℕ → List ℕ → Given
given ix bounds resolution rows areas inset_bounds parts apart inset sheet sheet_entries sheet_starts =
    record {
      index = ix;
      bounds = bounds;
      resolution = resolution;
      rows = rows;
      areas = areas;
      inset_bounds = inset_bounds;
      parts = parts;
      apart = apart;
      inset = inset;
      sheet = sheet;
      sheet_entries = sheet_entries;
      sheet_starts = sheet_starts;
    }

-- the same with the apart strips at the beginning of the shapes room and the inset strips after them
abbrev pub given_in : Grid → List ℕ → List Float → List Float → List ℕ → List Float → List Float → List ℕ → List ℕ → Given
given_in g rows areas inset_bounds parts shapes sheet sheet_entries sheet_starts =
    given g.index g.bounds g.resolution rows areas inset_bounds parts (take (6 * g.apart_strips) shapes) (drop (6 * g.apart_strips) shapes)
    sheet sheet_entries sheet_starts

-- it is the job's, in rooms as a start leaves them
pub record Prepared (j : Job) (g : Given) : Type 0 where
  pub bytes : List ℕ
  pub read : read_job bytes ≡ accepted j
  pub few : capacity (planner_of j).sheet ≤ strip_numbers
  pub lent : Rooms
  pub tabled : Tabled j g.rows g.areas
  pub index : g.index ≡ sheet_index (planner_of j).bounds
  pub bounds : g.bounds ≡ (planner_of j).bounds
  pub resolution : g.resolution ≡ (planner_of j).resolution
  pub inset_bounds : g.inset_bounds ≡ (tables_of (planner_of j)).inset_bounds
  pub parts : g.parts ≡ (tables_of (planner_of j)).parts
  pub apart : g.apart ≡ apart_room (tables_of (planner_of j)) (first_rooms (planner_of j) lent).shapes
  pub inset : g.inset ≡ inset_room (tables_of (planner_of j)) (first_rooms (planner_of j) lent).shapes
  pub sheet : g.sheet ≡ take (6 * (tables_of (planner_of j)).sheet_strips) (first_rooms (planner_of j) lent).sheet
  pub sheet_entries : g.sheet_entries ≡ (first_rooms (planner_of j) lent).sheet_entries
  pub sheet_laid : Laid g.index g.sheet (capacity g.sheet) g.sheet_entries g.sheet_starts

-- the sheet's numbers are its strips' first buckets
abbrev pub SheetFirsts : Given → List ℕ → Type 0
SheetFirsts g firsts = FirstBuckets g.index g.sheet (capacity g.sheet) firsts

-- the state after so many copies; what the layout holds of later ones does not count
abbrev pub state_by : Planner → List ℕ → ℕ → List ℕ → List ℕ → Totals → List ℕ → List Float → List Float → List Float → State
state_by p order taken next looks t orientation x y gap =
    record {
      tables = tables_of p;
      order = laid order (replicate 4096 0);
      taken = taken;
      next_column = next;
      look_counts = looks;
      placed_strips = t.placed_strips;
      layout = record {
        orientation = laid (take taken orientation) (replicate 4096 0);
        x = laid (take taken x) (replicate 4096 pos_zero);
        y = laid (take taken y) (replicate 4096 pos_zero);
        gap = laid (take taken gap) (replicate 4096 pos_zero);
        unplaced_area = t.unplaced_area;
        right = t.right;
      };
    }

-- the rooms between copies
abbrev pub rooms_by : Planner → Rooms → List Float → List ℕ → List ℕ → Rooms
rooms_by p lent placed entries firsts =
    record {
      shapes = (first_rooms p lent).shapes;
      sheet = (first_rooms p lent).sheet;
      placed = placed;
      sheet_entries = (first_rooms p lent).sheet_entries;
      placed_entries = entries;
      sheet_firsts = (first_rooms p lent).sheet_firsts;
      placed_firsts = firsts;
    }

-- where copies or turns go on after number i of n
abbrev pub next_after : Result (Unit {0}) Refusal → ℕ → ℕ → ℕ
next_after (Ok tt) i n = i + 1
next_after (Err k) i n = n

-- the state at the end, or the refusal first met
abbrev pub filling_by : Result (Unit {0}) Refusal → Planner → List ℕ → List ℕ → List ℕ → Totals → List ℕ → List Float → List Float → List Float → Filling
filling_by (Ok tt) p order next looks t orientation x y gap = filled (state_by p order (length order) next looks t orientation x y gap)
filling_by (Err k) p order next looks t orientation x y gap = stopped k

-- the same in a filling's two tables
abbrev pub filling_in : Result (Unit {0}) Refusal → Planner → List ℕ → List ℕ → Totals → List Float → Filling
filling_in v p order tracks t spots = filling_by v p order (next_columns tracks) (look_counts_from tracks) t (orientations tracks) (xs spots) (ys spots) (gaps spots)
