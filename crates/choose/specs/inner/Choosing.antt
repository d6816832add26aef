-- For inner functions' contracts only: the choice among orientations in the code's order, over the rooms and the tables by slot. That it is
-- the choice of the definition of filling is proved in proofs/. Definitions only. Assumes nothing.
use Rattle.std.specs.Prelude.{Option, Some, None, Result, Ok, Err, ℕ, zero, suc, ◌+◌, ◌*◌, ◌≤◌, Bool, true, false, ◌&&◌, ◌||◌, List, length, get_or, take, drop, Float}
use Rattle.std.specs.Float.{nan}
use Rattle.std.specs.Float.Ieee.{lt, eq}
use Rattle.numbers.specs.Numbers.{◌⊕◌}
use Rattle.trapezoid.specs.Strip.{part_of}
use Rattle.strips.specs.declared.Rect.{Rect}
use Rattle.index.specs.declared.Index.{Index}
use Rattle.index.specs.declared.Overrun.{Overrun}
use Rattle.filling.specs.declared.Tables.{Tables}
use Rattle.filling.specs.Consistent.{sheet_index}
use Rattle.look.specs.inner.Ready.{Lookable}
use Rattle.search.specs.declared.columns.Columns.{Columns}
use Rattle.search.specs.columns.inner.Stands.{columns_of, column_x, last_of}
use Rattle.search.specs.inner.Searching.{Answer, Found, answer_at, Tracked, search_of}
use Rattle.choose.specs.declared.Grid.{Grid}
use Rattle.choose.specs.declared.Part.{Part}
use Rattle.choose.specs.declared.Choice.{Choice}

-- ---- by slot, four numbers each
unfoldable pub bounds_at : List Float → ℕ → Rect
bounds_at t i = record { left = get_or t (4 * i) nan; bottom = get_or t (4 * i + 1) nan; right = get_or t (4 * i + 2) nan; top = get_or t (4 * i + 3) nan }

unfoldable pub part_at : List ℕ → ℕ → Part
part_at t i = record {
  apart_start = get_or t (4 * i) 0;
  apart_count = get_or t (4 * i + 1) 0;
  inset_start = get_or t (4 * i + 2) 0;
  inset_count = get_or t (4 * i + 3) 0;
}

abbrev pub inset_part : Part → List Float → List Float
inset_part p room = part_of room p.inset_start p.inset_count

abbrev pub apart_part : Part → List Float → List Float
apart_part p room = part_of room p.apart_start p.apart_count

-- ---- which wins

-- the choice that wins, or none; or that a look's intervals exceed the room
abbrev pub Winner : Type 0
Winner = Result (Option Choice) Overrun

-- what orientation o found
abbrev pub winner_of : Columns → Rect → ℕ → Found → Winner
winner_of k b o (Ok (Some (c, y, g))) = Ok (Some (record { orientation = o; x = column_x k c; y = y; gap = g; right = column_x k c ⊕ b.right; top = y ⊕ b.top }))
winner_of k b o (Ok None) = Ok None
winner_of k b o (Err r) = Err r

unfoldable pub wins_of : Choice → Choice → Bool
wins_of a b = lt a.right b.right || eq a.right b.right && lt a.top b.top

unfoldable pub first_of : Choice → Choice → Winner
first_of a b = elim (wins_of b a) [ true ↦ Ok (Some b) | false ↦ Ok (Some a) ]

abbrev pub against_of : Choice → Winner → Winner
against_of a (Ok (Some b)) = first_of a b
against_of a (Ok None) = Ok (Some a)
against_of a (Err r) = Err r

abbrev pub better_of : Winner → Winner → Winner
better_of (Ok (Some a)) next = against_of a next
better_of (Ok None) next = next
better_of (Err r) next = Err r

-- ---- what a copy's search reads: the interval room's capacity, the sheet's bounds, the resolution, the tables by slot, the strips' rooms
pub record Surroundings : Type 0 where
  pub capacity : ℕ
  pub bounds : Rect
  pub resolution : Float
  pub inset_bounds : List Float
  pub parts : List ℕ
  pub apart : List Float
  pub inset : List Float
  pub sheet : List Float
  pub placed : List Float

abbrev pub surroundings : ℕ → Rect → Float → List Float → List ℕ → List Float → List Float → List Float → List Float → Surroundings
surroundings capacity bounds resolution inset_bounds parts apart inset sheet placed =
    record {
      capacity = capacity;
      bounds = bounds;
      resolution = resolution;
      inset_bounds = inset_bounds;
      parts = parts;
      apart = apart;
      inset = inset;
      sheet = sheet;
      placed = placed;
    }

-- what the tables of a state say of it
abbrev pub grid_of : Tables → Grid
grid_of t =
    record { index = sheet_index t.sheet_bounds; bounds = t.sheet_bounds; resolution = t.resolution; apart_strips = t.apart_strips }

-- the same with the apart strips at the beginning of the shapes room and the inset strips after them
abbrev pub surroundings_in : ℕ → Grid → List Float → List ℕ → List Float → List Float → List Float → Surroundings
surroundings_in capacity g inset_bounds parts shapes sheet placed =
    surroundings capacity g.bounds g.resolution inset_bounds parts (take (6 * g.apart_strips) shapes) (drop (6 * g.apart_strips) shapes) sheet
    placed

abbrev pub columns_at : Surroundings → ℕ → Columns
columns_at w i = columns_of w.bounds (bounds_at w.inset_bounds i) w.resolution

abbrev pub looks_at : Surroundings → ℕ → ℕ → Answer
looks_at w i =
    answer_at w.capacity (columns_at w i) (inset_part (part_at w.parts i) w.inset) (apart_part (part_at w.parts i) w.apart) w.sheet w.placed

-- what searching a slot asks of the rooms
pub record Ready (ix : Index) (w : Surroundings) (sheet_entries sheet_starts entries starts : List ℕ) (i : ℕ) : Type 0 where
  pub bounded : 4 * i + 4 ≤ length w.inset_bounds
  pub parted : 4 * i + 4 ≤ length w.parts
  pub few : (columns_at w i).count ≤ 4000000000
  pub lookable : (c : ℕ) → c ≤ last_of (columns_at w i)
      → Lookable ix (column_x (columns_at w i) c) (columns_at w i).y_low (columns_at w i).y_high (inset_part (part_at w.parts i) w.inset)
      (apart_part (part_at w.parts i) w.apart) w.sheet w.placed sheet_entries sheet_starts entries starts

-- ---- the orientations in turn
pub record Chosen : Type 0 where
  pub winner : Winner
  pub counts : List ℕ
  pub next : List ℕ

abbrev pub chosen : Winner → List ℕ → List ℕ → Chosen
chosen v counts next = record { winner = v; counts = counts; next = next }

unfoldable pub won : Surroundings → ℕ → ℕ → Tracked → Chosen
won w i o t = chosen (winner_of (columns_at w i) (bounds_at w.inset_bounds i) o t.found) t.counts t.next

unfoldable pub orientation_of : Surroundings → ℕ → ℕ → List ℕ → List ℕ → Chosen
orientation_of w i o counts next = won w i o (search_of (looks_at w i) (columns_at w i) i counts next)

unfoldable pub bettered : Winner → Chosen → Chosen
bettered best t = chosen (better_of best t.winner) t.counts t.next

-- the n orientations from o on
unfoldable pub choose_from : Surroundings → ℕ → ℕ → ℕ → Chosen → Chosen
choose_from w i zero o b = b
choose_from w i (suc n) o b = choose_from w i n (o + 1) (bettered b.winner (orientation_of w (i + o) o b.counts b.next))
