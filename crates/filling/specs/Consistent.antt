-- Document 01, refusal 31: "a single step's state and rooms disagree". One named test a line; no more is refused than the table says.
-- Definitions only. Assumes nothing.
use Rattle.std.specs.Prelude.{ℕ, suc, ◌+◌, ◌*◌, Bool, true, false, not, ◌&&◌, List, [], ◌∷◌, length, get_or, take, leb, ltb, eqb, Float}
use Rattle.std.specs.Float.Ieee.{le, lt, eq, neg}
use Rattle.std.specs.Float.Ieee.Scale.{finite}
use Rattle.numbers.specs.Numbers.{pos_zero, from_int}
use Rattle.trapezoid.specs.declared.Trapezoid.{Trapezoid}
use Rattle.trapezoid.specs.Strip.{strip_at, capacity}
use Rattle.index.specs.declared.Index.{Index}
use Rattle.index.specs.Buckets.{up_from, index_of, entries_of, firsts_of, standing_capacity}
use Rattle.strips.specs.declared.Rect.{Rect}
use Rattle.bits.specs.Fields.{resolution_range}
use Rattle.job.specs.Jobs.{Job}
use Rattle.filling.specs.declared.Tables.{Tables}
use Rattle.filling.specs.declared.State.{State}
use Rattle.filling.specs.Shapes.{Shape, Planner, Standing, standing_strips}
use Rattle.filling.specs.Search.{Remembered, column, none, Track, last_of}
use Rattle.filling.specs.Rooms.{Rooms}
use Rattle.filling.specs.Order.{rearranged}
use Rattle.filling.specs.State.{Part, slot_rows, orientation_counts, part_at, apart_room, inset_room, planner_at, order_of, standing_of, tracks_of}

-- every one of a list passes the test
unfoldable pub every {ℓ} : {A : Type ℓ} → (A → Bool) → List A → Bool
every test [] = true
every test (a ∷ as') = test a && every test as'

-- "not finite or beyond ±1,000,000"
unfoldable pub bounded : Float → Bool
bounded x = finite x && (le (neg (from_int 1_000_000)) x && le x (from_int 1_000_000))

-- "a strip with x0 above x1, a strip's number .. not finite or beyond ±1,000,000"
unfoldable pub strip_fits : Trapezoid → Bool
strip_fits s =
    not (lt s.x1 s.x0)
    && (bounded s.x0 && (bounded s.x1 && (bounded s.low0 && (bounded s.low1 && (bounded s.high0 && bounded s.high1)))))

-- "a strip with x0 above x1, a strip's number .. beyond ±1,000,000": every strip of a part
unfoldable pub strips_fit : List Float → Bool
strips_fit part = every (λ i. strip_fits (strip_at part i)) (up_from (capacity part) 0)

-- "bound"
unfoldable pub bounds_fit : Rect → Bool
bounds_fit b = bounded b.left && (bounded b.bottom && (bounded b.right && bounded b.top))

-- ---- "a count .. beyond its range"

-- the copies taken: at most the job's
unfoldable pub taken_fits : Job → State → Bool
taken_fits j s = leb s.taken j.copies

-- strips lie within what their rooms are used for
unfoldable pub strip_counts_fit : Tables → ℕ → Rooms → Bool
strip_counts_fit t placed w =
    leb t.sheet_strips (standing_capacity w.sheet w.sheet_firsts)
    && (leb t.apart_strips (capacity w.shapes) && leb placed (standing_capacity w.placed w.placed_firsts))

-- an orientation's strips lie within the two parts of the shapes room
unfoldable pub part_fits : ℕ → ℕ → Part → Bool
part_fits apart inset q = leb (q.apart_start + q.apart_count) apart && leb (q.inset_start + q.inset_count) inset

-- the same of every orientation of the job; unused slots are not looked at
unfoldable pub parts_fit : Job → Tables → Rooms → Bool
parts_fit j t w =
    every (every (part_fits (capacity (apart_room t w.shapes)) (capacity (inset_room t w.shapes))))
    (slot_rows (part_at t.parts) 0 (orientation_counts j))

-- ---- "a .. remembered column beyond its range": 0 to the orientation's last; a look count at most what the copies taken can have cost

-- "remembered column beyond its range": a column of the orientation, or none
unfoldable pub column_fits : ℕ → Remembered → Bool
column_fits last none = true
column_fits last (column c) = leb c last

-- its look count: a column looked at again for each copy taken, and each column once
unfoldable pub track_fits : ℕ → ℕ → Track → Bool
track_fits taken last t = column_fits last t.next_column && leb t.look_count (suc last + taken)

-- the orientations of a kind
unfoldable pub tracks_fit : Planner → ℕ → List Shape → List Track → Bool
tracks_fit p taken [] ts = true
tracks_fit p taken (s ∷ ss) [] = true
tracks_fit p taken (s ∷ ss) (t ∷ ts) = track_fits taken (last_of p s) t && tracks_fit p taken ss ts

-- the orientations of every kind
unfoldable pub track_table_fits : Planner → ℕ → List (List Shape) → List (List Track) → Bool
track_table_fits p taken [] tss = true
track_table_fits p taken (ss ∷ sss) [] = true
track_table_fits p taken (ss ∷ sss) (ts ∷ tss) = tracks_fit p taken ss ts && track_table_fits p taken sss tss

-- ---- "a .. resolution .. beyond its range": the job's range

-- "a .. resolution .. beyond its range"
unfoldable pub resolution_fits : Float → Bool
resolution_fits r = le resolution_range.least r && le r resolution_range.most

-- ---- strips and bounds

-- an orientation's strips and bounds
unfoldable pub shape_fits : Shape → Bool
shape_fits s = strips_fit s.apart && (strips_fit s.inset && bounds_fit s.bounds)

-- resolution, strips and bounds of sheet and shapes
unfoldable pub planner_fits : Planner → Bool
planner_fits p = resolution_fits p.resolution && (strips_fit p.sheet && (bounds_fit p.bounds && every (every shape_fits) p.shapes))

-- "right not finite or beyond ±1,000,000, an area outside 0..1e16"
unfoldable pub layout_fits : Float → Float → Bool
layout_fits right area = bounded right && (le pos_zero area && le area (from_int 10_000_000_000_000_000))

-- document 02, W7: "a state's gap not in 0..1,000,000"
unfoldable pub gap_fits : Float → Bool
gap_fits g = le pos_zero g && le g (from_int 1_000_000)

-- of every standing copy; a copy to come or without a place has none
unfoldable pub gaps_fit : State → Bool
gaps_fit s = every (λ c. gap_fits c.gap) (standing_of s)

-- ---- "entries that are not those of the standing strips"

-- equal lists, by a test of their elements
unfoldable pub same {ℓ} : {A : Type ℓ} → (A → A → Bool) → List A → List A → Bool
same test [] [] = true
same test [] (b ∷ bs) = false
same test (a ∷ as') [] = false
same test (a ∷ as') (b ∷ bs) = test a b && same test as' bs

-- equal lists of numbers
abbrev pub same_numbers : List ℕ → List ℕ → Bool
same_numbers = same eqb

-- the room begins with these numbers
unfoldable pub numbers_lie : List ℕ → List ℕ → Bool
numbers_lie ns room = same_numbers ns (take (length ns) room)

-- the buckets "over the sheet's width"
unfoldable pub sheet_index : Rect → Index
sheet_index b = index_of b.left b.right

-- the entries of the strips of a part
unfoldable pub entries_for : Rect → List Float → List ℕ
entries_for b strips = entries_of (sheet_index b) strips (capacity strips)

-- "entries that are not those of the standing strips", sheet and placed
unfoldable pub entries_fit : Planner → Rooms → List Float → Bool
entries_fit p w standing =
    numbers_lie (entries_for p.bounds p.sheet) w.sheet_entries && numbers_lie (entries_for p.bounds standing) w.placed_entries

-- ---- document 02, W4: the standing copies

-- "a standing copy with an orientation its kind lacks"; ns: how many orientations each kind has
unfoldable pub orientation_fits : List ℕ → Standing → Bool
orientation_fits ns c = ltb c.orientation (get_or ns c.copy.kind 0)

-- "a position not finite or beyond ±1,000,000"
unfoldable pub position_fits : Standing → Bool
position_fits c = bounded c.x && bounded c.y

-- equal lists of doubles; minus zero is zero
abbrev pub same_doubles : List Float → List Float → Bool
same_doubles = same eq

-- ", or strips that are not its orientation's moved to its position": the placed strips are those of the standing copies, in order, and no others
unfoldable pub copies_fit : Job → Planner → List Standing → List Float → Bool
copies_fit j p cs standing = every (λ c. orientation_fits (orientation_counts j) c && position_fits c) cs && same_doubles standing (standing_strips p cs)

-- ---- document 02, W3: "a false bucket number is 31"

-- the sheet's strips in the room
unfoldable pub sheet_strips_of : State → Rooms → List Float
sheet_strips_of s w = take (6 * s.tables.sheet_strips) w.sheet

-- the placed copies' strips in the room
unfoldable pub placed_strips_of : State → Rooms → List Float
placed_strips_of s w = take (6 * s.placed_strips) w.placed

-- the bucket numbers of the strips of a part
unfoldable pub firsts_for : Rect → List Float → List ℕ
firsts_for b strips = firsts_of (sheet_index b) strips (capacity strips)

-- "true for every standing strip", sheet and placed
unfoldable pub firsts_fit : State → Rooms → Bool
firsts_fit s w =
    numbers_lie (firsts_for s.tables.sheet_bounds (sheet_strips_of s w)) w.sheet_firsts
    && numbers_lie (firsts_for s.tables.sheet_bounds (placed_strips_of s w)) w.placed_firsts

-- ---- all of them

-- "a single step's state and rooms disagree": 31 where one of the named tests fails
unfoldable pub consistent : Job → State → Rooms → Bool
consistent j s w =
    let p = planner_at j s.tables w in
    let standing = placed_strips_of s w in
    taken_fits j s
    && (strip_counts_fit s.tables s.placed_strips w
    && (parts_fit j s.tables w
    && (rearranged j (order_of j s)
    && (planner_fits p
    && (strips_fit standing
    && (layout_fits s.layout.right s.layout.unplaced_area
    && (gaps_fit s
    && (track_table_fits p s.taken p.shapes (tracks_of j s)
    && (copies_fit j p (standing_of s) standing
    && (entries_fit p w standing
    && firsts_fit s w))))))))))
