-- A state and rooms that refusal 31 lets pass hold what placing the next copy requires. Assumes nothing.
use Prim.Native.Nat.{ℕ, suc, ◌+◌, ◌*◌, ◌/◌, ◌^◌, ◌<◌, ◌≤◌}
use native.Mathlib.Omega.{arith}
use mathlib.Core.Path.{◌≡◌, subst, subst⁻¹}
use mathlib.Core.Bool.{Bool, true, false}
use mathlib.Core.List.{List}
use lib.ListN.{length, get_or, take}
use lib.Seq.{length-take-le}
use lib.Dec.{T, leb}
use lib.Ieee.{Float, binary64, fits}
use borrow.Author.Tests.{leb-true}
use Rattle.numbers.proofs.Truth.{both_first, both_second}
use Rattle.numbers.proofs.Doubles.{k, o, u}
use Rattle.numbers.proofs.Literals.{milli}
use Rattle.trapezoid.specs.Strip.{strip_at, capacity}
use Rattle.index.specs.Buckets.{standing_capacity}
use Rattle.index.proofs.Standing.{standing-within}
use Rattle.index.proofs.FirstBuckets.{firsts_moved}
use Rattle.strips.specs.declared.Rect.{Rect}
use Rattle.index.specs.inner.Listing.{Laid, FirstBuckets, Bounded, Fair}
use Rattle.index.specs.declared.Index.{Index}
use Rattle.index.proofs.NewIndex.{new_fair, laid-after}
use Rattle.look.specs.inner.Ready.{BoundedStrip, BoundedStrips}
use Rattle.bits.proofs.Accepted.{UpFrom}
use Rattle.job.specs.Jobs.{Job}
use Rattle.filling.specs.declared.State.{State}
use Rattle.filling.specs.Shapes.{Shape, Planner}
use Rattle.filling.specs.Search as Filling
use Rattle.filling.specs.Search.{ranges_of, reversed_for}
use Rattle.filling.specs.Columns.{ranges, last_column}
use Rattle.filling.specs.Rooms.{Rooms}
use Rattle.filling.specs.Order.{rearranged}
use Rattle.filling.specs.State as States
use Rattle.filling.specs.State.{orientation_counts, apart_room, inset_room, shape_at, planner_at, order_of, track_at, tracks_of, standing_of}
use Rattle.filling.specs.Consistent.{every, strips_fit, bounds_fit, taken_fits, strip_counts_fit, parts_fit, column_fits, track_fits, track_table_fits, resolution_fits, shape_fits, planner_fits, layout_fits, gaps_fit, copies_fit, entries_fit, firsts_fit, sheet_index, placed_strips_of, consistent}
use Rattle.search.specs.columns.inner.Stands.{columns_of}
use Rattle.search.proofs.columns.Same as Same
use Rattle.search.proofs.columns.Steps.{last-bound}
use Rattle.search.proofs.columns.Sizes.{BoundedRect, y_low-bounded, y_high-bounded, few-columns}
use Rattle.choose.specs.inner.Choosing.{part_at, bounds_at, inset_part, apart_part, surroundings}
use Rattle.store.proofs.Strips.{prefix_strip}
use Rattle.place.specs.inner.Standing.{Standing, Fixed}
use Rattle.filling_laws.proofs.ReadyNumbers.{RectFits, bounds_are, resolution_is, resolving}
use Rattle.filling_laws.proofs.ReadyColumns.{column-bounded}
use Rattle.filling_laws.proofs.ReadyStrips.{AllFit, take-fit, drop-fit, part-fit, strips_are, slots-every, slots_track}

-- every float of a state and of the strip rooms is a double: so are all that code holds
pub record InDoubles (s : State) (w : Rooms) : Type 0 where
  pub resolution : T (fits binary64 s.tables.resolution)
  pub sheet_bounds : RectFits s.tables.sheet_bounds
  pub inset_bounds : AllFit s.tables.inset_bounds
  pub shapes : AllFit w.shapes
  pub sheet : AllFit w.sheet
  pub placed : AllFit w.placed

-- an orientation's last column
last-few : (p : Planner) (s : Shape) → BoundedRect p.bounds → BoundedRect s.bounds → UpFrom milli 10000 p.resolution → Filling.last_of p s ≤ 4000000001
unfolding Filling.last_of ranges_of
last-few p s P S R = go (reversed_for p s)
  where
    go : (t : Bool) → elim t [ true ↦ 0 | false ↦ last_column p.resolution (ranges p.bounds s.bounds) ] ≤ 4000000001
    go true = omega arith
    go false = subst (λ (n : ℕ). n ≤ 4000000001) (Same.last-same p.bounds s.bounds p.resolution) (last-bound (columns_of p.bounds s.bounds p.resolution) (few-columns p.bounds s.bounds p.resolution P S (resolving R)))

bounded_more : {x : Float} → Bounded 1000000 x → Bounded 4000000 x
bounded_more {x} B = record { fine = B.fine; bound = record { at_least = y (k x) u B.bound.at_least; at_most = z (k x) u B.bound.at_most } }
  where
    y : (a u : ℕ) → o ≤ a + 1000000 * u → o ≤ a + 4000000 * u
    y a u h = omega arith

    z : (a u : ℕ) → a ≤ o + 1000000 * u → a ≤ o + 4000000 * u
    z a u h = omega arith

-- ---- the tests, one by one
pub record Tests (j : Job) (s : State) (w : Rooms) : Type 0 where
  pub taken : taken_fits j s ≡ true
  pub counts : strip_counts_fit s.tables s.placed_strips w ≡ true
  pub parts : parts_fit j s.tables w ≡ true
  pub order : rearranged j (order_of j s) ≡ true
  pub planner : planner_fits (planner_at j s.tables w) ≡ true
  pub strips : strips_fit (placed_strips_of s w) ≡ true
  pub layout : layout_fits s.layout.right s.layout.unplaced_area ≡ true
  pub tracks : track_table_fits (planner_at j s.tables w) s.taken (planner_at j s.tables w).shapes (tracks_of j s) ≡ true
  pub copies : copies_fit j (planner_at j s.tables w) (standing_of s) (placed_strips_of s w) ≡ true
  pub entries : entries_fit (planner_at j s.tables w) w (placed_strips_of s w) ≡ true
  pub firsts : firsts_fit s w ≡ true

pub tests_of : (j : Job) (s : State) (w : Rooms) → consistent j s w ≡ true → Tests j s w
unfolding consistent
tests_of j s w e =
    let p = planner_at j s.tables w in
    let e1 = both_second (taken_fits j s) _ e in
    let e2 = both_second (strip_counts_fit s.tables s.placed_strips w) _ e1 in
    let e3 = both_second (parts_fit j s.tables w) _ e2 in
    let e4 = both_second (rearranged j (order_of j s)) _ e3 in
    let e5 = both_second (planner_fits p) _ e4 in
    let e6 = both_second (strips_fit (placed_strips_of s w)) _ e5 in
    let e7 = both_second (layout_fits s.layout.right s.layout.unplaced_area) _ e6 in
    let e8 = both_second (gaps_fit s) _ e7 in
    let e9 = both_second (track_table_fits p s.taken p.shapes (tracks_of j s)) _ e8 in
    let e10 = both_second (copies_fit j p (standing_of s) (placed_strips_of s w)) _ e9 in
    record {
      taken = both_first (taken_fits j s) _ e;
      counts = both_first (strip_counts_fit s.tables s.placed_strips w) _ e1;
      parts = both_first (parts_fit j s.tables w) _ e2;
      order = both_first (rearranged j (order_of j s)) _ e3;
      planner = both_first (planner_fits p) _ e4;
      strips = both_first (strips_fit (placed_strips_of s w)) _ e5;
      layout = both_first (layout_fits s.layout.right s.layout.unplaced_area) _ e6;
      tracks = both_first (track_table_fits p s.taken p.shapes (tracks_of j s)) _ e8;
      copies = both_first (copies_fit j p (standing_of s) (placed_strips_of s w)) _ e9;
      entries = both_first (entries_fit p w (placed_strips_of s w)) _ e10;
      firsts = both_second (entries_fit p w (placed_strips_of s w)) _ e10;
    }

-- what the planner's test says
pub record PlannerTests (p : Planner) : Type 0 where
  pub resolution : resolution_fits p.resolution ≡ true
  pub sheet : strips_fit p.sheet ≡ true
  pub bounds : bounds_fit p.bounds ≡ true
  pub shapes : every (every shape_fits) p.shapes ≡ true

planner_tests : (p : Planner) → planner_fits p ≡ true → PlannerTests p
unfolding planner_fits
planner_tests p e =
    let e1 = both_second (resolution_fits p.resolution) _ e in
    let e2 = both_second (strips_fit p.sheet) _ e1 in
    record {
      resolution = both_first (resolution_fits p.resolution) _ e;
      sheet = both_first (strips_fit p.sheet) _ e1;
      bounds = both_first (bounds_fit p.bounds) _ e2;
      shapes = both_second (bounds_fit p.bounds) _ e2;
    }

-- the copies taken are at most the job's
pub taken_upto : (j : Job) (s : State) (w : Rooms) → consistent j s w ≡ true → s.taken ≤ j.copies
unfolding taken_fits
taken_upto j s w e = leb-true s.taken j.copies (tests_of j s w e).taken

-- the strips lie within their rooms
pub record StripsWithin (s : State) (w : Rooms) : Type 0 where
  pub sheet : 6 * s.tables.sheet_strips ≤ length w.sheet
  pub apart : 6 * s.tables.apart_strips ≤ length w.shapes
  pub placed : 6 * s.placed_strips ≤ length w.placed

within-room : (n : ℕ) (room : List Float) → leb n (capacity room) ≡ true → 6 * n ≤ length room
unfolding capacity
within-room n room e = let h : n ≤ length room / 6 = leb-true n (length room / 6) e in omega arith

within-standing : (n : ℕ) (room : List Float) (firsts : List ℕ) → leb n (standing_capacity room firsts) ≡ true → 6 * n ≤ length room
within-standing n room firsts e = standing-within n room firsts (leb-true n (standing_capacity room firsts) e)

pub strips-within : (j : Job) (s : State) (w : Rooms) → consistent j s w ≡ true → StripsWithin s w
unfolding strip_counts_fit
strips-within j s w e =
    let a = (tests_of j s w e).counts in
    let b = both_second (leb s.tables.sheet_strips (standing_capacity w.sheet w.sheet_firsts)) _ a in
    record {
      sheet = within-standing s.tables.sheet_strips w.sheet w.sheet_firsts (both_first (leb s.tables.sheet_strips (standing_capacity w.sheet w.sheet_firsts)) _ a);
      apart = within-room s.tables.apart_strips w.shapes (both_first (leb s.tables.apart_strips (capacity w.shapes)) _ b);
      placed = within-standing s.placed_strips w.placed w.placed_firsts (both_second (leb s.tables.apart_strips (capacity w.shapes)) _ b);
    }

-- the first n strips of a room
taken-strips : (n : ℕ) (room : List Float) → 6 * n ≤ length room → capacity (take (6 * n) room) ≡ n
unfolding capacity
taken-strips n room h = let l = length-take-le (6 * n) room h in let q : length (take (6 * n) room) / 6 ≡ n = omega arith in q

-- entries of the first n strips, told of the room's beginning or of the room
pub laid-whole : (ix : Index) (room : List Float) (n : ℕ) (entries starts : List ℕ) → 6 * n ≤ length room → Laid ix (take (6 * n) room) (capacity (take (6 * n) room)) entries starts → Laid ix room n entries starts
laid-whole ix room n entries starts h L =
    laid-after ix (take (6 * n) room) room n entries starts (subst (λ (m : ℕ). Laid ix (take (6 * n) room) m entries starts) (taken-strips n room h) L) (λ i l. prefix_strip room n i l) h

-- the same of their bucket numbers
pub firsts_whole : (ix : Index) (room : List Float) (n : ℕ) (firsts : List ℕ) → 6 * n ≤ length room
    → FirstBuckets ix (take (6 * n) room) (capacity (take (6 * n) room)) firsts → FirstBuckets ix room n firsts
firsts_whole ix room n firsts h K =
    firsts_moved ix (take (6 * n) room) room n firsts (λ i l. prefix_strip room n i l)
    (subst (λ (m : ℕ). FirstBuckets ix (take (6 * n) room) m firsts) (taken-strips n room h) K)

-- ---- what a slot's search requires
module _ (j : Job) (s : State) (w : Rooms) (e : consistent j s w ≡ true) (D : InDoubles s w) where
  abbrev p : Planner
  p = planner_at j s.tables w

  abbrev bounds : Rect
  bounds = s.tables.sheet_bounds

  abbrev sheet : List Float
  sheet = take (6 * s.tables.sheet_strips) w.sheet

  P : PlannerTests p
  P = planner_tests p (tests_of j s w e).planner

  pub resolution_in : UpFrom milli 10000 s.tables.resolution
  unfolding planner_at
  resolution_in = resolution_is D.resolution P.resolution

  pub bounds_in : BoundedRect bounds
  unfolding planner_at
  bounds_in = bounds_are D.sheet_bounds P.bounds

  pub index_fair : Fair (sheet_index bounds)
  unfolding sheet_index
  index_fair = new_fair bounds.left bounds.right (bounded_more bounds_in.left) (bounded_more bounds_in.right)

  pub sheet_in : BoundedStrips sheet
  unfolding planner_at
  sheet_in = strips_are sheet (take-fit (6 * s.tables.sheet_strips) w.sheet D.sheet) P.sheet

  module _ (k : ℕ) (kind : k < length (orientation_counts j)) (o : ℕ) (turn : o < get_or (orientation_counts j) k 0) where
    abbrev i : ℕ
    i = 16 * k + o

    shape_fits_lem : shape_fits (shape_at s.tables w.shapes i) ≡ true
    unfolding planner_at
    shape_fits_lem = slots-every shape_fits (shape_at s.tables w.shapes) (orientation_counts j) P.shapes k kind o turn

    pub apart_in : BoundedStrips (apart_part (part_at s.tables.parts i) (apart_room s.tables w.shapes))
    unfolding shape_fits shape_at States.part_at part_at apart_room
    apart_in = strips_are _ (part-fit (apart_room s.tables w.shapes) _ _ (take-fit (6 * s.tables.apart_strips) w.shapes D.shapes)) (both_first (strips_fit (shape_at s.tables w.shapes i).apart) _ shape_fits_lem)

    inset_in : BoundedStrips (inset_part (part_at s.tables.parts i) (inset_room s.tables w.shapes))
    unfolding shape_fits shape_at States.part_at part_at inset_room
    inset_in = strips_are _ (part-fit (inset_room s.tables w.shapes) _ _ (drop-fit (6 * s.tables.apart_strips) w.shapes D.shapes))
        (both_first (strips_fit (shape_at s.tables w.shapes i).inset) _ (both_second (strips_fit (shape_at s.tables w.shapes i).apart) _ shape_fits_lem))

    pub shape_bounds : BoundedRect (bounds_at s.tables.inset_bounds i)
    unfolding shape_fits shape_at States.bounds_at bounds_at
    shape_bounds = bounds_are (record { left = D.inset_bounds (4 * i); bottom = D.inset_bounds (4 * i + 1); right = D.inset_bounds (4 * i + 2); top = D.inset_bounds (4 * i + 3) })
        (both_second (strips_fit (shape_at s.tables w.shapes i).inset) _ (both_second (strips_fit (shape_at s.tables w.shapes i).apart) _ shape_fits_lem))

    -- whatever stands and however large the interval room is
    pub ready_fixed : (room : ℕ) (placed : List Float) (sheet_starts : List ℕ) → length s.tables.inset_bounds ≡ 4096 → length s.tables.parts ≡ 4096 → i < 1024
        → Laid (sheet_index bounds) sheet (capacity sheet) w.sheet_entries sheet_starts
        → Fixed (sheet_index bounds) (surroundings room bounds s.tables.resolution s.tables.inset_bounds s.tables.parts (apart_room s.tables w.shapes) (inset_room s.tables w.shapes) sheet placed) w.sheet_entries sheet_starts i
    ready_fixed room placed sheet_starts a b c L =
        let B = shape_bounds in
        let r = s.tables.resolution in
        record {
          index = index_fair;
          sheet_laid = L;
          sheets = sheet_in;
          insets = inset_in;
          aparts = apart_in;
          low = (y_low-bounded bounds (bounds_at s.tables.inset_bounds i) r bounds_in B).fine;
          high = (y_high-bounded bounds (bounds_at s.tables.inset_bounds i) r bounds_in B).fine;
          column = λ n h. column-bounded bounds (bounds_at s.tables.inset_bounds i) r bounds_in B resolution_in n;
          few = few-columns bounds (bounds_at s.tables.inset_bounds i) r bounds_in B (resolving resolution_in);
          bounded = four i (length s.tables.inset_bounds) a c;
          parted = four i (length s.tables.parts) b c;
        }
      where
        four : (i n : ℕ) → n ≡ 4096 → i < 1024 → 4 * i + 4 ≤ n
        four i n e h = omega arith

    -- a look count that a search can still add to
    pub ready-counts : j.copies ≤ 4096 → get_or s.look_counts i 0 + 4000000002 < 2 ^ 64
    unfolding planner_at tracks_of track_fits track_at shape_at States.bounds_at bounds_at
    ready-counts c =
        let t = slots_track p s.taken (shape_at s.tables w.shapes) (track_at s.next_column s.look_counts) (orientation_counts j) (tests_of j s w e).tracks k kind o turn in
        let last = Filling.last_of p (shape_at s.tables w.shapes i) in
        let n = leb-true (get_or s.look_counts i 0) (suc last + s.taken) (both_second (column_fits last (track_at s.next_column s.look_counts i).next_column) _ t) in
        z (get_or s.look_counts i 0) last s.taken j.copies n (last-few p (shape_at s.tables w.shapes i) bounds_in shape_bounds resolution_in) (taken_upto j s w e) c
      where
        z : (n l t m : ℕ) → n ≤ suc l + t → l ≤ 4000000001 → t ≤ m → m ≤ 4096 → n + 4000000002 < 2 ^ 64
        z n l t m a b c d = omega arith

  -- ---- what stands
  placed_in_lem : 6 * s.placed_strips ≤ length w.placed → (i : ℕ) → i < s.placed_strips → BoundedStrip (strip_at w.placed i)
  unfolding placed_strips_of
  placed_in_lem r i h =
      let n = s.placed_strips in
      subst BoundedStrip (prefix_strip w.placed n i h) (strips_are (take (6 * n) w.placed) (take-fit (6 * n) w.placed D.placed) (tests_of j s w e).strips i (subst⁻¹ (λ (m : ℕ). i < m) (taken-strips n w.placed r) h))

  pub ready-standing : (starts : List ℕ) → Laid (sheet_index bounds) w.placed s.placed_strips w.placed_entries starts
      → Standing (sheet_index bounds) w.placed s.placed_strips w.placed_entries starts
  ready-standing starts L = record { laid = L; strips = placed_in_lem L.room }
