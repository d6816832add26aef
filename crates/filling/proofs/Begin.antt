-- An accepted start: state and rooms are those of the job's own planner. Assumes nothing.
use Rattle.std.specs.Prelude.{Result, Ok, Err}
use mathlib.Core.Path.{◌≡◌, refl, sym, ap, ap₂, subst, ◌∙◌}
use mathlib.Core.Logic.{◌⊎◌, inl, inr}
use mathlib.Core.Bool.{Bool, true, false, not, ◌&&◌}
use mathlib.Core.List.{List, [], ◌∷◌, ◌++◌, map, flat_map, append-nil, append_assoc}
use Prim.Native.Nat.{ℕ, zero, suc, ◌+◌, ◌*◌, ◌/◌, ◌%◌, ◌≤◌, ◌<◌, min}
use native.Mathlib.Omega.{arith}
use lib.ListN.{length, get_or, take, drop, replicate, length-append, length-map, length-replicate, get_or-replicate, get_or-map, get_or-eq_default}
use lib.Seq.{take_at, drop_at}
use lib.Dec.{ltb, eqb, eqb→eq, nltb→le}
use lib.Ieee.{Float}
use borrow.Author.Tests.{lt-ltb, le-leb}
use Rattle.numbers.proofs.Truth.{below_or_not, clash, both_first}
use Rattle.numbers.specs.Numbers.{pos_zero}
use Rattle.trapezoid.specs.Strip.{capacity, part_of}
use Rattle.index.specs.Buckets.{strip_numbers, standing_capacity}
use Rattle.index.proofs.Standing.{standing-few}
use Rattle.kinds.specs.Kinds.{Orientation, Kind}
use Rattle.frames.specs.declared.Frame.{Frame}
use Rattle.frames.specs.Frames.{framed}
use Rattle.job.specs.Jobs.{Job, frame_of, accepted, read_job}
use Rattle.filling.specs.declared.Refusal.{Refusal}
use Rattle.filling.specs.declared.Refusal.TheVariants as Why
use Rattle.filling.specs.Shapes.{Shape, Planner, planner_of, set_strips, shape_for, no_shape, shape_of, copies_from, standing_strips}
use Rattle.filling.specs.Search.{column, Track}
use Rattle.filling.specs.Rooms.{Rooms, Lent, laid, zeros}
use Rattle.filling.specs.Order.{rearranged, in_full}
use Rattle.filling.specs.State.{by_slot, slot_shape, orientation_counts, slot_rows, part_at, bounds_at, apart_room, inset_room, shape_at, planner_at, order_of, standing_to, standing_of, without_to, without_of, remembered_of, track_at, tracks_of, empty_layout}
use Rattle.filling.specs.Consistent.{part_fits, parts_fit, strip_counts_fit, placed_strips_of, firsts_for}
use Rattle.filling.specs.Start.{apart_strips_of, inset_strips, tables_of, first_state, first_rooms, prepare_verdict, start_verdict, Start, no_start, good_start, start_job, start_given, start_of}
use Rattle.filling.proofs.Reading.{Sixfold, sixfold_nil, sixfold_flat, sixfold_all, AllSixfold, take-laid, length-firsts_for, get_d_by_slot, length-by_slot, bounds_slot, starts, starts-within, laid-long, rows-every, part-read, part_slot, rows-read, slot_kind, slot_turn, sixteen_get, to_come}
use Rattle.filling.proofs.Sizes.{Sized}
use Rattle.filling.proofs.Steps.{Linked, refused≢accepted, later_accepted}

-- ---- a job's strips are six numbers each

module _ {A B : Type 0} (f : A → B) (P : B → Type 0) (h : (a : A) → P (f a)) (d : B) (hd : P d) where
  get_all : (as' : List A) (i : ℕ) → P (get_or (map f as') i d)
  get_all [] i = hd
  get_all (a ∷ as') zero = h a
  get_all (a ∷ as') (suc i) = get_all as' i

record SixfoldShape (s : Shape) : Type 0 where
  apart : Sixfold s.apart
  inset : Sixfold s.inset

set_sixfold : (sheet : Bool) (s : _) → Sixfold (set_strips sheet s)
unfolding set_strips
set_sixfold sheet s = sixfold_flat _

shape_sixfold : (f : Frame) (o : Orientation) → SixfoldShape (shape_for f o)
unfolding shape_for
shape_sixfold f o = record { apart = set_sixfold false (framed f o.apart); inset = set_sixfold false (framed f o.inset) }

none_sixfold : SixfoldShape no_shape
unfolding no_shape
none_sixfold = record { apart = sixfold_nil; inset = sixfold_nil }

slot_sixfold : (j : Job) (i : ℕ) → SixfoldShape (slot_shape (planner_of j) i)
unfolding slot_shape shape_of planner_of
slot_sixfold j i =
    subst (λ (row : List Shape). SixfoldShape (get_or row (i % 16) no_shape)) (sym (get_or-map (λ k. map (shape_for (frame_of j.header)) k.orientations)
    j.kinds (i / 16) no_kind))
    (get_all (shape_for (frame_of j.header)) SixfoldShape (shape_sixfold (frame_of j.header)) no_shape none_sixfold
    (get_or j.kinds (i / 16) no_kind).orientations (i % 16))
  where
    no_kind : Kind
    no_kind = record { quantity = 0; fill = false; priority = lib.IntN.pos 0; area = pos_zero; orientations = [] }

sheet_sixfold : (j : Job) → Sixfold (planner_of j).sheet
unfolding planner_of
sheet_sixfold j = set_sixfold true (framed (frame_of j.header) j.sheet)

-- ---- the shapes are read back

module _ (j : Job) (w : Rooms) where
  abbrev P : Planner
  P = planner_of j

  abbrev Slots : List Shape
  Slots = by_slot (slot_shape (planner_of j))

  abbrev Room : List Float
  Room = (first_rooms (planner_of j) w).shapes

  slot_at : (i : ℕ) → i < 1024 → get_or Slots i no_shape ≡ slot_shape (planner_of j) i
  slot_at i h = get_d_by_slot (slot_shape (planner_of j)) i no_shape h

  in_slots : (i : ℕ) → i < length Slots → i < 1024
  in_slots i h = let l = length-by_slot (slot_shape (planner_of j)) in omega arith

  apart_all : AllSixfold (λ s. s.apart) Slots
  apart_all i h = rw (slot_at i (in_slots i h)) (slot_sixfold j i).apart

  inset_all : AllSixfold (λ s. s.inset) Slots
  inset_all i h = rw (slot_at i (in_slots i h)) (slot_sixfold j i).inset

  apart_sixfold : Sixfold (apart_strips_of (planner_of j))
  unfolding apart_strips_of
  apart_sixfold = sixfold_all (λ s. s.apart) Slots apart_all

  Rest : List Float
  Rest = drop (length (apart_strips_of (planner_of j) ++ inset_strips (planner_of j))) (zeros pos_zero w.shapes)

  room_is : Room ≡ apart_strips_of (planner_of j) ++ (inset_strips (planner_of j) ++ Rest)
  unfolding first_rooms laid Rest
  room_is = append_assoc (apart_strips_of (planner_of j)) (inset_strips (planner_of j)) _

  pub apart-room : apart_room (tables_of (planner_of j)) Room ≡ apart_strips_of (planner_of j)
  unfolding apart_room tables_of
  apart-room = ap (take (6 * capacity (apart_strips_of (planner_of j)))) room_is ∙ take_at (apart_strips_of (planner_of j)) (inset_strips (planner_of j) ++ Rest)
      (6 * capacity (apart_strips_of (planner_of j))) apart_sixfold

  inset-room : inset_room (tables_of (planner_of j)) Room ≡ inset_strips (planner_of j) ++ Rest
  unfolding inset_room tables_of
  inset-room = ap (drop (6 * capacity (apart_strips_of (planner_of j)))) room_is ∙ drop_at (apart_strips_of (planner_of j)) (inset_strips (planner_of j) ++ Rest)
      (6 * capacity (apart_strips_of (planner_of j))) apart_sixfold

  part_is : (i : ℕ) → i < 1024
      → part_at (tables_of (planner_of j)).parts i
      ≡ record {
        apart_start = starts (λ s. s.apart) 0 Slots i;
        apart_count = capacity (get_or Slots i no_shape).apart;
        inset_start = starts (λ s. s.inset) 0
            Slots i;
        inset_count = capacity (get_or Slots i no_shape).inset;
      }
  unfolding tables_of
  part_is i h = let l = length-by_slot (slot_shape (planner_of j)) in part_slot Slots i (omega arith)

  -- the apart strips of slot i lie in the room where its part says, whatever follows them
  pub apart-lies : (i : ℕ) → i < 1024 → (rest : List Float)
      → let q = part_at (tables_of (planner_of j)).parts i in part_of (apart_strips_of (planner_of j) ++ rest) q.apart_start q.apart_count ≡ (slot_shape
      (planner_of j) i).apart
  apart-lies i h rest = let l = length-by_slot (slot_shape (planner_of j)) in rw (part_is i h) (read l)
    where
      read : length Slots ≡ 1024
          → part_of (apart_strips_of (planner_of j) ++ rest) (starts (λ s. s.apart) 0 Slots i) (capacity (get_or Slots i no_shape).apart) ≡ (slot_shape (planner_of j)
          i).apart
      read l = unfold apart_strips_of in (part-read (λ s. s.apart) Slots 0 [] rest i refl apart_all (omega arith) ∙ ap (λ s. s.apart) (slot_at i h))

  apart-read : (i : ℕ) → i < 1024 → part_of (apart_room (tables_of (planner_of j)) Room) (part_at (tables_of (planner_of j)).parts i).apart_start
      (part_at (tables_of (planner_of j)).parts i).apart_count ≡ (slot_shape (planner_of j) i).apart
  apart-read i h = rw (apart-room ∙ sym (append-nil (apart_strips_of (planner_of j)))) (apart-lies i h [])

  inset-read : (i : ℕ) → i < 1024 → part_of (inset_room (tables_of (planner_of j)) Room) (part_at (tables_of (planner_of j)).parts i).inset_start
      (part_at (tables_of (planner_of j)).parts i).inset_count ≡ (slot_shape (planner_of j) i).inset
  inset-read i h =
      let l = length-by_slot (slot_shape (planner_of j)) in
      rw (part_is i h, inset-room) (read l)
    where
      read : length Slots ≡ 1024 → part_of (inset_strips (planner_of j) ++ Rest) (starts (λ s. s.inset) 0 Slots i) (capacity (get_or Slots i no_shape).inset) ≡
          (slot_shape (planner_of j) i).inset
      read l = unfold inset_strips in (part-read (λ s. s.inset) Slots 0 [] Rest i refl inset_all (omega arith) ∙ ap (λ s. s.inset) (slot_at i h))

  bounds-read : (i : ℕ) → i < 1024 → bounds_at (tables_of (planner_of j)).inset_bounds i ≡ (slot_shape (planner_of j) i).bounds
  unfolding tables_of
  bounds-read i h = let l = length-by_slot (slot_shape (planner_of j)) in bounds_slot Slots i (omega arith) ∙ ap (λ s. s.bounds) (slot_at i h)

  pub shape_read : (i : ℕ) → i < 1024 → shape_at (tables_of (planner_of j)) Room i ≡ slot_shape (planner_of j) i
  unfolding shape_at
  shape_read i h = rw (apart-read i h, inset-read i h, bounds-read i h)

  -- every orientation's strips lie within their part of the room
  apart-within : (i : ℕ) → i < length Slots → starts (λ s. s.apart) 0 Slots i + capacity (get_or Slots i no_shape).apart ≤ capacity (apart_strips_of (planner_of j))
  unfolding apart_strips_of
  apart-within i h = let a = starts-within (λ s. s.apart) Slots 0 i apart_all h in omega arith

  inset-within : (i : ℕ) → i < length Slots → starts (λ s. s.inset) 0 Slots i + capacity (get_or Slots i no_shape).inset ≤ capacity
      (inset_strips (planner_of j) ++ Rest)
  unfolding inset_strips capacity
  inset-within i h =
      let a = starts-within (λ s. s.inset) Slots 0 i inset_all h in
      let b = length-append (flat_map (λ s. s.inset) Slots) Rest in
      omega arith

  pub part-fits : (i : ℕ) → i < 1024 → part_fits (capacity (apart_room (tables_of (planner_of j)) Room)) (capacity (inset_room (tables_of (planner_of j)) Room))
      (part_at (tables_of (planner_of j)).parts i) ≡ true
  unfolding part_fits
  part-fits i h =
      let l = length-by_slot (slot_shape (planner_of j)) in
      let a = le-leb (starts (λ s. s.apart) 0 Slots i + capacity (get_or Slots i no_shape).apart) (capacity (apart_strips_of (planner_of j)))
      (apart-within i (omega arith)) in
      let b = le-leb (starts (λ s. s.inset) 0 Slots i + capacity (get_or Slots i no_shape).inset) (capacity (inset_strips (planner_of j) ++ Rest))
      (inset-within i (omega arith)) in
      rw (part_is i h, apart-room, inset-room) (ap₂ ◌&&◌ a b)

  pub sheet-read : take (6 * (tables_of (planner_of j)).sheet_strips) (first_rooms (planner_of j) w).sheet ≡ (planner_of j).sheet
  unfolding tables_of first_rooms
  sheet-read = take-laid (planner_of j).sheet (zeros pos_zero w.sheet) (6 * capacity (planner_of j).sheet) (sheet_sixfold j)

turns_are : (j : Job) → orientation_counts j ≡ map length (planner_of j).shapes
unfolding orientation_counts planner_of
turns_are j = go j.kinds
  where
    go : (ks : List Kind) → map (λ k. length k.orientations) ks ≡ map length (map (λ k. map (shape_for (frame_of j.header)) k.orientations) ks)
    go [] = refl
    go (k ∷ ks) = ap₂ ◌∷◌ (sym (length-map k.orientations (shape_for (frame_of j.header)))) (go ks)

module _ (j : Job) (z : Sized j) where
  -- a slot of the job's lies within the table
  pub within : (i o : ℕ) → i < length (planner_of j).shapes → o < length (get_or (planner_of j).shapes i []) → (o < 16) × (16 * i + o < 1024)
  unfolding orientation_counts
  within i o a b =
      let t = sixteen_get z.turns i in
      let g : get_or (orientation_counts j) i 0 ≡ length (get_or (planner_of j).shapes i []) = ap (λ l. get_or l i 0) (turns_are j) ∙ get_or-map length
      (planner_of j).shapes i [] in
      let n : length (orientation_counts j) ≡ length (planner_of j).shapes = ap length (turns_are j) ∙ length-map (planner_of j).shapes length in
      let m : length (orientation_counts j) ≡ length j.kinds = length-map j.kinds (λ k. length k.orientations) in
      let k = z.kinds in
      (omega arith, omega arith)

  -- an orientation that no slot is for has no strips
  pub lacking : (i o : ℕ) → ltb i 64 && ltb o 16 ≡ false → shape_of (planner_of j) i o ≡ no_shape
  unfolding shape_of
  lacking i o e = kind (below_or_not i (length (planner_of j).shapes))
    where
      turn : i < length (planner_of j).shapes
          → (o < length (get_or (planner_of j).shapes i [])) ⊎ (length (get_or (planner_of j).shapes i []) ≤ o) → shape_of (planner_of j) i o ≡ no_shape
      turn h (inr l) = get_or-eq_default (get_or (planner_of j).shapes i []) no_shape l
      turn h (inl l) =
          let f = within i o h l in
          let g : i < 64 = (let a = f.1 in omega arith) in
          absurd (clash (ap₂ ◌&&◌ (lt-ltb i 64 g) (lt-ltb o 16 f.0)) e)

      kind : (i < length (planner_of j).shapes) ⊎ (length (planner_of j).shapes ≤ i) → shape_of (planner_of j) i o ≡ no_shape
      kind (inr l) = ap (λ (row : List Shape). get_or row o no_shape) (get_or-eq_default (planner_of j).shapes [] l)
      kind (inl l) = turn l (below_or_not o (length (get_or (planner_of j).shapes i [])))

  shapes-read : (w : Rooms) → slot_rows (shape_at (tables_of (planner_of j)) (first_rooms (planner_of j) w).shapes) 0 (orientation_counts j) ≡ (planner_of j).shapes
  unfolding slot_shape shape_of
  shapes-read w =
      ap (slot_rows (shape_at (tables_of (planner_of j)) (first_rooms (planner_of j) w).shapes) 0) (turns_are j)
      ∙ rows-read (shape_at (tables_of (planner_of j)) (first_rooms (planner_of j) w).shapes) no_shape 0 (planner_of j).shapes
      (λ i o a b.
      let e : 16 * (0 + i) + o ≡ 16 * i + o = omega arith in
      let f = within i o a b in
      ap (shape_at (tables_of (planner_of j)) (first_rooms (planner_of j) w).shapes) e
      ∙ shape_read j w (16 * i + o) f.1
      ∙ ap₂ (shape_of (planner_of j)) (slot_kind i o f.0) (slot_turn i o f.0))

  planner_read : (w : Rooms) → planner_at j (tables_of (planner_of j)) (first_rooms (planner_of j) w) ≡ planner_of j
  unfolding planner_at tables_of planner_of
  planner_read w = rw (sheet-read j w, shapes-read w)

  pub first-parts : (w : Rooms) → parts_fit j (tables_of (planner_of j)) (first_rooms (planner_of j) w) ≡ true
  unfolding parts_fit
  first-parts w =
      let m : length (orientation_counts j) ≡ length j.kinds = unfold orientation_counts in length-map j.kinds (λ k. length k.orientations) in
      let k = z.kinds in
      rows-every (part_at (tables_of (planner_of j)).parts) (part_fits (capacity (apart_room (tables_of (planner_of j)) (first_rooms (planner_of j) w).shapes))
      (capacity (inset_room (tables_of (planner_of j)) (first_rooms (planner_of j) w).shapes))) 0 (orientation_counts j) z.turns (omega arith) (part-fits j w)

  pub first-counts : (w : Rooms) → capacity (planner_of j).sheet ≤ strip_numbers → strip_counts_fit (tables_of (planner_of j)) 0 (first_rooms (planner_of j) w) ≡ true
  unfolding strip_counts_fit tables_of first_rooms standing_capacity capacity
  first-counts w f =
      let p = planner_of j in
      let a = laid-long p.sheet (zeros pos_zero w.sheet) in
      let b = laid-long (apart_strips_of p ++ inset_strips p) (zeros pos_zero w.shapes) in
      let c = length-append (apart_strips_of p) (inset_strips p) in
      let d = laid-long (firsts_for p.bounds p.sheet) (zeros 0 w.sheet_firsts) in
      let e : length (firsts_for p.bounds p.sheet) ≡ length p.sheet / 6 = length-firsts_for p.bounds p.sheet in
      rw (
        le-leb (length p.sheet / 6) (min (min (length (laid p.sheet (zeros pos_zero w.sheet)) / 6)
            (length (laid (firsts_for p.bounds p.sheet) (zeros 0 w.sheet_firsts)))) strip_numbers) (omega arith),
        le-leb (length (apart_strips_of p) / 6) (length (laid (apart_strips_of p ++ inset_strips p) (zeros pos_zero w.shapes)) / 6) (omega arith),
        le-leb 0 (min (min (length (zeros pos_zero w.placed) / 6) (length (zeros 0 w.placed_firsts))) strip_numbers) (omega arith),
      )

  pub tracks_read : (order : List ℕ) → tracks_of j (first_state (planner_of j) order) ≡ map (map (λ s. record { next_column = column 0; look_count = 0 }))
      (planner_of j).shapes
  unfolding tracks_of first_state track_at remembered_of
  tracks_read order =
      ap (slot_rows (track_at (replicate 1024 1) (replicate 1024 0)) 0) (turns_are j ∙ lengths (planner_of j).shapes)
      ∙ rows-read (track_at (replicate 1024 1) (replicate 1024 0)) new 0 rows pointwise
    where
      new : Track
      new = record { next_column = column 0; look_count = 0 }

      rows : List (List Track)
      rows = map (map (λ s. record { next_column = column 0; look_count = 0 })) (planner_of j).shapes

      lengths : (sss : List (List Shape)) → map length sss ≡ map length (map (map (λ s. new)) sss)
      lengths [] = refl
      lengths (ss ∷ sss) = ap₂ ◌∷◌ (sym (length-map ss (λ s. new))) (lengths sss)

      row : (i : ℕ) → get_or rows i [] ≡ map (λ s. new) (get_or (planner_of j).shapes i [])
      row i = get_or-map (map (λ s. new)) (planner_of j).shapes i []

      pointwise : (i o : ℕ) → i < length rows → o < length (get_or rows i []) → track_at (replicate 1024 1) (replicate 1024 0) (16 * (0 + i) + o) ≡ get_or
          (get_or rows i []) o new
      pointwise i o a b =
          let e : 16 * (0 + i) + o ≡ 16 * i + o = omega arith in
          let m : length rows ≡ length (planner_of j).shapes = length-map (planner_of j).shapes (map (λ s. new)) in
          let n : length (get_or rows i []) ≡ length (get_or (planner_of j).shapes i []) = ap length (row i) ∙ length-map (get_or (planner_of j).shapes i [])
          (λ s. new) in
          let f = within i o (omega arith) (omega arith) in
          let g : get_or (get_or rows i []) o new ≡ new = ap (λ l. get_or l o new) (row i) ∙ get_or-map (λ s. new) (get_or (planner_of j).shapes i []) o no_shape in
          ap (track_at (replicate 1024 1) (replicate 1024 0)) e ∙ rw (
            get_or-replicate {A = ℕ} 1024 (16 * i + o) 1 0 f.1,
            get_or-replicate {A = ℕ} 1024
                (16 * i + o) 0 0 f.1,
          ) (sym g)

  module _ (order : List ℕ) (w : Rooms) where
    pub first_linked : Linked j (first_state (planner_of j) order) (first_rooms (planner_of j) w)
    unfolding first_state empty_layout standing_of standing_to placed_strips_of standing_strips flat_map
    first_linked =
        record {
          plan = planner_read w;
          stand = refl;
          numbers = length-replicate {A = ℕ} 4096 0;
          xs = length-replicate 4096 pos_zero;
          ys = length-replicate 4096 pos_zero;
          gaps = length-replicate 4096 pos_zero;
          next-columns = length-replicate {A = ℕ} 1024 1;
          look_counts = length-replicate {A = ℕ} 1024 0;
        }

  module _ (order : List ℕ) (e : length order ≡ j.copies) where
    pub first-order : order_of j (first_state (planner_of j) order) ≡ order
    unfolding first_state order_of laid
    first-order = take_at order (drop (length order) (replicate 4096 0)) j.copies e

    pub first_to_come : to_come j (first_state (planner_of j) order) ≡ copies_from 0 order
    unfolding to_come first_state
    first_to_come = ap (copies_from 0) first-order

    pub first-standing : standing_of (first_state (planner_of j) order) ≡ []
    unfolding standing_of standing_to first_state
    first-standing = refl

    pub first-without : without_of (first_state (planner_of j) order) ≡ []
    unfolding without_of without_to first_state
    first-without = refl

-- ---- what an accepted start was

pub rearranged-length : (j : Job) (order : List ℕ) → rearranged j order ≡ true → length order ≡ j.copies
unfolding rearranged
rearranged-length j order e = eqb→eq (length order) j.copies (rw (both_first (eqb (length order) j.copies) (in_full 0 j.kinds order) e) tt)

pub record Begun (j : Job) (order : List ℕ) (l : Lent) : Type 0 where
  pub rearranges : rearranged j order ≡ true
  pub prepared : prepare_verdict (planner_of j) l.rooms ≡ Ok tt

pub begun : (j : Job) (order : List ℕ) (l : Lent) → start_verdict j order l ≡ Ok tt → Begun j order l
unfolding start_verdict
begun j order l e =
    let a = (later_accepted _ Why.PositionRoom _ e).1 in
    let b = later_accepted (not (rearranged j order)) Why.WrongOrder _ a in
    record { rearranges = back (rearranged j order) b.0; prepared = b.1 }
  where
    back : (t : Bool) → not t ≡ false → t ≡ true
    back true q = refl
    back false q = sym q

-- an accepted start's sheet has at most as many strips as its room is used for
pub prepared-few : (p : Planner) (w : Rooms) → prepare_verdict p w ≡ Ok tt → capacity p.sheet ≤ strip_numbers
unfolding prepare_verdict
prepared-few p w e =
    let n = standing_capacity w.sheet w.sheet_firsts in
    let a = (later_accepted (ltb n (capacity p.sheet)) Why.StripRoom _ e).0 in
    standing-few (capacity p.sheet) w.sheet w.sheet_firsts (nltb→le n (capacity p.sheet) (rw a tt))

pub record Started (j : Job) (order : List ℕ) (l : Lent) (r : Start) : Type 0 where
  pub verdict_is : start_verdict j order l ≡ Ok tt
  pub state_is : r.state ≡ first_state (planner_of j) order
  pub rooms_is : r.lent.rooms ≡ first_rooms (planner_of j) l.rooms

module _ (j : Job) (order : List ℕ) (l : Lent) where
  pub start-refused : (k : Refusal) → start_verdict j order l ≡ Err k → start_job j order l ≡ no_start k l
  unfolding start_job
  start-refused k e = rw (e, start_job)

  pub start-good : start_verdict j order l ≡ Ok tt → start_job j order l ≡ good_start (planner_of j) order l
  unfolding start_job
  start-good e = rw (e, start_job)

  job_started : (start_job j order l).verdict ≡ Ok tt → Started j order l (start_job j order l)
  unfolding good_start no_start
  job_started e = go (start_verdict j order l) refl
    where
      go : (v : Result (Unit {0}) Refusal) → start_verdict j order l ≡ v → Started j order l (start_job j order l)
      go (Err k) d = absurd (refused≢accepted (sym (ap (λ r. r.verdict) (start-refused k d)) ∙ e))
      go (Ok tt) d = record { verdict_is = d; state_is = ap (λ r. r.state) (start-good d); rooms_is = ap (λ r. r.lent.rooms) (start-good d) }

pub start-accepted : (bytes order : List ℕ) (l : Lent) (j : Job) → read_job bytes ≡ accepted j → (start_of bytes order l).verdict ≡ Ok tt → Started j order l
    (start_of bytes order l)
unfolding start_of start_given
start-accepted bytes order l j d e = rw d (job_started j order l (rw d at e))
