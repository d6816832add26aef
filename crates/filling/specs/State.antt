-- The state that a start and every next copy returns, and what it says. A slot is 16 × kind + orientation. Definitions only. Assumes nothing.
use Rattle.std.specs.Prelude.{ℕ, zero, suc, ◌+◌, ◌*◌, ◌/◌, ◌%◌, length, get_or, take, drop, replicate, Float}
use mathlib.Core.List.{List, [], ◌∷◌, ◌++◌, map}
use Rattle.std.specs.Float.{nan}
use Rattle.numbers.specs.Numbers.{pos_zero}
use Rattle.trapezoid.specs.Strip.{part_of}
use Rattle.index.specs.Buckets.{up_from}
use Rattle.strips.specs.declared.Rect.{Rect}
use Rattle.job.specs.Jobs.{Job}
use Rattle.filling.specs.declared.Tables.{Tables}
use Rattle.filling.specs.declared.Layout.{Layout}
use Rattle.filling.specs.declared.State.{State}
use Rattle.filling.specs.Shapes.{Shape, Planner, Copy, Standing, shape_of, no_bounds}
use Rattle.filling.specs.Search.{Remembered, column, none, Track}
use Rattle.filling.specs.Rooms.{Rooms}

-- ---- tables by slot

-- 1,024 slots: 64 kinds of 16 orientations
unfoldable pub by_slot {ℓ} : {A : Type ℓ} → (ℕ → A) → List A
by_slot f = map f (up_from 1024 0)

-- the shape whose slot is i
unfoldable pub slot_shape : Planner → ℕ → Shape
slot_shape p i = shape_of p (i / 16) (i % 16)

-- how many orientations each kind has
unfoldable pub orientation_counts : Job → List ℕ
orientation_counts j = map (λ k. length k.orientations) j.kinds

-- by kind and orientation what f says of the slots; the kinds from k on have so many orientations
unfoldable pub slot_rows {ℓ} : {A : Type ℓ} → (ℕ → A) → ℕ → List ℕ → List (List A)
slot_rows f k [] = []
slot_rows f k (n ∷ ns) = map (λ o. f (16 * k + o)) (up_from n 0) ∷ slot_rows f (suc k) ns

-- ---- where an orientation's strips lie: its apart strips in the room's first part, its inset strips in the rest

-- an orientation's first strip and number of strips, apart and inset
pub record Part : Type 0 where
  pub apart_start : ℕ
  pub apart_count : ℕ
  pub inset_start : ℕ
  pub inset_count : ℕ

-- four numbers to a slot
unfoldable pub flat_parts : List Part → List ℕ
flat_parts [] = []
flat_parts (q ∷ qs) = q.apart_start ∷ q.apart_count ∷ q.inset_start ∷ q.inset_count ∷ flat_parts qs

-- the part of slot i
unfoldable pub part_at : List ℕ → ℕ → Part
part_at t i =
    record { apart_start = get_or t (4 * i) 0; apart_count = get_or t (4 * i + 1) 0; inset_start = get_or t (4 * i + 2) 0; inset_count = get_or t (4 * i + 3) 0 }

-- four numbers to a slot: b0 to b3
unfoldable pub flat_bounds : List Rect → List Float
flat_bounds [] = []
flat_bounds (b ∷ bs) = b.left ∷ b.bottom ∷ b.right ∷ b.top ∷ flat_bounds bs

-- the inset bounds of slot i
unfoldable pub bounds_at : List Float → ℕ → Rect
bounds_at t i = record { left = get_or t (4 * i) nan; bottom = get_or t (4 * i + 1) nan; right = get_or t (4 * i + 2) nan; top = get_or t (4 * i + 3) nan }

-- the apart part of the shapes room
unfoldable pub apart_room : Tables → List Float → List Float
apart_room t room = take (6 * t.apart_strips) room

-- the inset part of the shapes room
unfoldable pub inset_room : Tables → List Float → List Float
inset_room t room = drop (6 * t.apart_strips) room

-- the shape in slot i
unfoldable pub shape_at : Tables → List Float → ℕ → Shape
shape_at t room i =
    let q = part_at t.parts i in
    record {
      apart = part_of (apart_room t room) q.apart_start q.apart_count;
      inset = part_of (inset_room t room) q.inset_start q.inset_count;
      bounds = bounds_at t.inset_bounds i;
    }

-- the planner that tables and rooms hold
unfoldable pub planner_at : Job → Tables → Rooms → Planner
planner_at j t w =
    record {
      sheet = take (6 * t.sheet_strips) w.sheet;
      bounds = t.sheet_bounds;
      resolution = t.resolution;
      shapes = slot_rows (shape_at t w.shapes) 0 (orientation_counts j);
      areas = map (λ k. k.area) j.kinds;
    }

-- ---- the copies

-- the order: the kinds of the job's copies
unfoldable pub order_of : Job → State → List ℕ
order_of j s = take j.copies s.order

-- the copy at place n of the order
unfoldable pub copy_at : State → ℕ → Copy
copy_at s n = record { place = n; kind = get_or s.order n 0 }

-- the copy at place n, if it stands: its orientation's number is 1 + orientation, 0 for none
unfoldable pub stands_at : State → ℕ → ℕ → List Standing
stands_at s n zero = []
stands_at s n (suc o) =
    record {
      copy = copy_at s n;
      orientation = o;
      x = get_or s.layout.x n nan;
      y = get_or s.layout.y n nan;
      gap = get_or s.layout.gap n nan;
    }
    ∷ []

-- the copy at place n, if it has no place
unfoldable pub misses_at : State → ℕ → ℕ → List Copy
misses_at s n zero = copy_at s n ∷ []
misses_at s n (suc o) = []

-- among the first n copies
unfoldable pub standing_to : State → ℕ → List Standing
standing_to s zero = []
standing_to s (suc n) = standing_to s n ++ stands_at s n (get_or s.layout.orientation n 0)

-- those without a place among the first n copies
unfoldable pub without_to : State → ℕ → List Copy
without_to s zero = []
without_to s (suc n) = without_to s n ++ misses_at s n (get_or s.layout.orientation n 0)

-- the standing copies (document 01) of a state, and those without a place
unfoldable pub standing_of : State → List Standing
standing_of s = standing_to s s.taken

-- the copies without a place of a state
unfoldable pub without_of : State → List Copy
without_of s = without_to s s.taken

-- ---- the remembered columns and look counts

-- 0 for none, or 1 + the remembered column
unfoldable pub remembered_of : ℕ → Remembered
remembered_of zero = none
remembered_of (suc c) = column c

-- the number of a remembered column
unfoldable pub remembered_number : Remembered → ℕ
remembered_number none = 0
remembered_number (column c) = suc c

-- remembered column and look count of slot i
unfoldable pub track_at : List ℕ → List ℕ → ℕ → Track
track_at next looks i = record { next_column = remembered_of (get_or next i 0); look_count = get_or looks i 0 }

-- by kind and orientation
unfoldable pub tracks_of : Job → State → List (List Track)
tracks_of j s = slot_rows (track_at s.next_column s.look_counts) 0 (orientation_counts j)

-- ---- nothing

-- all zero
unfoldable pub zero_tables : Tables
zero_tables =
    record {
      resolution = pos_zero;
      sheet_bounds = no_bounds;
      sheet_strips = 0;
      apart_strips = 0;
      inset_bounds = replicate 4096 pos_zero;
      parts = replicate 4096 0;
    }

-- no copy is placed
unfoldable pub empty_layout : Float → Layout
empty_layout right =
    record {
      orientation = replicate 4096 0;
      x = replicate 4096 pos_zero;
      y = replicate 4096 pos_zero;
      gap = replicate 4096 pos_zero;
      unplaced_area = pos_zero;
      right = right;
    }

-- "A refused whole plan returns only the number": a refused start's state
unfoldable pub zero_state : State
zero_state =
    record {
      tables = zero_tables;
      order = replicate 4096 0;
      taken = 0;
      next_column = replicate 1024 0;
      look_counts = replicate 1024 0;
      placed_strips = 0;
      layout = empty_layout pos_zero;
    }
