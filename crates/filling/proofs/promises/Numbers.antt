-- No number is left that is not finite, or minus zero: by a start, by every list of calls after it, and by a filling. Assumes nothing.
use Prim.Native.Nat.{ℕ, zero, suc}
use mathlib.Core.List.{List, [], ◌∷◌, ◌++◌, map, flat_map}
use lib.ListN.{length, set, take, drop, replicate}
use lib.Ieee.{Float, binary64}
use Rattle.numbers.specs.Numbers.{pos_zero}
use Rattle.numbers.proofs.Ranges.{zero_num}
use Rattle.numbers.proofs.Doubles.{Number}
use Rattle.slabs.proofs.Merging.{All, all_append}
use Rattle.strips.specs.declared.Rect.{Rect}
use Rattle.strips.proofs.Sizes.{Framed}
use Rattle.index.specs.Buckets.{up_from}
use Rattle.filling.specs.declared.State.{State}
use Rattle.filling.specs.Shapes.{Shape, no_bounds}
use Rattle.filling.specs.Rooms.{Rooms, Lent, laid, zeros, zero_rooms, only_positions}
use Rattle.filling.specs.Withdraw.{closed_up}
use Rattle.filling.specs.State.{flat_bounds, empty_layout, zero_tables, zero_state}

-- every number of a list is finite and not minus zero
abbrev pub Numbers : List Float → Type 0
Numbers l = All Number l

-- of a rectangle
pub record RectNumbers (b : Rect) : Type 0 where
  pub left : Number b.left
  pub bottom : Number b.bottom
  pub right : Number b.right
  pub top : Number b.top

-- of a state
pub record StateNumbers (s : State) : Type 0 where
  pub resolution : Number s.tables.resolution
  pub sheet_bounds : RectNumbers s.tables.sheet_bounds
  pub inset_bounds : Numbers s.tables.inset_bounds
  pub xs : Numbers s.layout.x
  pub ys : Numbers s.layout.y
  pub gaps : Numbers s.layout.gap
  pub right : Number s.layout.right
  pub unplaced_area : Number s.layout.unplaced_area

-- of strip rooms
pub record RoomNumbers (w : Rooms) : Type 0 where
  pub shapes : Numbers w.shapes
  pub sheet : Numbers w.sheet
  pub placed : Numbers w.placed

-- of all rooms that are lent
pub record LentNumbers (l : Lent) : Type 0 where
  pub rooms : RoomNumbers l.rooms
  pub intervals : Numbers l.intervals
  pub positions : Numbers l.positions

-- ---- lists

pub zero_is : Number pos_zero
zero_is = zero_num binary64

pub all_replicate : (n : ℕ) → Numbers (replicate n pos_zero)
all_replicate zero = tt
all_replicate (suc n) = (zero_is, all_replicate n)

pub all_zeros : (room : List Float) → Numbers (zeros pos_zero room)
unfolding zeros
all_zeros room = all_replicate (length room)

module _ {A : Type 0} (Q : A → Type 0) where
  pub all_drop : (n : ℕ) (l : List A) → All Q l → All Q (drop n l)
  all_drop zero l h = h
  all_drop (suc n) [] h = tt
  all_drop (suc n) (a ∷ l) h = all_drop n l h.1

  pub all_take : (n : ℕ) (l : List A) → All Q l → All Q (take n l)
  all_take zero l h = tt
  all_take (suc n) [] h = tt
  all_take (suc n) (a ∷ l) h = (h.0, all_take n l h.1)

  pub all_closed : (n m : ℕ) (v : A) (l : List A) → Q v → All Q l → All Q (closed_up n m v l)
  unfolding closed_up
  all_closed n m v l q h =
      all_append Q (take n l) (drop (suc n) (take m l) ++ (v ∷ drop m l)) (all_take n l h)
      (all_append Q (drop (suc n) (take m l)) (v ∷ drop m l) (all_drop (suc n) (take m l) (all_take m l h)) (q, all_drop m l h))

pub all_laid : (l room : List Float) → Numbers l → Numbers room → Numbers (laid l room)
unfolding laid
all_laid l room h r = all_append Number l (drop (length l) room) h (all_drop Number (length l) room r)

pub all_set : (l : List Float) (i : ℕ) (a : Float) → Numbers l → Number a → Numbers (set l i a)
all_set [] i a h n = tt
all_set (b ∷ l) zero a h n = (n, h.1)
all_set (b ∷ l) (suc i) a h n = (h.0, all_set l i a h.1 n)

pub all_flat_map : {A : Type 0} (f : A → List Float) (g : ℕ → A) → ((i : ℕ) → Numbers (f (g i))) → (n c : ℕ) → Numbers (flat_map f (map g (up_from n c)))
unfolding flat_map up_from
all_flat_map f g h zero c = tt
all_flat_map f g h (suc n) c = all_append Number (f (g c)) (flat_map f (map g (up_from n (suc c)))) (h c) (all_flat_map f g h n (suc c))

pub all_bounds : (ss : List Shape) → All (λ (s : Shape). RectNumbers s.bounds) ss → Numbers (flat_bounds (map (λ s. s.bounds) ss))
unfolding flat_bounds
all_bounds [] h = tt
all_bounds (s ∷ ss) h = let r = h.0 in (r.left, (r.bottom, (r.right, (r.top, all_bounds ss h.1))))

pub framed-numbers : (b : Rect) → Framed b → RectNumbers b
framed-numbers b F = record { left = F.left.num; bottom = F.bottom.num; right = F.right.num; top = F.top.num }

no_bounds_lem : RectNumbers no_bounds
unfolding no_bounds
no_bounds_lem = record { left = zero_is; bottom = zero_is; right = zero_is; top = zero_is }

-- ---- a refused start

pub zero-state : StateNumbers zero_state
unfolding zero_state zero_tables empty_layout
zero-state =
    record {
      resolution = zero_is;
      sheet_bounds = no_bounds_lem;
      inset_bounds = all_replicate 4096;
      xs = all_replicate 4096;
      ys = all_replicate 4096;
      gaps = all_replicate 4096;
      right = zero_is;
      unplaced_area = zero_is;
    }

pub zero-rooms : (w : Rooms) → RoomNumbers (zero_rooms w)
unfolding zero_rooms
zero-rooms w = record { shapes = all_zeros w.shapes; sheet = all_zeros w.sheet; placed = all_zeros w.placed }

pub only_positions_lem : (l : Lent) (ps : List Float) → Numbers ps → LentNumbers (only_positions l ps)
unfolding only_positions
only_positions_lem l ps h =
    record {
      rooms = zero-rooms l.rooms;
      intervals = all_zeros l.intervals;
      positions = all_laid ps (zeros pos_zero l.positions) h (all_zeros l.positions);
    }
