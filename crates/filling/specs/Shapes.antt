-- Document 01, "Filling", and document 02, W1: what is worked out of a job once, strips and bounds in its frame, and the strips of the standing copies.
-- Strips lie as in a room, six numbers each. Definitions only. Assumes nothing.
use Rattle.std.specs.Prelude.{ℕ, suc, ◌/◌, Bool, true, false, not, length, get_or, eqb, Float}
use mathlib.Core.List.{List, [], ◌∷◌, map, flat_map}
use Rattle.numbers.specs.Numbers.{pos_zero}
use Rattle.trapezoid.specs.Strip.{strip_at, flat, capacity, moved_by}
use Rattle.index.specs.Buckets.{up_from, keep}
use Rattle.strips.specs.declared.Rect.{Rect}
use Rattle.strips.specs.Strips as Strips
use Rattle.kinds.specs.sets.Sets.{Set}
use Rattle.kinds.specs.Kinds.{Orientation}
use Rattle.frames.specs.declared.Frame.{Frame}
use Rattle.frames.specs.Frames.{framed}
use Rattle.job.specs.Jobs.{Job, frame_of}

-- nesting.rs's Shape: one orientation's apart strips, inset strips and inset bounds
pub record Shape : Type 0 where
  pub apart : List Float
  pub inset : List Float
  pub bounds : Rect

-- nesting.rs's Planner: the sheet's strips and bounds, the shapes by kind and orientation, the areas by kind
pub record Planner : Type 0 where
  pub sheet : List Float
  pub bounds : Rect
  pub resolution : Float
  pub shapes : List (List Shape)
  pub areas : List Float

-- the bounds of a set's points
unfoldable pub set_bounds : Set → Rect
set_bounds s = Strips.bounds s.points (length s.points / 2)

-- the strips of a set; those of the sheet if the flag says so
unfoldable pub set_strips : Bool → Set → List Float
set_strips sheet s = flat (Strips.trapezoids s.points (length s.points / 2) s.ends sheet)

-- "Inset strips are held against the sheet, apart strips against placed copies": of the two sets of an orientation; W1: "Loops go through `to`"
unfoldable pub shape_for : Frame → Orientation → Shape
shape_for f o =
    record {
      apart = set_strips false (framed f o.apart);
      inset = set_strips false (framed f o.inset);
      bounds = set_bounds (framed f o.inset);
    }

-- what is worked out of a job; W1: ""Left" and "lower" in the placement rule are meant in the framed sheet, as are right and offcut"
unfoldable pub planner_of : Job → Planner
planner_of j =
    record {
      sheet = set_strips true (framed (frame_of j.header) j.sheet);
      bounds = set_bounds (framed (frame_of j.header) j.sheet);
      resolution = j.header.resolution;
      shapes = map (λ k. map (shape_for (frame_of j.header)) k.orientations) j.kinds;
      areas = map (λ k. k.area) j.kinds;
    }

-- bounds of nothing: what an orientation that the job lacks would have
unfoldable pub no_bounds : Rect
no_bounds = record { left = pos_zero; bottom = pos_zero; right = pos_zero; top = pos_zero }

-- the shape of an orientation that the job lacks
unfoldable pub no_shape : Shape
no_shape = record { apart = []; inset = []; bounds = no_bounds }

-- orientation o of kind k
unfoldable pub shape_of : Planner → ℕ → ℕ → Shape
shape_of p k o = get_or (get_or p.shapes k []) o no_shape

-- ---- copies

-- a copy to be placed: its place in the order, and its kind
pub record Copy : Type 0 where
  pub place : ℕ
  pub kind : ℕ

-- a standing copy (document 01): "standing copies with orientation, x and y"; document 02, W7: "state and positions keep it with the copy"
pub record Standing : Type 0 where
  pub copy : Copy
  pub orientation : ℕ
  pub x : Float
  pub y : Float
  pub gap : Float

-- the copies of an order, from place n on
unfoldable pub copies_from : ℕ → List ℕ → List Copy
copies_from n [] = []
copies_from n (k ∷ ks) = record { place = n; kind = k } ∷ copies_from (suc n) ks

-- the standing copy at place n
unfoldable pub named : ℕ → List Standing → List Standing
named n cs = keep (λ c. eqb c.copy.place n) cs

-- the other standing copies
unfoldable pub others : ℕ → List Standing → List Standing
others n cs = keep (λ c. not (eqb c.copy.place n)) cs

-- "apart strips are moved (each number plus x or y)"
unfoldable pub moved_strips : List Float → Float → Float → List Float
moved_strips part x y = flat (map (λ i. moved_by (strip_at part i) x y) (up_from (capacity part) 0))

-- the strips of a standing copy
unfoldable pub copy_strips : Planner → Standing → List Float
copy_strips p c = moved_strips (shape_of p c.copy.kind c.orientation).apart c.x c.y

-- the standing strips (document 01) of copies, in their order
unfoldable pub standing_strips : Planner → List Standing → List Float
standing_strips p cs = flat_map (copy_strips p) cs
