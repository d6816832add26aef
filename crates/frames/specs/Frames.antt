-- Document 02, W1, other corners: the Rust's `Frame`. A sheet point p is planned at `to` of it; a place in the frame lies at `from` of it on the sheet.
-- Definitions only. Assumes nothing.
use Rattle.std.specs.Prelude.{ℕ, ◌+◌, ◌-◌, ◌*◌, ◌%◌, Bool, not, ◌&&◌, cond, List, [], ◌∷◌, ◌++◌, get_or, leb, eqb, Float}
use Rattle.std.specs.Bool.{beq}
use Rattle.std.specs.Float.{nan}
use Rattle.std.specs.Float.Ieee.{neg}
use Rattle.numbers.specs.Numbers.{plus_zero}
use Rattle.slabs.specs.Slab.{up}
use Rattle.kinds.specs.sets.Sets.{Set}
use Rattle.frames.specs.declared.Frame.{Frame}
use Rattle.frames.specs.declared.Point.{Point}

-- "four start corners, two fill axes, in the Rust's listed order": corners LowerLeft, LowerRight, UpperLeft, UpperRight; axes X, Y. The Rust's sx is -1:
unfoldable pub from_right : Frame → Bool
from_right f = eqb (f.corner % 2) 1

-- the Rust's sy is -1
unfoldable pub from_top : Frame → Bool
from_top f = leb 2 f.corner

-- the Rust's FillAxis::X: "Columns advance along the sheet's y, parts stack along x."
unfoldable pub along_x : Frame → Bool
along_x f = eqb f.axis 0

-- "version 1 stays and means lower left, filling along y"
abbrev pub lower_left : Frame
lower_left = record { corner = 0; axis = 1 }

-- ---- points

-- a coordinate times 1 or -1; "every minus zero becomes plus zero on both ways"
unfoldable pub turned : Bool → Float → Float
turned t x = plus_zero (cond t (neg x) x)

-- the Rust's `to`: rows (sx, 0), (0, sy) along y, and (0, sy), (sx, 0) along x
unfoldable pub to : Frame → Point → Point
to f p =
    cond (along_x f)
    (record { x = turned (from_top f) p.y; y = turned (from_right f) p.x })
    (record { x = turned (from_right f) p.x; y = turned (from_top f) p.y })

-- the Rust's `from`: its transpose
unfoldable pub from : Frame → Point → Point
from f p =
    cond (along_x f)
    (record { x = turned (from_right f) p.y; y = turned (from_top f) p.x })
    (record { x = turned (from_right f) p.x; y = turned (from_top f) p.y })

-- the Rust's `reversing`: the determinant is below zero, sx × sy along y, - sx × sy along x
unfoldable pub reversing : Frame → Bool
reversing f = beq (along_x f) (beq (from_right f) (from_top f))

-- the Rust's `identity`
unfoldable pub identity : Frame → Bool
identity f = not (along_x f) && (not (from_right f) && not (from_top f))

-- ---- "Loops go through `to`, reversed where the frame reverses"

-- point i of a set
unfoldable pub point_at : List Float → ℕ → Point
point_at xs i = record { x = get_or xs (2 * i) nan; y = get_or xs (2 * i + 1) nan }

-- which point of a loop, from `first` to before `end`, becomes its point i
unfoldable pub loop_index : Frame → ℕ → ℕ → ℕ → ℕ
loop_index f first end i = cond (reversing f) (first + end - (i + 1)) i

-- the points of the loops that end so
unfoldable pub framed_points : Frame → List Float → ℕ → List ℕ → List Point
framed_points f xs first [] = []
framed_points f xs first (e ∷ es) = up (λ i. to f (point_at xs (loop_index f first e i))) first (e - first) ++ framed_points f xs e es

-- their coordinates, x, y, x, y, ..
unfoldable pub coordinates : List Point → List Float
coordinates [] = []
coordinates (p ∷ ps) = p.x ∷ p.y ∷ coordinates ps

-- the Rust's `loops`: as they are where the frame is the identity
unfoldable pub framed : Frame → Set → Set
framed f s = cond (identity f) s (record { points = coordinates (framed_points f s.points 0 s.ends); ends = s.ends })
