-- Inner functions' contracts only: points in a room as they go through a frame. Definitions only. Assumes nothing.
use Rattle.std.specs.Prelude.{ℕ, ◌+◌, ◌*◌, ◌≤◌, ◌<◌, Bool, cond, ◌⊎◌, ◌≡◌, List, set, Float}
use Rattle.bits.specs.Reading.{Read, ok, bad}
use Rattle.kinds.specs.sets.Sets.{Set}
use Rattle.frames.specs.declared.Frame.{Frame}
use Rattle.frames.specs.declared.Point.{Point}
use Rattle.frames.specs.Frames.{to, point_at, loop_index, framed}

-- the point p as point i
unfoldable pub set_point : List Float → ℕ → Point → List Float
set_point xs i p = set (set xs (2 * i) p.x) (2 * i + 1) p.y

-- points i and j in the frame, exchanged if so told
unfoldable pub framed_pair : Frame → List Float → ℕ → ℕ → Bool → List Float
framed_pair f xs i j t = set_point (set_point xs i (to f (point_at xs (cond t j i)))) j (to f (point_at xs (cond t i j)))

-- one loop in the frame; the other points stay
pub record FramedLoop (f : Frame) (first end : ℕ) (xs ys : List Float) : Type 0 where
  pub inside : (i : ℕ) → first ≤ i → i < end → point_at ys i ≡ to f (point_at xs (loop_index f first end i))
  pub outside : (i : ℕ) → (i < first) ⊎ (end ≤ i) → point_at ys i ≡ point_at xs i

-- a set that was read, in the frame
abbrev pub framed_read : Frame → Read Set → Read Set
framed_read f (ok s q) = ok (framed f s) q
framed_read f (bad k) = bad k
