-- Document 01, "The job's bits": sets of loops. Definitions only. Assumes nothing.
use Rattle.std.specs.Prelude.{ℕ, zero, suc, ◌+◌, List, [], ◌∷◌, ◌++◌, Float}
use Rattle.bits.specs.Reading.{Reader, ◌>>=◌, give}
use Rattle.bits.specs.Fields.{loops_field, count, point_count, point}

-- a set: the coordinates of its points, x, y, x, y, .., and for each loop the number of points up to its end
pub record Set : Type 0 where
  pub points : List Float
  pub ends : List ℕ

-- "per point x 64, y 64": n points, after the coordinates read
unfoldable pub some_points : ℕ → List Float → Reader (List Float)
some_points zero xs = give xs
some_points (suc n) xs = do
  p ← point
  some_points n (xs ++ (p.x ∷ p.y ∷ []))

-- the points read of a set: how many, and their coordinates
pub record Points : Type 0 where
  pub number : ℕ
  pub coordinates : List Float

-- "per loop points 10 (3–512, at most 512 in the set)": a loop, after the points read
unfoldable pub a_loop : ℕ → List Float → Reader Points
a_loop before xs = do
  n ← point_count before
  ys ← some_points n xs
  give (record { number = before + n; coordinates = ys })

unfoldable pub some_loops : ℕ → ℕ → List Float → List ℕ → Reader Set
some_loops zero before xs es = give (record { points = xs; ends = es })
some_loops (suc n) before xs es = do
  l ← a_loop before xs
  some_loops n l.number l.coordinates (es ++ (l.number ∷ []))

-- "A set: loops 7 (1–64)"
unfoldable pub a_set : Reader Set
a_set = do
  n ← count loops_field
  some_loops n 0 [] []
