-- Inner functions' contracts only: a strip written into a room. Definitions only. Assumes nothing.
use Rattle.std.specs.Prelude.{ℕ, ◌+◌, ◌*◌, List, set, Float}
use Rattle.trapezoid.specs.declared.Trapezoid.{Trapezoid}

-- the room with s as its strip number i
unfoldable pub set_strip : List Float → ℕ → Trapezoid → List Float
set_strip room i s =
    set (set (set (set (set (set room (6 * i) s.x0) (6 * i + 1) s.x1) (6 * i + 2) s.low0) (6 * i + 3) s.low1) (6 * i + 4) s.high0) (6 * i + 5)
    s.high1
