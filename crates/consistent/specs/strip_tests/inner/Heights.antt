-- For inner functions' contracts only: the heights of a strip. Definitions only. Assumes nothing.
use Rattle.std.specs.Prelude.{Bool, ◌&&◌}
use Rattle.trapezoid.specs.declared.Trapezoid.{Trapezoid}
use Rattle.filling.specs.Consistent.{bounded}

unfoldable pub heights_fit : Trapezoid → Bool
heights_fit p = bounded p.low0 && (bounded p.low1 && (bounded p.high0 && bounded p.high1))
