-- Inner functions' contracts only: what a look requires, and what it answers with a room of so many intervals. Definitions only. Assumes nothing.
use Rattle.std.specs.Prelude.{ℕ, ◌<◌, List, ◌++◌, true, false, Result, Ok, Err, Float, length, ltb}
use Rattle.numbers.proofs.Doubles.{Finite}
use Rattle.trapezoid.specs.declared.Trapezoid.{Trapezoid}
use Rattle.trapezoid.specs.Strip.{strip_at, capacity}
use Rattle.index.specs.declared.Index.{Index}
use Rattle.index.specs.inner.Listing.{Laid, Bounded, Fair}
use Rattle.index.specs.declared.Interval.{Interval}
use Rattle.index.specs.Intervals.{forbidden_of}
use Rattle.look.specs.height.Smallest.{height_of}
use Rattle.index.specs.declared.Overrun.{Overrun}
use Rattle.index.specs.declared.Overrun.TheVariants.{IntervalRoom}
use Rattle.look.specs.Looking.{counted_in}
use Rattle.look.specs.declared.height.Look.{Look}

-- a strip whose numbers are finite and within 31's bound; minus zero is allowed
pub record BoundedStrip (p : Trapezoid) : Type 0 where
  pub x0 : Bounded 1000000 p.x0
  pub x1 : Bounded 1000000 p.x1
  pub low0 : Bounded 1000000 p.low0
  pub low1 : Bounded 1000000 p.low1
  pub high0 : Bounded 1000000 p.high0
  pub high1 : Bounded 1000000 p.high1

abbrev pub BoundedStrips : List Float → Type 0
BoundedStrips l = (i : ℕ) → i < capacity l → BoundedStrip (strip_at l i)

-- entries that are those of the strips, numbers within bounds: a column's x stays below 3,000,000
pub record Lookable (ix : Index) (x y_low y_high : Float) (inset apart sheet placed : List Float) (sheet_entries sheet_starts placed_entries
    placed_starts : List ℕ) : Type 0 where
  pub index : Fair ix
  pub sheet_laid : Laid ix sheet (capacity sheet) sheet_entries sheet_starts
  pub placed_laid : Laid ix placed (capacity placed) placed_entries placed_starts
  pub column : Bounded 3000000 x
  pub low : Finite y_low
  pub high : Finite y_high
  pub insets : BoundedStrips inset
  pub aparts : BoundedStrips apart
  pub sheets : BoundedStrips sheet
  pub places : BoundedStrips placed

-- all forbidden intervals of a look at x
unfoldable pub forbidden_in : Float → List Float → List Float → List Float → List Float → List Interval
forbidden_in x inset apart sheet placed = forbidden_of sheet inset x ++ forbidden_of placed apart x

-- "a look's counted intervals exceed their room" (22), else "free with its height, or full"
unfoldable pub answer_of : ℕ → Float → Float → List Interval → Result Look Overrun
answer_of capacity y_low y_high is = elim (ltb capacity (length is)) [ true ↦ Err IntervalRoom | false ↦ Ok (height_of y_low y_high is) ]

-- the look at x with a room of so many intervals
unfoldable pub look_of : ℕ → Float → Float → Float → List Float → List Float → List Float → List Float → Result Look Overrun
look_of capacity x y_low y_high inset apart sheet placed = answer_of capacity y_low y_high (counted_in x y_low y_high inset apart sheet placed)
