-- Document 01, "Filling", the look: its counted intervals, of every standing strip and of no bucket. Definitions only. Assumes nothing.
use Rattle.std.specs.Prelude.{List, ◌++◌, Float}
use Rattle.index.specs.declared.Interval.{Interval}
use Rattle.index.specs.Intervals.{counted_of}

-- "Inset strips are held against the sheet, apart strips against placed copies": the counted intervals of a look at x
unfoldable pub counted_in : Float → Float → Float → List Float → List Float → List Float → List Float → List Interval
counted_in x y_low y_high inset apart sheet placed = counted_of y_low y_high sheet inset x ++ counted_of y_low y_high placed apart x
