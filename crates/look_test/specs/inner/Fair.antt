-- For the test program's contracts: numbers that a look allows, and standing strips that are entered. Definitions only. Assumes nothing.
use Rattle.std.specs.Prelude.{ℕ, List, Float}
use Rattle.trapezoid.specs.Strip.{capacity}
use Rattle.index.specs.declared.Index.{Index}
use Rattle.index.specs.inner.Listing.{Laid, FirstBuckets, Bounded}
use Rattle.look.specs.inner.Ready.{BoundedStrips}

-- the ends of the sheet, the column and the two heights
pub record FairColumn (x0 x1 x y_low y_high : Float) : Type 0 where
  pub left : Bounded 1000000 x0
  pub right : Bounded 1000000 x1
  pub column : Bounded 1000000 x
  pub low : Bounded 1000000 y_low
  pub high : Bounded 1000000 y_high

-- the four sets of strips
pub record FairStrips (sheet placed inset apart : List Float) : Type 0 where
  pub sheets : BoundedStrips sheet
  pub places : BoundedStrips placed
  pub insets : BoundedStrips inset
  pub aparts : BoundedStrips apart

-- all strips of a room are entered
pub record Entered (ix : Index) (standing : List Float) (entries starts firsts : List ℕ) : Type 0 where
  pub laid : Laid ix standing (capacity standing) entries starts
  pub kept : FirstBuckets ix standing (capacity standing) firsts
