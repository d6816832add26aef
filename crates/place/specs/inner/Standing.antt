-- For inner functions' contracts only: what holds of the rooms between copies, and what a job fixes of a slot. Definitions only. Assumes nothing.
use Rattle.std.specs.Prelude.{ℕ, ◌+◌, ◌*◌, ◌<◌, ◌≤◌, List, length, Float}
use Rattle.numbers.proofs.Doubles.{Finite}
use Rattle.trapezoid.specs.Strip.{strip_at, capacity}
use Rattle.index.specs.declared.Index.{Index}
use Rattle.index.specs.inner.Listing.{Laid, Bounded, Fair}
use Rattle.look.specs.inner.Ready.{BoundedStrip, BoundedStrips}
use Rattle.search.specs.columns.inner.Stands.{column_x, last_of}
use Rattle.choose.specs.inner.Choosing.{part_at, inset_part, apart_part, Surroundings, columns_at}

-- the entries are those of the n placed strips, which are finite and within 31's bound
pub record Standing (ix : Index) (placed : List Float) (n : ℕ) (entries starts : List ℕ) : Type 0 where
  pub laid : Laid ix placed n entries starts
  pub strips : (i : ℕ) → i < n → BoundedStrip (strip_at placed i)

-- what the job fixes of slot i, whatever stands
pub record Fixed (ix : Index) (w : Surroundings) (sheet_entries sheet_starts : List ℕ) (i : ℕ) : Type 0 where
  pub index : Fair ix
  pub sheet_laid : Laid ix w.sheet (capacity w.sheet) sheet_entries sheet_starts
  pub sheets : BoundedStrips w.sheet
  pub insets : BoundedStrips (inset_part (part_at w.parts i) w.inset)
  pub aparts : BoundedStrips (apart_part (part_at w.parts i) w.apart)
  pub low : Finite (columns_at w i).y_low
  pub high : Finite (columns_at w i).y_high
  pub column : (c : ℕ) → c ≤ last_of (columns_at w i) → Bounded 3000000 (column_x (columns_at w i) c)
  pub few : (columns_at w i).count ≤ 4000000000
  pub bounded : 4 * i + 4 ≤ length w.inset_bounds
  pub parted : 4 * i + 4 ≤ length w.parts
