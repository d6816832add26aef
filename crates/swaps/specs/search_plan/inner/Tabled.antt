-- For inner functions' contracts only: what a swap search is given by a job's tables. Definitions only. Assumes nothing.
use Rattle.std.specs.Prelude.{ℕ, ◌*◌, List, take, Float}
use Rattle.filling.specs.declared.Tables.{Tables}
use Rattle.choose.specs.inner.Choosing.{grid_of}
use Rattle.filling_laws.specs.fill_laws.inner.Prepared.{Given, given_in}

-- the sheet's strips begin the sheet room
abbrev pub given_by : Tables → List ℕ → List Float → List Float → List Float → List ℕ → List ℕ → Given
given_by t rows areas shapes sheet sheet_entries sheet_starts =
    given_in (grid_of t) rows areas t.inset_bounds t.parts shapes (take (6 * t.sheet_strips) sheet) sheet_entries sheet_starts
