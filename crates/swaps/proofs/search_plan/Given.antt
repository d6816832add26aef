-- The grid as code has it. Assumes nothing.
use Prim.Native.Nat.{ℕ, ◌*◌}
use mathlib.Core.Path.{◌≡◌, subst⁻¹}
use mathlib.Core.List.{List}
use lib.ListN.{take}
use lib.Ieee.{Float}
use Rattle.job.specs.Jobs.{Job}
use Rattle.filling.specs.declared.Tables.{Tables}
use Rattle.choose.specs.declared.Grid.{Grid}
use Rattle.choose.specs.inner.Choosing.{grid_of}
use Rattle.filling_laws.specs.fill_laws.inner.Prepared.{given_in, Prepared, SheetFirsts}
use Rattle.swaps.specs.search_plan.inner.Tabled.{given_by}

pub gridded : (t : Tables) (rows : List ℕ) (areas shapes sheet : List Float) (entries starts : List ℕ) (g : Grid) → g ≡ grid_of t
    → (j : Job) → Prepared j (given_by t rows areas shapes sheet entries starts)
    → Prepared j (given_in g rows areas t.inset_bounds t.parts shapes (take (6 * t.sheet_strips) sheet) entries starts)
gridded t rows areas shapes sheet entries starts g e j =
    subst⁻¹
    (λ (z : Grid). Prepared j (given_in z rows areas t.inset_bounds t.parts shapes (take (6 * t.sheet_strips) sheet) entries starts))
    e

pub gridded_firsts : (t : Tables) (rows : List ℕ) (areas shapes sheet : List Float) (entries starts firsts : List ℕ) (g : Grid) → g ≡ grid_of t
    → SheetFirsts (given_by t rows areas shapes sheet entries starts) firsts
    → SheetFirsts (given_in g rows areas t.inset_bounds t.parts shapes (take (6 * t.sheet_strips) sheet) entries starts) firsts
gridded_firsts t rows areas shapes sheet entries starts firsts g e =
    subst⁻¹
    (λ (z : Grid). SheetFirsts (given_in z rows areas t.inset_bounds t.parts shapes (take (6 * t.sheet_strips) sheet) entries starts) firsts)
    e
