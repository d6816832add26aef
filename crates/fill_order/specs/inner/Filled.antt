-- For inner functions' contracts only: what a filling leaves, or its refusal. Definitions only. Assumes nothing.
use Rattle.std.specs.Prelude.{Result, Ok, Err, ℕ, List, Float}
use Rattle.filling.specs.declared.Refusal.{Refusal}
use Rattle.filling.specs.Shapes.{Planner}
use Rattle.filling.specs.Fill.{Filling, stopped}
use Rattle.place.specs.declared.Totals.{Totals}
use Rattle.filling_laws.specs.fill_laws.inner.Prepared.{filling_in}

-- the state at the end, as it lies in a filling's two tables, or the refusal first met
abbrev pub filled_in : Result Totals Refusal → Planner → List ℕ → List ℕ → List Float → Filling
filled_in (Ok t) p order tracks spots = filling_in (Ok tt) p order tracks t spots
filled_in (Err k) p order tracks spots = stopped k
