-- For inner functions' contracts only: turns one after another, and what they are given. Definitions only. Assumes nothing.
use Rattle.std.specs.Prelude.{Result, Ok, Err, ℕ, ◌+◌, ◌≤◌, ◌≡◌, Bool, true, false, List, length, Float}
use Rattle.filling.specs.declared.Refusal.{Refusal}
use Rattle.job.specs.Jobs.{Job}
use Rattle.job.proofs.Accepted.{GoodJob}
use Rattle.filling.specs.declared.State.{State}
use Rattle.filling.specs.declared.Tables.{Tables}
use Rattle.filling.specs.Rooms.{Rooms}
use Rattle.filling.proofs.Sizes.{Sized}
use Rattle.accounts.specs.tables.inner.Tabled.{Tabled}
use Rattle.choose.specs.declared.Grid.{Grid}
use Rattle.batch.specs.NextCopies.{Batch, none_taken}
use Rattle.batch.specs.inner.Tested.{tested_from}
use Rattle.take_copy.specs.turn.inner.Turning.{Tabling}

-- where the turns end
abbrev pub end_after : Result (Unit {0}) Refusal → Bool → ℕ → ℕ → ℕ
end_after (Ok tt) true took end = end
end_after (Ok tt) false took end = took
end_after (Err k) fits took end = took

-- what is left of n copies after a turn
abbrev pub rest_of : Job → Result (Unit {0}) Refusal → ℕ → State → Rooms → List Float → Bool → Batch
rest_of j (Ok tt) n s w intervals fits = tested_from j n s w intervals fits
rest_of j (Err k) n s w intervals fits = none_taken (Err k) s w intervals

-- the tables of a job and of a state, with so many copies to come at the least
pub record Begun (j : Job) (b : Tables) (g : Grid) (rows : List ℕ) (areas inset_bounds : List Float) (parts : List ℕ) (whole sheet : List Float)
    (order : List ℕ) (taken most : ℕ) : Type 0 where
  pub tabled : Tabled j rows areas
  pub good : GoodJob j
  pub sized : Sized j
  pub few : j.copies ≤ 4096
  pub tabling : Tabling b g inset_bounds parts whole sheet
  pub long : length order ≡ 4096
  pub left : taken + most ≤ j.copies
