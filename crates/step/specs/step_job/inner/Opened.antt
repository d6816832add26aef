-- For inner functions' contracts only: the tables of an accepted job. Definitions only. Assumes nothing.
use Rattle.std.specs.Prelude.{ℕ, ◌≤◌, ◌≡◌, List, length, Float}
use Rattle.job.specs.Jobs.{Job}
use Rattle.job.proofs.Accepted.{GoodJob}
use Rattle.accounts.specs.tables.inner.Tabled.{Tabled}

-- rows and areas are the job's, kinds and copies their numbers
pub record Opened (j : Job) (rows : List ℕ) (areas : List Float) (kinds copies : ℕ) : Type 0 where
  pub tabled : Tabled j rows areas
  pub good : GoodJob j
  pub few : j.copies ≤ 4096
  pub kinds_are : length j.kinds ≡ kinds
  pub copies_are : j.copies ≡ copies
