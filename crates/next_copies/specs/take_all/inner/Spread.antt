-- For inner functions' contracts only: what taking copies from a state is given, and what ends it. Definitions only. Assumes nothing.
use Rattle.std.specs.Prelude.{Result, Ok, Err, ℕ, ◌+◌, ◌<◌, ◌≤◌, ◌≡◌, Bool, true, false, List, eqb, Float}
use Rattle.filling.specs.declared.Refusal.{Refusal}
use Rattle.job.specs.Jobs.{Job}
use Rattle.job.proofs.Accepted.{GoodJob}
use Rattle.filling.specs.declared.State.{State}
use Rattle.filling.specs.declared.Refusal.TheVariants as Why
use Rattle.filling.specs.Rooms.{Rooms}
use Rattle.filling.specs.Consistent.{consistent}
use Rattle.filling.proofs.Sizes.{Sized}
use Rattle.accounts.specs.tables.inner.Tabled.{Tabled}
use Rattle.step.specs.inner.Going.{Going}

-- the refusal that ended it where n copies were asked for and `took` were taken: the last copy's, else 31 before 23
abbrev pub ended_by : Bool → Bool → Result (Unit {0}) Refusal
ended_by true fits = Ok tt
ended_by false true = Err Why.OrderUsedUp
ended_by false false = Err Why.Inconsistent

abbrev pub last_verdict : Result (Unit {0}) Refusal → Bool → ℕ → ℕ → Result (Unit {0}) Refusal
last_verdict (Ok tt) fits took n = ended_by (eqb took n) fits
last_verdict (Err k) fits took n = Err k

-- an accepted job, a state and rooms that 31 lets pass, and so many copies to come at the least; if there is one, it can be placed
pub record Starting (j : Job) (s : State) (w : Rooms) (rows : List ℕ) (areas : List Float) (sheet_starts starts : List ℕ) (most : ℕ) : Type 0 where
  pub tabled : Tabled j rows areas
  pub good : GoodJob j
  pub sized : Sized j
  pub few : j.copies ≤ 4096
  pub left : s.taken + most ≤ j.copies
  pub passes : consistent j s w ≡ true
  pub going : 0 < most → Going j s w rows areas sheet_starts starts
