-- What C is told of a filling in a given order. Definitions only. Assumes nothing.
use Rattle.std.specs.Prelude.{ℕ, List}
use Rattle.filling.specs.Refusals.{verdict_number}
use Rattle.filling.specs.Rooms.{Lent}
use Rattle.filling.specs.Fill.{Planned, fill_of}

-- a number and the rooms after
pub record NumberedLent : Type 0 where
  pub number : ℕ
  pub lent : Lent

-- the tables' number of a refused plan, 0 of an accepted one
unfoldable pub numbered_plan : Planned → NumberedLent
numbered_plan r = record { number = verdict_number r.verdict; lent = r.lent }

-- of the filling
unfoldable pub numbered_fill : List ℕ → List ℕ → Lent → NumberedLent
numbered_fill bytes order l = numbered_plan (fill_of bytes order l)
