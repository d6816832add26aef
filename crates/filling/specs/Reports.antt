-- Demand 3, of a filling: what its reply and its position room say of the copies and the looks. Definitions only. Assumes nothing.
use Rattle.std.specs.Prelude.{◌≡◌, length}
use Rattle.numbers.specs.Numbers.{pos_zero}
use Rattle.job.specs.Jobs.{Job}
use Rattle.filling.specs.Rooms.{Lent, laid, zeros}
use Rattle.filling.specs.Accounts.{positions, flat_positions, placed_of_kind, unplaced_of_kind, looks_by_slot}
use Rattle.filling.specs.Fill.{Planned}
use Rattle.filling.specs.Calls.{Outcome}

-- "For one filling in a given order that is not refused, all this holds": the copies standing with orientation, x and y, in the position room and by
-- number; those without a place; each orientation's look count
pub record Reports (j : Job) (l : Lent) (r : Planned) (o : Outcome) : Type 0 where
  pub placed : r.plan.placed ≡ length o.standing
  pub placed_of : r.plan.placed_of ≡ placed_of_kind o.standing
  pub positions_are : r.lent.positions ≡ laid (flat_positions (positions j o.standing)) (zeros pos_zero l.positions)
  pub unplaced : r.plan.unplaced ≡ length o.without
  pub unplaced_of : r.plan.unplaced_of ≡ unplaced_of_kind o.without
  pub look_counts : r.plan.look_counts ≡ looks_by_slot o.look_counts
