-- For inner functions' contracts only: what a whole plan answers, with its position room. Definitions only. Assumes nothing.
use Rattle.std.specs.Prelude.{Result, Ok, Err, List, Float}
use Rattle.filling.specs.declared.Plan.{Plan}
use Rattle.filling.specs.declared.Refusal.{Refusal}
use Rattle.filling.specs.Rooms.{Lent}
use Rattle.filling.specs.Accounts.{no_plan}
use Rattle.filling.specs.Fill.{Planned, not_planned}
use Rattle.report.specs.declared.NestResult.{NestResult}

pub record Reply : Type 0 where
  pub verdict : Result (Unit {0}) Refusal
  pub plan : Plan
  pub positions : List Float

-- the public reply: all zero where it is refused
abbrev pub result_of : Result Plan Refusal → NestResult
result_of (Ok p) = record { verdict = Ok tt; plan = p }
result_of (Err k) = record { verdict = Err k; plan = no_plan }

-- of a plan, or of a refusal
abbrev pub reply : Result Plan Refusal → List Float → Reply
reply p positions = record { verdict = (result_of p).verdict; plan = (result_of p).plan; positions = positions }

-- as the definitions have it
abbrev pub reply_of : Planned → Reply
reply_of q = record { verdict = q.verdict; plan = q.plan; positions = q.lent.positions }

-- the plan where the verdict lets it pass, else only the number
abbrev pub planned_when : Result (Unit {0}) Refusal → Lent → Planned → Planned
planned_when (Ok tt) l q = q
planned_when (Err k) l q = not_planned k l
