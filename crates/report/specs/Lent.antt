-- The reply and the rooms of a whole plan, as the definitions have them. Definitions only. Assumes nothing.
use Rattle.filling.specs.Rooms.{Lent}
use Rattle.filling.specs.Fill.{Planned}
use Rattle.report.specs.declared.NestResult.{NestResult}

-- the reply, and the rooms after
abbrev pub answered : NestResult → Lent → Planned
answered r l = record { verdict = r.verdict; plan = r.plan; lent = l }
