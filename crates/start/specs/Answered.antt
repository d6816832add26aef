-- What a start answers, beside its rooms. Definitions only. Assumes nothing.
use Rattle.filling.specs.Rooms.{Lent}
use Rattle.filling.specs.Start.{Start}
use Rattle.start.specs.declared.replies.Started.{Started}

-- the answer and the rooms after
abbrev pub answered : Started → Lent → Start
answered r l = record { verdict = r.verdict; state = r.state; lent = l }
