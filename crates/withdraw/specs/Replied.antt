-- Document 02, W4: what `withdraw` answers and leaves in its rooms, as the definition's `Reply`. Definitions only. Assumes nothing.
use Rattle.filling.specs.Rooms.{Rooms}
use Rattle.filling.specs.Withdraw.{Reply}
use Rattle.step.specs.declared.Stepped.{Stepped}

-- the reply, and the rooms after it
abbrev pub replied : Stepped → Rooms → Reply
replied r w = record { verdict = r.verdict; state = r.state; rooms = w }
