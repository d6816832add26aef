-- Document 01, the next copy: what `next_copy` answers and leaves in its rooms, as the definition's `Step`. Definitions only. Assumes nothing.
use Rattle.std.specs.Prelude.{List, Float}
use Rattle.filling.specs.Rooms.{Rooms}
use Rattle.filling.specs.NextCopy.{Step}
use Rattle.step.specs.declared.Stepped.{Stepped}

-- the reply, and the rooms after it
abbrev pub replied : Stepped → Rooms → List Float → Step
replied r w intervals = record { verdict = r.verdict; state = r.state; rooms = w; intervals = intervals }
