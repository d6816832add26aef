-- What `judge_layout` answers and leaves, as its contract says it. Definitions only. Assumes nothing.
use Rattle.filling.specs.Rooms.{Rooms}
use Rattle.layouts.specs.declared.Judgement.{Judgement}
use Rattle.layouts.specs.Layouts.{Judged}

-- a reply with the rooms after it
abbrev pub judged : Judgement → Rooms → Judged
judged r w = record { judgement = r; rooms = w }
