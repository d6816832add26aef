-- Document 02, W5: what `next_copies` answers and leaves in its rooms, as the definition's `Batch`. Definitions only. Assumes nothing.
use Rattle.std.specs.Prelude.{List, Float}
use Rattle.filling.specs.Rooms.{Rooms}
use Rattle.batch.specs.NextCopies.{Batch}
use Rattle.next_copies.specs.declared.Taken.{Taken}

-- the reply, and the rooms after it
abbrev pub answered : Taken → Rooms → List Float → Batch
answered r w intervals = record { took = r.took; verdict = r.verdict; state = r.state; rooms = w; intervals = intervals }
