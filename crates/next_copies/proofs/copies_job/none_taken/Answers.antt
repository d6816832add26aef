-- `next_copies::copies_job::none_taken` meets its contract. Assumes nothing.
use Rattle.rooms.proofs.Zeroing.{zeroed-doubles}
use mathlib.Core.Path.{ap}
use mathlib.Core.List.{List}
use lib.Ieee.{Float}
use Rattle.batch.specs.NextCopies.{none_taken}
use Rattle.next_copies.proofs.copies_job.none_taken.Goals as goal

pub returns : goal.returns
unfolding none_taken
returns c = let a = c.args in λ w. ap (λ (l : List Float). none_taken a.verdict a.state w l)
    (zeroed-doubles _ c.fill.ensures.after)
