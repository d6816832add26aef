use Rattle.rooms.proofs.Zeroing.{zeroed-doubles}
use Rattle.step.proofs.step_job.Opening.{refuse_is}
use Rattle.step.proofs.step_job.refuse.Goals as goal

pub returns : goal.returns
returns c = let a = c.args in
    λ w. refuse_is a.why a.state a.intervals.now _ (zeroed-doubles _ c.fill.ensures.after) w
