-- What a computed claim opens, of the definitions in specs/. Assumes nothing.
use Rattle.kinds.proofs.Computing.{kinds_compute}
use Rattle.frames.proofs.Computing.{frames_compute}
use Rattle.job.specs.Jobs.{a_frame, after_frame, a_header, a_job, ended, left, right, width_of, framed_width, judge_end, judged, read_job}

unfoldable pub jobs_compute : Unit {0}
unfolding kinds_compute frames_compute a_frame after_frame a_header a_job ended left right width_of framed_width judge_end judged read_job
jobs_compute = tt
