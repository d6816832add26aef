-- `swaps_test::answer_job`: the job is read, then prepared; or its number. Assumes nothing.
use native.Mathlib.Nat.{le_of_eq}
use mathlib.Core.Path.{sym}
use Rattle.report.proofs.readied.Reading.{read_into_lem}
use Rattle.swaps_test.proofs.answer_job.Goals as goal

pub slice_bounds-prepare_job-end : goal.slice_bounds-prepare_job-end
slice_bounds-prepare_job-end c = sym c.read-j.ensures.1

pub slice_bounds-prepare_job-end-in-Ok : goal.slice_bounds-prepare_job-end-in-Ok
slice_bounds-prepare_job-end-in-Ok c = sym c.read-j.ensures.2

pub slice_bounds-prepare_job-end-in-Ok-2 : goal.slice_bounds-prepare_job-end-in-Ok-2
slice_bounds-prepare_job-end-in-Ok-2 c = sym c.read-j.ensures.3

pub prepare_job-requires : goal.prepare_job-requires
prepare_job-requires c = let t = c.read-j in
    let m = le_of_eq (sym t.ensures.1) in
    let n = le_of_eq (sym t.ensures.2) in
    let R = read_into_lem _ _ _ _ t.result.answer t.ensures.0 _ _ _ c.in-Ok.is m n in
    ((_, R), le_of_eq (sym t.ensures.3))
