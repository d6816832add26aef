-- `write_job::put_job` meets its contract. Assumes nothing.
use mathlib.Core.Path.{refl}
use lib.Ieee.{of_int, of_bits}
use Rattle.std.proofs.Common.{rules}
use Rattle.write_job.proofs.JobLaws.{job-put, job-refused, said_refused, too_many_copies, too_many_columns, is_accepted, said_written, said_short}
use Rattle.write_job.proofs.put_job.Goals as goal

pub returns-in_err-p : goal.returns-in_err-p
returns-in_err-p c =
    let R = job-refused _ _ _ _ _ _ _ c.in_err-p.ensures refl in
    search (rules, said_refused _ _ _ _ _ c.args.out.now _ _ R.0 R.1)

pub returns-then-copies-gt4096 : goal.returns-then-copies-gt4096
returns-then-copies-gt4096 c =
    let F = job-put _ _ _ _ _ _ _ _ c.in_ok-p.ensures refl in
    said_refused _ _ _ _ _ c.args.out.now _ _ (too_many_copies _ _ _ _ _ _ _ _ _ F c.if-copies-gt4096.true) F.fields.long

pub returns-then-width-value : goal.returns-then-width-value
unfolding of_int of_bits
returns-then-width-value c =
    let F = job-put _ _ _ _ _ _ _ _ c.in_ok-p.ensures refl in
    said_refused _ _ _ _ _ c.args.out.now _ _
    (too_many_columns _ _ _ _ _ _ _ _ _ F _ _ _ c.frame_of.ensures c.sheet_width-width.ensures c.value.ensures c.if-copies-gt4096.false c.if-width-value.true)
    F.fields.long

pub finish-n-requires : goal.finish-n-requires
finish-n-requires c = (job-put _ _ _ _ _ _ _ _ c.in_ok-p.ensures refl).fields.sound

pub returns-then-n-out : goal.returns-then-n-out
unfolding of_int of_bits
returns-then-n-out c =
    let F = job-put _ _ _ _ _ _ _ _ c.in_ok-p.ensures refl in
    said_written _ _ _ _ _ _ _ _ _ F _ _
    (is_accepted _ _ _ _ _ _ _ _ _ F _ _ _ c.frame_of.ensures c.sheet_width-width.ensures c.value.ensures c.if-copies-gt4096.false c.if-width-value.false)
    (c.finish-n.ensures _ F.fields.wrote) c.if-n-out.true

pub returns-else-n-out : goal.returns-else-n-out
unfolding of_int of_bits
returns-else-n-out c =
    let F = job-put _ _ _ _ _ _ _ _ c.in_ok-p.ensures refl in
    said_short _ _ _ _ _ _ _ _ _ F _ _
    (is_accepted _ _ _ _ _ _ _ _ _ F _ _ _ c.frame_of.ensures c.sheet_width-width.ensures c.value.ensures c.if-copies-gt4096.false c.if-width-value.false)
    (c.finish-n.ensures _ F.fields.wrote) c.if-n-out.false
