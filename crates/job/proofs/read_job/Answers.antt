-- `job::read_job` meets its contract. Assumes nothing.
use Rattle.job.proofs.Whole.{width_read, sheet-read, sheet-refused, job-header, job-sheet, job-kinds, job_in_lem, job-answer}
use native.Mathlib.Omega.{arith}
use lib.ListN.{take}
use Rattle.std.proofs.Common.{rules}
use Rattle.job.specs.Jobs.{frame_of}
use Rattle.kinds.proofs.Tables.{found_is}
use Rattle.job.proofs.read_job.Goals as goal

pub returns-in_err-h : goal.returns-in_err-h
returns-in_err-h c = search (rules, job-header c.args.bytes.now c.in_err-h.ensures.0)

pub returns-in_err-m : goal.returns-in_err-m
returns-in_err-m c = search (
  rules,
  job-sheet c.args.bytes.now c.in_ok-h.ensures.0
      (sheet-refused c.args.bytes.now c.in_ok-h.at c.read_set.new.room c.read_set.new.ends c.read_set.result c.frame_of.result (frame_of c.in_ok-h.h)
      c.frame_of.ensures c.read_set.ensures.0 c.in_err-m.field-0.0 c.in_err-m.was),
)

pub returns-in_err-copies : goal.returns-in_err-copies
returns-in_err-copies c =
    let S = sheet-read c.args.bytes.now c.in_ok-h.at c.read_set.new.room c.read_set.new.ends c.read_set.result c.frame_of.result (frame_of c.in_ok-h.h)
    c.frame_of.ensures c.read_set.ensures.0 c.in_ok-m.field-0-0 c.in_ok-m.m c.in_ok-m.q c.in_ok-m.was in
    search (rules, job-kinds c.args.bytes.now c.in_ok-h.ensures.0 S.1 c.in_err-copies.ensures.0)

pub returns-in_err-judge_end : goal.returns-in_err-judge_end
returns-in_err-judge_end c =
    let S = sheet-read c.args.bytes.now c.in_ok-h.at c.read_set.new.room c.read_set.new.ends c.read_set.result c.frame_of.result (frame_of c.in_ok-h.h)
    c.frame_of.ensures c.read_set.ensures.0 c.in_ok-m.field-0-0 c.in_ok-m.m c.in_ok-m.q c.in_ok-m.was in
    search (
      rules,
      job-answer c.args.bytes.now c.read_kinds.new.rows c.read_kinds.new.areas c.read_kinds.new.places c.in_ok-h.h c.in_ok-h.at c.in_ok-copies.copies
          c.in_ok-copies.p c.width_of-width.result (job_in_lem c.args.bytes.now c.in_ok-h.ensures.0 S.1 c.in_ok-copies.ensures.0)
          (found_is c.args.bytes.now c.in_ok-h.at S.1) c.in_ok-copies.ensures.1.0
          (width_read (frame_of c.in_ok-h.h) S.0 c.read_set.new.room (take c.in_ok-m.field-0-0 c.read_set.new.ends) c.in_ok-m.m S.2
          (omega (arith, c.in_ok-m.ensures.1.1, c.read_set.auto.room, c.requires.3)) c.width_of-width.ensures)
          c.in_err-judge_end.ensures,
    )

pub returns : goal.returns
returns c =
    let S = sheet-read c.args.bytes.now c.in_ok-h.at c.read_set.new.room c.read_set.new.ends c.read_set.result c.frame_of.result (frame_of c.in_ok-h.h)
    c.frame_of.ensures c.read_set.ensures.0 c.in_ok-m.field-0-0 c.in_ok-m.m c.in_ok-m.q c.in_ok-m.was in
    job-answer c.args.bytes.now c.read_kinds.new.rows c.read_kinds.new.areas c.read_kinds.new.places c.in_ok-h.h c.in_ok-h.at c.in_ok-copies.copies
    c.in_ok-copies.p c.width_of-width.result (job_in_lem c.args.bytes.now c.in_ok-h.ensures.0 S.1 c.in_ok-copies.ensures.0)
    (found_is c.args.bytes.now c.in_ok-h.at S.1) c.in_ok-copies.ensures.1.0
    (width_read (frame_of c.in_ok-h.h) S.0 c.read_set.new.room (take c.in_ok-m.field-0-0 c.read_set.new.ends) c.in_ok-m.m S.2
    (omega (arith, c.in_ok-m.ensures.1.1, c.read_set.auto.room, c.requires.3)) c.width_of-width.ensures)
    c.in_ok-judge_end.ensures
