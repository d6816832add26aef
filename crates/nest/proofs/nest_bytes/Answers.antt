-- `nest_bytes`: the job is read, then planned; or its number. Assumes nothing.
use Rattle.std.specs.Prelude.{Err}
use Rattle.std.proofs.Common.{rules}
use native.Mathlib.Nat.{le_of_eq}
use mathlib.Core.Path.{◌≡◌, refl, sym}
use Rattle.job.specs.Jobs.{Answer}
use Rattle.filling.specs.declared.Refusal.TheVariants as Why
use Rattle.nesting.specs.Nest.{nest_given, nest_of}
use Rattle.report.proofs.readied.Reading.{read_into_lem, job-reply, no_job-reply}
use Rattle.nest.proofs.nest_bytes.Goals as goal

pub returns-in_err-h : goal.returns-in_err-h
unfolding nest_of nest_given
returns-in_err-h c = let a = c.args in
    let t = c.read-j in
    let k = c.in_err-h.field-0.0 in
    let e : c.from_residual.result ≡ Err (Why.Job k) = search rules in
    λ l z. rw e (no_job-reply _ _ _ _ t.result.answer t.ensures.0 k c.in_err-h.was (λ (z : Answer). nest_given z l) l refl a.positions.now z.positions_zero)

pub nest_job-requires : goal.nest_job-requires
nest_job-requires c = let t = c.read-j in
    let m = le_of_eq (sym t.ensures.1) in
    let n = le_of_eq (sym t.ensures.2) in
    let R = read_into_lem _ _ _ _ t.result.answer t.ensures.0 _ _ _ c.in_ok-h.was m n in
    ((_, c.requires.0, R, c.requires.1, refl), le_of_eq (sym t.ensures.3))

pub returns : goal.returns
unfolding nest_of nest_given
returns c = let a = c.args in
    let t = c.read-j in
    let d = c.in_ok-h.was in
    let m = le_of_eq (sym t.ensures.1) in
    let n = le_of_eq (sym t.ensures.2) in
    λ l z. job-reply _ _ _ _ t.result.answer t.ensures.0 _ _ _ d m n (λ (z : Answer). nest_given z l) c.nest_job.result _
    (c.nest_job.ensures _ l (read_into_lem _ _ _ _ t.result.answer t.ensures.0 _ _ _ d m n) z refl)
