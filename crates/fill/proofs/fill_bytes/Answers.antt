-- `fill_bytes`: the job is read, then filled; or its number. Assumes nothing.
use Rattle.std.specs.Prelude.{Err}
use Rattle.std.proofs.Common.{rules}
use native.Mathlib.Nat.{le_of_eq}
use mathlib.Core.Path.{◌≡◌, refl, sym}
use Rattle.job.specs.Jobs.{Answer}
use Rattle.filling.specs.declared.Refusal.TheVariants as Why
use Rattle.filling.specs.Fill.{fill_given, fill_of}
use Rattle.report.proofs.readied.Reading.{read_into_lem, job-reply, no_job-reply}
use Rattle.fill.proofs.fill_bytes.Goals as goal

pub returns-in_err-h : goal.returns-in_err-h
unfolding fill_of fill_given
returns-in_err-h c = let a = c.args in
    let t = c.read-j in
    let k = c.in_err-h.field-0.0 in
    let e : c.from_residual.result ≡ Err (Why.Job k) = search rules in
    λ l z. rw e (no_job-reply _ _ _ _ t.result.answer t.ensures.0 k c.in_err-h.was (λ (z : Answer). fill_given z a.order.now l) l refl a.positions.now z.positions_zero)

pub fill_job-requires : goal.fill_job-requires
fill_job-requires c = let t = c.read-j in
    let m = le_of_eq (sym t.ensures.1) in
    let n = le_of_eq (sym t.ensures.2) in
    let R = read_into_lem _ _ _ _ t.result.answer t.ensures.0 _ _ _ c.in_ok-h.was m n in
    ((_, c.requires.0, R, c.requires.1, refl), le_of_eq (sym t.ensures.3))

pub returns : goal.returns
unfolding fill_of fill_given
returns c = let a = c.args in
    let t = c.read-j in
    let d = c.in_ok-h.was in
    let m = le_of_eq (sym t.ensures.1) in
    let n = le_of_eq (sym t.ensures.2) in
    λ l z. job-reply _ _ _ _ t.result.answer t.ensures.0 _ _ _ d m n (λ (z : Answer). fill_given z a.order.now l) c.fill_job.result _
    (c.fill_job.ensures _ l (read_into_lem _ _ _ _ t.result.answer t.ensures.0 _ _ _ d m n) z refl)
