-- `judge_bytes`: the job is read, then its list is judged; or its number. Assumes nothing.
use Rattle.std.specs.Prelude.{Result, ℕ}
use Rattle.bits.specs.declared.Refusal.{Refusal}
use Rattle.job.specs.declared.Header.{Header}
use native.Mathlib.Nat.{le_of_eq}
use mathlib.Core.Path.{sym, ap, ◌∙◌}
use Rattle.job.specs.Jobs.{Answer}
use Rattle.job.specs.inner.Meaning.{job_read}
use Rattle.report.proofs.readied.Reading.{read_into_lem}
use Rattle.layouts.specs.Layouts.{lines_of, layout_given}
use Rattle.judge_layout.proofs.judge_bytes.Goals as goal

pub slice_bounds-layout_job-end : goal.slice_bounds-layout_job-end
slice_bounds-layout_job-end c = sym c.read-j.ensures.1

pub slice_bounds-layout_job-end-in-Ok : goal.slice_bounds-layout_job-end-in-Ok
slice_bounds-layout_job-end-in-Ok c = sym c.read-j.ensures.3

pub layout_job-requires : goal.layout_job-requires
layout_job-requires c = let t = c.read-j in
    let R = read_into_lem _ _ _ _ t.result.answer t.ensures.0 _ _ _ c.in-Ok.is (le_of_eq (sym t.ensures.1))
    (le_of_eq (sym t.ensures.2)) in
    ((_, c.requires.0, t.result.areas, R, c.requires.1), le_of_eq (sym t.ensures.3))

pub shape_of-shapes : goal.shape_of-shapes
shape_of-shapes c = c.layout_job.auto.shapes

pub shape_of-sheet : goal.shape_of-sheet
shape_of-sheet c = c.layout_job.auto.sheet

pub shape_of-placed : goal.shape_of-placed
shape_of-placed c = c.layout_job.auto.placed

pub shape_of-sheet_entries : goal.shape_of-sheet_entries
shape_of-sheet_entries c = c.layout_job.auto.sheet_entries

pub shape_of-sheet_firsts : goal.shape_of-sheet_firsts
shape_of-sheet_firsts c = c.layout_job.auto.sheet_firsts

pub returns-in-Ok : goal.returns-in-Ok
unfolding layout_given
returns-in-Ok c = let x = c.args in
    let t = c.read-j in
    let R = read_into_lem _ _ _ _ t.result.answer t.ensures.0 _ _ _ c.in-Ok.is (le_of_eq (sym t.ensures.1))
    (le_of_eq (sym t.ensures.2)) in
    λ w Z. c.layout_job.ensures _ w t.result.areas R Z ∙ ap (λ (z : Answer). layout_given z (lines_of x.given.now) w) (sym R.read)

pub returns-in-Err : goal.returns-in-Err
unfolding layout_given
returns-in-Err c = let x = c.args in
    let t = c.read-j in
    λ w Z. c.not_judged.ensures
    ∙ ap (λ (z : Answer). layout_given z (lines_of x.given.now) w) (sym (t.ensures.0 ∙ ap
    (λ (z : Result (Header × ℕ × ℕ) Refusal). job_read z x.bytes.now t.result.rows t.result.areas t.result.places) c.in-Err.is))
