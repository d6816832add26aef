-- `bench_exports::panel_judge` meets its contract. Assumes nothing.
use mathlib.Core.Path.{sym, ap, ◌∙◌}
use Rattle.bench_exports.specs.inner.Answers.{verdict_number}
use Rattle.bench_exports.proofs.panel_judge.Goals as goal

pub returns-in-Ok : goal.returns-in-Ok
returns-in-Ok c = ap verdict_number (sym c.in-Ok.is ∙ c.judge.ensures)

pub returns-in-Err : goal.returns-in-Err
returns-in-Err c = c.refusal_number.ensures ∙ ap verdict_number (sym c.in-Err.is ∙ c.judge.ensures)
