-- `plan_tables`: prepared, then the copies in the given order are searched; or the refusal. Assumes nothing.
use Rattle.std.specs.Prelude.{Err}
use Rattle.std.proofs.Common.{rules}
use mathlib.Core.Path.{◌≡◌}
use Rattle.nesting.specs.Nest.{nested}
use Rattle.swaps.specs.inner.Turns.{searched}
use Rattle.report.proofs.readied.Preparing.{ready-given, ready_firsts, ready-sheet, ready-shapes, ready-reply, over_reply}
use Rattle.plan_job.proofs.plan_tables.Goals as goal

pub prepare-p-requires : goal.prepare-p-requires
prepare-p-requires c = (c.requires.0.2.tabled.rows_long, c.requires.1)

pub returns-in_err-p : goal.returns-in_err-p
returns-in_err-p c = let a = c.args in
    let q = c.prepare-p in
    let e : c.from_residual.result ≡ Err c.in_err-p.field-0.0 = search rules in
    λ j l R Z r.
    rw e (over_reply R Z q.result _ _ _ _ (q.ensures j R.from R.header_is) (nested j l (searched j l a.order.now a.n)) _ c.in_err-p.was)

pub search_plan-requires : goal.search_plan-requires
search_plan-requires c = let p = c.requires in
    let j = p.0.0 in
    let R = p.0.2 in
    let Z = p.0.3 in
    let q = c.prepare-p.result in
    let E = c.prepare-p.ensures j R.from R.header_is in
    let e = c.in_ok-p.was in (
      (j, ready-given R Z q _ _ _ _ E e, p.0.4, R.number),
      ready-sheet R Z q _ _ _ _ E e,
      ready-shapes R Z q _ _ _ _ E e,
      p.2,
      p.3,
      ready_firsts R Z q _ _ _ _ E e,
    )

pub returns : goal.returns
returns c = let a = c.args in
    let q = c.prepare-p in
    let e = c.in_ok-p.was in
    let s = c.search_plan in
    λ j l R Z r.
    let E = q.ensures j R.from R.header_is in
    ready-reply R Z q.result _ _ _ _ E e (nested j l (searched j l a.order.now a.n)) s.result _
    (λ e1 e2 e3 e4 z. s.ensures j l (ready-given R Z q.result _ _ _ _ E e) r R.number R.header_is e1 e2 e3 e4 z)
