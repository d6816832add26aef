-- `start::begin` meets its contract. Assumes nothing.
use Rattle.job.proofs.Whole.{read_as}
use Rattle.start.proofs.Starting.{job-accepted, job-refused}
use Rattle.start.proofs.begin.Goals as goal

pub returns-in-Ok : goal.returns-in-Ok
returns-in-Ok c = let e = read_as _ c.read-j.result c.read-j.ensures.0 c.in-Ok.is in
    λ l C q. job-accepted c.args.bytes.now c.args.order.now l _ c.begin_job.result _ _ _ _ e (c.begin_job.ensures _ l e C q)

pub returns-in-Err : goal.returns-in-Err
returns-in-Err c = let a = c.args in
    let e = read_as _ c.read-j.result c.read-j.ensures.0 c.in-Err.is in
    λ l C q. job-refused a.bytes.now a.order.now l _ c.refused.result
    a.shapes.now a.sheet.now a.sheet_entries.now a.sheet_firsts.now C e c.refused.ensures
