-- `job_exports::panel_tables` meets its contract. Assumes nothing.
use Rattle.job_exports.proofs.Telling.{tables-told}
use Rattle.job_exports.proofs.panel_tables.Goals as goal

pub returns : goal.returns
returns c =
    let r = c.read_tables-r in
    tables-told _ _ _ _ _
    (record { reply = r.result; rows = r.new.rows; areas = r.new.areas; counts = r.new.counts; coordinates = r.new.coordinates }) _
    r.ensures c.reply_number.ensures c.tell_header.ensures c.tell_resolution.ensures
