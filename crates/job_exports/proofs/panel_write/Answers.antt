-- `job_exports::panel_write` meets its contract. Assumes nothing.
use mathlib.Core.Path.{ap, ◌∙◌}
use Rattle.job.specs.declared.Header.{Header}
use Rattle.job_bits.specs.Given.{given_job}
use Rattle.write_job.specs.Written.{written}
use lib.ListN.{length}
use Rattle.job_exports.proofs.Telling.{job-told}
use Rattle.job_exports.proofs.panel_write.Goals as goal

pub returns : goal.returns
returns c =
    job-told _ _ _ _ (record { reply = c.write_job-r.result; out = c.write_job-r.new.out }) _
    (c.write_job-r.ensures
    ∙ ap (λ (h : Header). written (given_job h c.args.rows.now c.args.areas.now c.args.counts.now c.args.coordinates.now) (length c.args.out.now)) c.header_of.ensures)
    c.reply_number.ensures c.unwrap_or.ensures c.store.ensures
