-- `job_exports::header_of` meets its contract. Assumes nothing.
use Rattle.job_exports.proofs.Telling.{header_is}
use Rattle.job_exports.proofs.header_of.Goals as goal

pub returns : goal.returns
returns c =
    header_is _ _ _ _ _ _ _ _ c.value_at.ensures c.value_at-2.ensures c.value_at-3.ensures c.value_at-4.ensures c.value_at-5.ensures
    c.value_at-6.ensures
