-- `job_exports::store_header` meets its contract. Assumes nothing.
use Rattle.job_exports.proofs.Telling.{eight_stored}
use Rattle.job_exports.proofs.store_header.Goals as goal

pub returns : goal.returns
returns c =
    eight_stored c.args.h.version _ _ _ _ _ _ _ c.args.room.now _ _ _ _ _ _ _ _ c.store.ensures c.store-2.ensures c.store-3.ensures
    c.store-4.ensures c.store-5.ensures c.store-6.ensures c.store-7.ensures c.store-8.ensures
