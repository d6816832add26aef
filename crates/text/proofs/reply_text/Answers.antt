-- `text::reply_text` meets its contract. Assumes nothing.
use Rattle.text.specs.inner.Tables.{reply_by}
use Rattle.text.proofs.reply_text.Goals as goal

pub returns-in-Ok : goal.returns-in-Ok
unfolding reply_by
returns-in-Ok c = rw c.in-Ok.is c.plan_text.ensures

pub returns-in-Err : goal.returns-in-Err
unfolding reply_by
returns-in-Err c = rw c.in-Err.is c.refusal_text.ensures
