-- `withdraw::withdraw_job::stands` meets its contract. Assumes nothing.
use Rattle.withdraw.proofs.withdraw_job.Answering.{stands-early, stands-late}
use Rattle.withdraw.proofs.withdraw_job.stands.Goals as goal

pub returns-then-place-state : goal.returns-then-place-state
returns-then-place-state c = stands-early c.args.state c.args.place c.if-place-state.true

pub returns : goal.returns
returns c = stands-late c.args.state c.args.place c.if-place-state.false
