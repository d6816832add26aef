-- `consistent::agreed::agree` meets its contract. Assumes nothing.
use Rattle.consistent.proofs.agreed.agree.Goals as goal

pub returns : goal.returns
returns c = c.consistent.ensures
