-- `accounts::stands` meets its contract. Assumes nothing.
use Rattle.std.proofs.Common.{◌∙◌}
use Rattle.accounts.proofs.Counts.{stands_is}
use Rattle.accounts.proofs.stands.Goals as goal

pub returns : goal.returns
returns c = c.from.ensures ∙ stands_is c.args.number
