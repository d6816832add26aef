-- `plan_exports::panel_nest` is `plan_text`. Assumes nothing.
use Rattle.plan_exports.proofs.panel_nest.Goals as goal

pub returns : goal.returns
returns c = c.plan_text.ensures
