use mathlib.Core.Path.{ap, ◌∙◌}
use Rattle.bench_exports.specs.inner.Answers.{height_told, look_told}
use Rattle.bench_exports.proofs.panel_height.Goals as goal

pub returns : goal.returns
unfolding look_told
returns c = c.height_and_gap.ensures.0 ∙ ap height_told c.height-seen.ensures
