use mathlib.Core.Path.{ap, ◌∙◌}
use lib.ListN.{set}
use lib.Ieee.{Float}
use Rattle.bench_exports.specs.inner.Answers.{look_told, gap_seen}
use Rattle.bench_exports.proofs.panel_look.Goals as goal

pub returns : goal.returns
returns c = (
  c.height_and_gap-height.ensures.0 ∙ ap look_told c.look_at-answer.ensures,
  c.put_first.ensures ∙ ap (λ (g : Float). set c.args.gap.now 0 g)
      (c.height_and_gap-height.ensures.1 ∙ ap gap_seen c.look_at-answer.ensures),
)
