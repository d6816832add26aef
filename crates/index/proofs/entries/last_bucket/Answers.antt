use mathlib.Core.Path.{ap, ◌∙◌}
use Rattle.trapezoid.specs.declared.Trapezoid.{Trapezoid}
use Rattle.index.specs.Buckets.{bucket_in}
use Rattle.index.proofs.entries.last_bucket.Goals as goal

pub load-p-requires : goal.load-p-requires
load-p-requires c = c.requires

pub returns : goal.returns
returns c = c.bucket.ensures ∙ ap (λ (p : Trapezoid). bucket_in c.args.ix p.x1) c.load-p.ensures
