use mathlib.Core.Path.{ap, ◌∙◌}
use Rattle.trapezoid.specs.declared.Trapezoid.{Trapezoid}
use Rattle.index.specs.Buckets.{bucket_in}
use Rattle.enter.proofs.span_marks.span_of.Goals as goal

pub load-p-requires : goal.load-p-requires
load-p-requires c = c.requires

pub returns : goal.returns
returns c = (c.bucket-lo.ensures ∙ ap (λ (q : Trapezoid). bucket_in c.args.ix q.x0) c.load-p.ensures, c.bucket-hi.ensures ∙ ap (λ (q : Trapezoid). bucket_in c.args.ix q.x1) c.load-p.ensures)
