use mathlib.Core.Path.{◌∙◌}
use Rattle.store.proofs.Whole.{width_some, bucket_next}
use Rattle.store.proofs.width_at.Goals as goal

pub overflow_add-last : goal.overflow_add-last
overflow_add-last c = record { fits = bucket_next c.args.ix _ _ c.bucket-last.ensures }

pub returns : goal.returns
returns c = c.saturating_sub.ensures ∙ width_some c.args.ix c.args.q c.args.x _ _ c.bucket-first.ensures c.bucket-last.ensures
