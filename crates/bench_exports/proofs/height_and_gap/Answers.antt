use mathlib.Core.Path.{sym, ap, refl}
use lib.Ieee.{of_bits}
use Rattle.bench_exports.specs.inner.Answers.{height_told, gap_told, look_told, gap_seen}
use Rattle.bench_exports.proofs.height_and_gap.Goals as goal

pub returns-in-Ok-Free : goal.returns-in-Ok-Free
unfolding look_told gap_seen height_told gap_told
returns-in-Ok-Free c = let e = (rw c.in-Ok-Free.is at c.in-Ok-Free.field-0-is) in rw c.in-Ok-Free.is (sym (ap height_told e), sym (ap gap_told e))

pub returns-in-Ok-Full : goal.returns-in-Ok-Full
unfolding look_told gap_seen height_told gap_told of_bits
returns-in-Ok-Full c = let e = (rw c.in-Ok-Full.is at c.in-Ok-Full.field-0-is) in rw c.in-Ok-Full.is (sym (ap height_told e), sym (ap gap_told e))

pub returns-in-Err : goal.returns-in-Err
unfolding look_told gap_seen of_bits
returns-in-Err c = rw c.in-Err.is (refl, refl)
