use native.Mathlib.Omega.{arith}
use Rattle.index.specs.Buckets.{bucket_in}
use Rattle.index.proofs.Index.bucket.Goals as goal

pub returns-then-b-lt-BUCKETS : goal.returns-then-b-lt-BUCKETS
unfolding bucket_in
returns-then-b-lt-BUCKETS c = omega (arith, c.if-b-lt-BUCKETS.true, c.floor-b.ensures)

pub returns : goal.returns
unfolding bucket_in
returns c = omega (arith, c.if-b-lt-BUCKETS.false, c.floor-b.ensures)
