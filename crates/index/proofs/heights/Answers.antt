use Rattle.index.specs.Intervals.{interval_of}
use Rattle.index.specs.inner.Listing.{heights_of}
use Rattle.index.proofs.heights.Goals as goal

pub returns : goal.returns
unfolding heights_of interval_of
returns c = rw (
  c.larger.ensures,
  c.smaller.ensures,
  c.at-qb.ensures,
  c.at-qa.ensures,
  c.at-pb.ensures,
  c.at-pa.ensures,
)
