-- `look::height::interval` meets its contract. Assumes nothing.
use Rattle.index.specs.inner.Listing.{interval_at}
use borrow.Author.Rules.{rules}
use Rattle.look.proofs.height.interval.Goals as goal

pub returns : goal.returns
unfolding interval_at
returns c = search rules
