-- `accounts::store_position` meets its contract. Assumes nothing.
use Rattle.accounts.specs.inner.Laying.{set_position}
use Rattle.accounts.proofs.store_position.Goals as goal

pub returns : goal.returns
unfolding set_position
returns c = rw (c.nearest_u64_to_f64.ensures, c.nearest_u64_to_f64-2.ensures, c.nearest_u64_to_f64-3.ensures)
