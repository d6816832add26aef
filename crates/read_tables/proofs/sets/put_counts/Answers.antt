-- `read_tables::sets::put_counts` meets its contract. Assumes nothing.
use Rattle.read_tables.proofs.Storing.{stored_one, stored-then}
use borrow.Author.Rules.{rules}
use Rattle.read_tables.proofs.sets.put_counts.Goals as goal

pub returns : goal.returns
returns c = (
  stored-then _ _ _ _ _ _ _ _ (stored_one _ _ _ _ c.store.ensures)
      c.put_loops.ensures,
  search rules,
)
