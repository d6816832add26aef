-- `read_tables::sets::put_orientation` meets its contract. Assumes nothing.
use native.Mathlib.Omega.{arith}
use Rattle.kinds.specs.inner.Tables.{orientation_at}
use Rattle.read_tables.proofs.Putting.{orientation-put}
use Rattle.read_tables.proofs.sets.put_orientation.Goals as goal

pub returns : goal.returns
unfolding orientation_at
returns c = (
  orientation-put c.args.bytes.now c.args.places.now c.args.slot _ _ _ _ _ _ _ _ _ c.put_set-v.ensures.0
      c.put_set.ensures.0,
  (omega (arith, c.put_set-v.ensures.1.0, c.put_set.ensures.1.0), omega (arith, c.put_set-v.ensures.1.1, c.put_set.ensures.1.1)),
)
