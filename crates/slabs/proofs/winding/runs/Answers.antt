-- `slabs::winding::runs` meets its contract. Assumes nothing.
use Rattle.slabs.specs.Slab.{runs}
use Rattle.slabs.proofs.Walks.{positive_wound, leb-not}
use Rattle.slabs.proofs.winding.runs.Goals as goal

pub returns-then-sheet : goal.returns-then-sheet
unfolding runs
returns-then-sheet c = let a = c.args in rw (c.if-sheet.true, positive_wound a.w a.base) (leb-not a.w a.base)

pub returns-else-sheet : goal.returns-else-sheet
unfolding runs
returns-else-sheet c = let a = c.args in rw (c.if-sheet.false, positive_wound a.w a.base)
