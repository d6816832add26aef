-- `grid_of`: the grid of a state's tables. Assumes nothing.
use mathlib.Core.Path.{ap}
use Rattle.index.specs.declared.Index.{Index}
use Rattle.choose.specs.declared.Grid.{Grid}
use Rattle.filling.specs.Consistent.{sheet_index}
use Rattle.choose.proofs.grid_of.Goals as goal

pub returns : goal.returns
unfolding sheet_index
returns c = let t = c.args.tables in
    ap {B = Grid} (λ (i : Index). record { index = i; bounds = t.sheet_bounds; resolution = t.resolution; apart_strips = t.apart_strips })
    c.new.ensures
