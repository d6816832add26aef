-- `consistent::room_tests::shapes_fit` meets its contract. Assumes nothing.
use Prim.Native.Nat.{◌*◌}
use mathlib.Core.Path.{sym}
use lib.ListN.{take}
use lib.Seq.{length-take-le}
use Rattle.consistent.proofs.Cases.{slots-rest}
use Rattle.consistent.proofs.room_tests.shapes_fit.Goals as goal

pub slice_bounds-slots_fit-end : goal.slice_bounds-slots_fit-end
slice_bounds-slots_fit-end c = sym (length-take-le (6 * c.args.apart_strips) c.args.shapes.now c.requires.1)

pub returns : goal.returns
returns c = let a = c.args in
    slots-rest a.bounds a.resolution a.taken a.inset_bounds.now a.parts.now (take (6 * a.apart_strips) a.shapes.now) (6 * a.apart_strips) a.shapes.now a.next_column.now a.look_counts.now a.rows.now a.kinds c.slots_fit.ensures
