-- `withdraw::withdraw_copy::withdraw_copy` meets its contract. Assumes nothing.
use Prim.Native.Nat.{◌+◌}
use Rattle.withdraw.proofs.withdraw_copy.Leaves as Leaves
use Rattle.withdraw.proofs.withdraw_copy.withdraw_copy.Goals as goal

pub right_found-right-requires : goal.right_found-right-requires
right_found-right-requires c = let L = c.requires.2 in
    (L.under, Leaves.few L, Leaves.slotted L)

pub strips_before-before-requires : goal.strips_before-before-requires
strips_before-before-requires c = let L = c.requires.2 in
    (Leaves.early L, Leaves.slotted_to L c.args.place (Leaves.before L), Leaves.sum_fits L)

pub strips_here-gone-requires : goal.strips_here-gone-requires
strips_here-gone-requires c = let L = c.requires.2 in
    (Leaves.in_layout L, Leaves.slotted_to L (c.args.place + 1) (Leaves.next L))

pub close_rooms-requires : goal.close_rooms-requires
close_rooms-requires c = let L = c.requires.2 in (
  Leaves.gone_few L c.strips_before-before.ensures c.strips_here-gone.ensures,
  Leaves.long-placed L,
  Leaves.numbered L,
  Leaves.long_firsts L,
  Leaves.entries_fit_lem L c.new-ix.result c.new-ix.ensures,
)

pub state_without-requires : goal.state_without-requires
state_without-requires c = let L = c.requires.2 in
    (L.under, Leaves.within-order L, Leaves.few-copies L, Leaves.here-few L c.strips_here-gone.ensures)

pub shape_of-placed : goal.shape_of-placed
shape_of-placed c = c.close_rooms.auto.placed

pub shape_of-entries : goal.shape_of-entries
shape_of-entries c = c.close_rooms.auto.entries

pub shape_of-firsts : goal.shape_of-firsts
shape_of-firsts c = c.close_rooms.auto.firsts

pub returns : goal.returns
returns c = λ j w L. Leaves.leaves L c.strips_before-before.result c.strips_here-gone.result c.strips_before-before.ensures c.strips_here-gone.ensures
    c.new-ix.result c.new-ix.ensures
    _ c.right_found-right.result _ _ _ c.right_found-right.ensures c.state_without.ensures c.close_rooms.ensures.0 c.close_rooms.ensures.1
    c.close_rooms.ensures.2
