-- `put_copy`: the winner's apart strips are stored. Assumes nothing.
use Prim.Native.Nat.{◌*◌}
use lib.ListN.{take}
use Rattle.place.proofs.Putting.{put_is, put-laid, put_firsts}
use Rattle.store.proofs.Whole.{sum_fits}
use Rattle.place.proofs.put_copy.Goals as goal

pub after-requires : goal.after-requires
after-requires c = let a = c.args in
    sum_fits a.placed.now c.strips_of-part.result.now a.t.placed_strips _ c.requires.0.room c.well_formed.1.1.1.1.1.0.0
    c.capacity-k.ensures c.strips_of-part.type_inv.0

pub returns : goal.returns
returns c = let a = c.args in
    let n = 6 * a.g.apart_strips in
    let E = c.store_copy-stored.ensures in (
      put_is a.g.index a.p a.q a.t (take n a.shapes.now) a.placed.now a.entries.now a.starts.now a.firsts.now
          c.strips_of-part.result.now
          c.capacity-k.result c.store_copy-stored.result _ _ _ c.after.result c.strips_of-part.ensures c.capacity-k.ensures c.after.ensures
          E.0,
      put-laid a.g.index a.p a.q a.t (take n a.shapes.now) a.placed.now a.entries.now a.starts.now a.firsts.now
          c.strips_of-part.result.now
          c.capacity-k.result c.store_copy-stored.result _ _ _ c.after.result c.strips_of-part.ensures c.capacity-k.ensures c.after.ensures
          E.1,
      put_firsts a.g.index a.p a.t _ a.firsts.now _ c.capacity-k.result _ c.store_copy-stored.result c.after.result
          c.capacity-k.ensures
          c.after.ensures E.2,
    )
