use mathlib.Core.Path.{ap, ◌∙◌}
use mathlib.Core.Bool.{not}
use native.Mathlib.Omega.{arith}
use Rattle.store.proofs.Whole.{sum_fits, short_is, fits_is, full_is, room_is, six_in, few_in, firsts_in, six-after, laid_on, done_is}
use Rattle.store.proofs.Firsts.{firsts_same}
use Rattle.store.proofs.store_copy.Goals as goal

pub overflow_add-n : goal.overflow_add-n
overflow_add-n c = let a = c.args in
    record {
      fits = sum_fits a.placed.now a.apart.now a.n _ c.requires.0.room (omega arith) c.capacity-k.ensures
          (omega arith);
    }

pub returns-then-standing_capacity-n : goal.returns-then-standing_capacity-n
returns-then-standing_capacity-n c = let a = c.args in
    let p = c.requires in (
      short_is a.ix a.apart.now a.x a.y a.n a.placed.now a.entries.now a.starts.now a.firsts.now p.0 _ _
          c.standing_capacity.ensures c.capacity-k.ensures c.if-standing_capacity-n.true,
      p.0,
      firsts_same a.ix a.placed.now a.n a.firsts.now p.2,
    )

pub overflow_sub-room : goal.overflow_sub-room
overflow_sub-room c = c.requires.0.within 512 (omega arith)

pub returns-then-is_none : goal.returns-then-is_none
returns-then-is_none c = let a = c.args in
    let p = c.requires in
    let f = fits_is a.ix a.apart.now a.x a.y a.n a.placed.now a.entries.now a.starts.now a.firsts.now p.0 _ _
    c.standing_capacity.ensures c.capacity-k.ensures c.if-standing_capacity-n.false in (
      full_is a.ix a.apart.now a.x a.y a.n a.placed.now a.entries.now a.starts.now a.firsts.now p.0 f _ c.entries_rest.ensures
          (c.is_none.ensures ∙ ap not c.if-is_none.true),
      p.0,
      firsts_same a.ix a.placed.now a.n a.firsts.now p.2,
    )

pub store_moved-requires : goal.store_moved-requires
store_moved-requires c = let a = c.args in
    let p = c.requires in
    six_in a.ix a.apart.now a.x a.y a.n a.placed.now a.entries.now a.starts.now a.firsts.now p.0
    (fits_is a.ix a.apart.now a.x a.y a.n a.placed.now a.entries.now a.starts.now a.firsts.now p.0 _ _
    c.standing_capacity.ensures c.capacity-k.ensures c.if-standing_capacity-n.false)

pub enter_copy-requires : goal.enter_copy-requires
enter_copy-requires c = let a = c.args in
    let p = c.requires in
    let f = fits_is a.ix a.apart.now a.x a.y a.n a.placed.now a.entries.now a.starts.now a.firsts.now p.0 _ _
    c.standing_capacity.ensures c.capacity-k.ensures c.if-standing_capacity-n.false in
    let E = c.store_moved.ensures in
    let k = c.capacity-k.ensures in (
      omega arith,
      six-after a.ix a.apart.now a.x a.y a.n a.placed.now a.entries.now a.starts.now a.firsts.now p.0 f _ _ k E,
      p.1,
      laid_on
          a.ix a.apart.now a.x a.y a.n a.placed.now a.entries.now a.starts.now a.firsts.now p.0 f _ E,
      few_in a.ix a.apart.now a.x a.y a.n a.placed.now a.entries.now a.starts.now a.firsts.now p.0 f _ k,
      firsts_in a.ix a.apart.now a.x a.y a.n a.placed.now a.entries.now a.starts.now a.firsts.now p.0 f _ k,
    )

pub returns : goal.returns
returns c = let a = c.args in
    let p = c.requires in
    let f = fits_is a.ix a.apart.now a.x a.y a.n a.placed.now a.entries.now a.starts.now a.firsts.now p.0 _ _
    c.standing_capacity.ensures c.capacity-k.ensures c.if-standing_capacity-n.false in
    let g = room_is a.ix a.apart.now a.x a.y a.n a.placed.now a.entries.now a.starts.now a.firsts.now p.0 f _
    c.entries_rest.ensures (c.is_none.ensures ∙ ap not c.if-is_none.false) in
    done_is a.ix a.apart.now a.x a.y a.n a.placed.now a.entries.now a.starts.now a.firsts.now p.0 f g _
    c.enter_copy.result _ _ _ _
    c.capacity-k.ensures c.store_moved.ensures c.enter_copy.ensures.0 c.enter_copy.ensures.1 p.2
    c.enter_copy.auto.firsts c.enter_copy.ensures.2
