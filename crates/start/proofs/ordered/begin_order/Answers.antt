-- `start::ordered::begin_order` meets its contract. Assumes nothing.
use Rattle.rooms.proofs.Zeroing.{zeroed, zeroed-doubles}
use mathlib.Core.List.{◌++◌}
use lib.ListN.{length, drop, replicate}
use Rattle.std.proofs.Common.{rules}
use Rattle.filling.specs.Rooms.{laid}
use Rattle.start.proofs.ordered.Beginning.{ready, not-ready}
use Rattle.start.proofs.ordered.begin_order.Goals as goal

pub returns-in-Ok : goal.returns-in-Ok
unfolding laid
returns-in-Ok c = let a = c.args in
    let p = c.prepare-p in
    λ j l T H C v. ready j a.order.now l a.shapes.now a.sheet.now a.sheet_entries.now a.sheet_firsts.now C v p.result _ _ _ _
    (p.ensures j T H)
    c.in-Ok.is (c.copy_from_slice.new.self ++ drop (length a.order.now) (replicate 4096 0)) (search rules)
    c.accepted.result c.accepted.ensures

pub returns-in-Err : goal.returns-in-Err
returns-in-Err c = let a = c.args in
    let p = c.prepare-p in
    λ j l T H C v. not-ready j a.order.now l a.shapes.now a.sheet.now a.sheet_entries.now a.sheet_firsts.now C v p.result _ _ _ _
    (p.ensures j T H)
    _ c.refused.result c.fill.new.self c.fill-in-Err.new.self c.fill-in-Err-2.new.self c.fill-in-Err-3.new.self
    c.in-Err.is c.refused.ensures
    p.auto.shapes p.auto.sheet p.auto.sheet_entries p.auto.sheet_firsts
    (zeroed-doubles _ c.fill.ensures.after) (zeroed-doubles _ c.fill-in-Err.ensures.after) (zeroed _ c.fill-in-Err-2.ensures.after) (zeroed _ c.fill-in-Err-3.ensures.after)
