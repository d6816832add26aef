-- `settle`: the winner is stored, or the copy has no place, or 22. Assumes nothing.
use Rattle.std.specs.Prelude.{Some, None, Ok}
use mathlib.Core.Path.{◌≡◌, sym, ap, ◌∙◌}
use borrow.Author.Rules.{rules}
use Prim.Native.Nat.{◌*◌}
use lib.ListN.{take}
use Rattle.choose.specs.inner.Choosing.{Winner}
use Rattle.place.specs.declared.Step.{Step}
use Rattle.place.specs.inner.Placing.{put, settle_of}
use Rattle.place.proofs.Putting.{slot_fits_lem, among_at, settle_at, without-laid, without_firsts}
use Rattle.store.proofs.Firsts.{firsts_same}
use Rattle.place.proofs.settle.Goals as goal

pub overflow_add-copy : goal.overflow_add-copy
overflow_add-copy c = let a = c.args in
    let p = c.requires in
    let e : a.winner ≡ Ok (Some c.in-Ok-Some.p) = search rules in
    record { fits = slot_fits_lem a.copy.slot _ a.copy.orientations (among_at a.copy.orientations a.winner _ p.3 e) p.4 }

pub part_at-q-requires : goal.part_at-q-requires
part_at-q-requires c = let a = c.args in
    let p = c.requires in
    let e : a.winner ≡ Ok (Some c.in-Ok-Some.p) = search rules in
    p.2 _ (among_at a.copy.orientations a.winner _ p.3 e)

pub returns-in-Ok-Some : goal.returns-in-Ok-Some
returns-in-Ok-Some c = let a = c.args in
    let E = c.put_copy.ensures in
    let e : a.winner ≡ Ok (Some c.in-Ok-Some.p) = search rules in (
      settle_at a.g.index a.winner _ c.part_at-q.result a.copy.area a.copy.slot a.t a.parts.now
          (take (6 * a.g.apart_strips) a.shapes.now)
          a.placed.now a.entries.now a.starts.now a.firsts.now _ e c.part_at-q.ensures E.0,
      E.1,
      E.2,
    )

pub returns-in-Ok-None : goal.returns-in-Ok-None
returns-in-Ok-None c = let a = c.args in
    let e : a.winner ≡ Ok None = search rules in (
      ap (λ (z : Step). put z a.placed.now a.entries.now a.starts.now) c.without.ensures
          ∙ sym (ap (λ (z : Winner). settle_of a.g.index z a.copy.area a.copy.slot a.t a.parts.now
          (take (6 * a.g.apart_strips) a.shapes.now)
          a.placed.now a.entries.now a.starts.now a.firsts.now) e),
      without-laid a.g.index a.t a.copy.area a.placed.now a.entries.now a.starts.now _ c.without.ensures c.requires.0,
      without_firsts a.g.index a.t a.copy.area a.placed.now a.firsts.now _ c.without.ensures c.requires.6,
    )

pub returns-in-Err : goal.returns-in-Err
returns-in-Err c = let a = c.args in
    (rw (c.in-Err.is, c.from.ensures), c.requires.0, firsts_same a.g.index a.placed.now a.t.placed_strips a.firsts.now c.requires.6)
