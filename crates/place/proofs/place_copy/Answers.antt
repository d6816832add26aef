-- `place_copy`: every orientation is searched, then the winner is settled. Assumes nothing.
use mathlib.Core.Path.{refl}
use Prim.Native.Nat.{◌/◌, ◌+◌, ◌*◌}
use lib.ListN.{length, take}
use Rattle.rooms.specs.tracks.inner.Tracks.{next_columns, look_counts_from}
use Rattle.choose.specs.inner.Choosing.{surroundings_in}
use Rattle.place.proofs.Readying.{ready_of, prefix_firsts}
use Rattle.place.proofs.Putting.{chosen_among, settled_under, place_is}
use Rattle.place.proofs.place_copy.Goals as goal

pub choose-winner-requires : goal.choose-winner-requires
choose-winner-requires c = let a = c.args in
    let p = c.requires in
    let w = surroundings_in (length a.room.now / 2) a.g a.inset_bounds.now a.parts.now a.shapes.now a.sheet.now
    (take (6 * a.t.placed_strips) a.placed.now) in (
      (λ o h. ready_of a.g.index a.placed.now a.t.placed_strips a.entries.now a.starts.now p.4 w a.sheet_entries.now
          a.sheet_starts.now
          (a.copy.slot + o) refl (p.0 o h)),
      p.1,
      p.2,
      p.3,
      p.6,
      p.7,
      prefix_firsts a.g.index a.placed.now a.t.placed_strips a.entries.now a.starts.now p.4 a.firsts.now p.8,
    )

pub settle-requires : goal.settle-requires
settle-requires c = let a = c.args in
    let p = c.requires in
    let w = surroundings_in (length a.room.now / 2) a.g a.inset_bounds.now a.parts.now a.shapes.now a.sheet.now
    (take (6 * a.t.placed_strips) a.placed.now) in (
      p.4.laid,
      p.5,
      (λ o h. (p.0 o h).parted),
      chosen_among w a.copy.slot a.copy.orientations c.choose-winner.result (look_counts_from a.tracks.now) (next_columns a.tracks.now) _ _
          c.choose-winner.ensures,
      p.1,
      p.6,
      p.8,
    )

pub returns : goal.returns
returns c = let a = c.args in
    let w = surroundings_in (length a.room.now / 2) a.g a.inset_bounds.now a.parts.now a.shapes.now a.sheet.now
    (take (6 * a.t.placed_strips) a.placed.now) in
    let C = c.choose-winner.ensures in
    let E = c.settle.ensures in (
      place_is a.g.index w a.copy.area a.copy.slot a.copy.orientations a.t a.placed.now a.entries.now a.starts.now
          a.firsts.now
          (look_counts_from a.tracks.now) (next_columns a.tracks.now) c.choose-winner.result c.settle.result _ _ _ _ _ C E.0,
      E.1,
      settled_under a.g.index a.copy.orientations c.choose-winner.result a.copy.area a.copy.slot a.t a.parts.now
          (take (6 * a.g.apart_strips) a.shapes.now)
          a.placed.now a.entries.now a.starts.now a.firsts.now c.settle.result _ _ _
          (chosen_among w a.copy.slot a.copy.orientations c.choose-winner.result (look_counts_from a.tracks.now) (next_columns a.tracks.now) _ _ C)
          E.0,
      E.2,
    )
