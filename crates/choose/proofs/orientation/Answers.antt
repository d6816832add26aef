-- `orientation`: the search of one orientation, out of the tables by slot. Assumes nothing.
use Rattle.choose.proofs.Turns.{ready-parts, ready-few, orient_is}
use Rattle.choose.specs.inner.Choosing.{surroundings_in}
use Rattle.rooms.specs.tracks.inner.Tracks.{next_columns, look_counts_from}
use lib.ListN.{length}
use Prim.Native.Nat.{◌/◌}
use Rattle.choose.proofs.orientation.Goals as goal

pub search_part-found-requires : goal.search_part-found-requires
search_part-found-requires c = let a = c.args in
    let p = c.requires in
    let r = ready-parts a.g.index (surroundings_in (length a.room.now / 2) a.g a.inset_bounds.now a.parts.now a.shapes.now a.sheet.now
    a.placed.now)
    a.sheet_entries.now a.sheet_starts.now a.placed_entries.now a.placed_starts.now a.slot c.bounds_at-b.result
    c.part_at-p.result c.new-k.result
    p.0 c.bounds_at-b.ensures c.part_at-p.ensures c.new-k.ensures in
    (r.0, r.1, p.1, p.2, p.3, p.4, p.5, p.6)

pub winner_of-requires : goal.winner_of-requires
winner_of-requires c = let a = c.args in
    ready-few a.g.index (surroundings_in (length a.room.now / 2) a.g a.inset_bounds.now a.parts.now a.shapes.now a.sheet.now
    a.placed.now)
    a.sheet_entries.now a.sheet_starts.now a.placed_entries.now a.placed_starts.now a.slot c.bounds_at-b.result c.new-k.result
    c.requires.0 c.bounds_at-b.ensures c.new-k.ensures

pub returns : goal.returns
returns c = let a = c.args in
    orient_is (surroundings_in (length a.room.now / 2) a.g a.inset_bounds.now a.parts.now a.shapes.now a.sheet.now a.placed.now)
    a.slot
    a.o
    (look_counts_from a.tracks.now) (next_columns a.tracks.now) _ _ c.bounds_at-b.result c.part_at-p.result c.new-k.result c.search_part-found.result
    c.winner_of.result
    c.bounds_at-b.ensures c.part_at-p.ensures c.new-k.ensures c.winner_of.ensures c.search_part-found.ensures
