-- `next_copies::take_all::state_after` meets its contract. Assumes nothing.
use native.Mathlib.Omega.{arith}
use mathlib.Core.Path.{sym}
use lib.ListN.{length}
use lib.Dec.{lit<}
use Rattle.next_copies.proofs.take_all.Begin.{put-together}
use Rattle.step.proofs.After.{readable}
use Rattle.next_copies.proofs.take_all.state_after.Goals as goal

pub slice_bounds-read-end : goal.slice_bounds-read-end
slice_bounds-read-end c = let g = c.well_formed.0.1.1 in sym g.1.1.1.0.1.0.1

pub read-requires : goal.read-requires
read-requires c = let g = c.well_formed.0.1.1 in
    readable 0 (length c.args.state.next_column) (length c.args.tracks.now) (lit< tt)
    g.1.1.1.0.1.0.1 c.requires.0

pub slice_bounds-read-end-2 : goal.slice_bounds-read-end-2
slice_bounds-read-end-2 c = let g = c.well_formed.0.1.1 in sym g.1.1.1.1.0.1.0.1

pub read-requires-2 : goal.read-requires-2
read-requires-2 c = let g = c.well_formed.0.1.1 in
    readable 1 (length c.args.state.look_counts) (length c.args.tracks.now) (lit< tt)
    g.1.1.1.1.0.1.0.1 c.requires.0

pub overflow_add-taken : goal.overflow_add-taken
overflow_add-taken c = record { fits = omega (arith, c.requires.1) }

pub returns : goal.returns
returns c = let a = c.args in
    let s = a.state in
    let g = c.well_formed.0.1.1 in
    put-together s _ a.run.last.totals a.tracks.now a.orientation a.x a.y a.gap c.read.new.out
    c.read-2.new.out (length s.next_column) (length s.look_counts)
    g.1.1.1.0.1.0.1 g.1.1.1.1.0.1.0.1
    (c.read.ensures 0) (c.read-2.ensures 0)
