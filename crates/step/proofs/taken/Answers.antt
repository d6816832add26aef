-- `taken`: the state after a copy that is taken. Assumes nothing.
use lib.ListN.{length}
use Rattle.step.proofs.After.{state_is}
use Rattle.step.proofs.taken.Goals as goal

pub returns : goal.returns
returns c = let a = c.args in
    let s = a.state in
    let g = c.well_formed.0.1.1 in
    state_is s a.step a.tracks.now c.read.new.out c.read-2.new.out
    c.spot_of-spot.result.number c.spot_of-spot.result.x c.spot_of-spot.result.y c.spot_of-spot.result.gap
    (length s.next_column) (length s.look_counts) (g.1.1.1.0.1.0.1)
    (g.1.1.1.1.0.1.0.1) (c.read.ensures 0) (c.read-2.ensures 0)
    (c.spot_of-spot.ensures.0 a.n c.requires.1 c.requires.2) c.spot_of-spot.ensures.1 c.spot_of-spot.ensures.2 c.spot_of-spot.ensures.3
