-- `rooms::tracks::read`: the first i numbers are read. Assumes nothing.
use native.Mathlib.Omega.{arith}
use Rattle.rooms.proofs.tracks.Laying.{read_all}
use Rattle.rooms.proofs.tracks.read.Goals as goal

pub returns : goal.returns
returns g c = let l = c.loop-i in
    let a = c.args in
    λ d. read_all d a.k a.r a.table.now l.out _ l.i l.invariant.1 (omega arith) (l.invariant.2 d)
