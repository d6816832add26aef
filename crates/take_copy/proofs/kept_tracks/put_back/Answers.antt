-- `take_copy::kept_tracks::put_back`: the first n numbers are put back. Assumes nothing.
use native.Mathlib.Omega.{arith}
use mathlib.Core.Path.{refl}
use Rattle.take_copy.proofs.kept_tracks.Keeping.{back_none, back_on, back_all}
use Rattle.take_copy.proofs.kept_tracks.put_back.Goals as goal

pub loop-n-init : goal.loop-n-init
loop-n-init c = (omega arith, refl, back_none c.args.slot c.args.kept.now c.args.tracks.now)

pub loop-n-preserved : goal.loop-n-preserved
loop-n-preserved c = let l = c.loop-n in
    let a = c.args in
    let b = back_on a.slot a.kept.now a.tracks.now l.tracks l.n _ (omega arith) refl l.invariant.2 in
    (omega arith, b.long, b)

pub shape_of-tracks : goal.shape_of-tracks
shape_of-tracks c = c.loop-n.invariant.1

pub returns : goal.returns
returns c = let l = c.loop-n in
    let a = c.args in
    back_all a.slot a.kept.now a.tracks.now l.tracks l.n 32 (omega arith) l.invariant.2
