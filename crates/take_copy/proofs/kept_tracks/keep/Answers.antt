-- `take_copy::kept_tracks::keep`: the first i numbers are kept. Assumes nothing.
use native.Mathlib.Omega.{arith}
use mathlib.Core.Path.{refl}
use lib.ListN.{length-set}
use Rattle.take_copy.proofs.kept_tracks.Keeping.{kept-none, kept_on}
use Rattle.take_copy.proofs.kept_tracks.keep.Goals as goal

pub loop-i-init : goal.loop-i-init
loop-i-init c = (omega arith, refl, kept-none c.args.slot c.args.tracks.now c.args.kept.now)

pub loop-i-preserved : goal.loop-i-preserved
loop-i-preserved c = let l = c.loop-i in
    let a = c.args in (
      omega arith,
      simp length-set l.invariant.1,
      kept_on a.slot a.tracks.now l.kept l.i _ (omega arith) refl l.invariant.2,
    )

pub shape_of-kept : goal.shape_of-kept
shape_of-kept c = c.loop-i.invariant.1

pub returns : goal.returns
returns c = λ q b. c.loop-i.invariant.2 q (omega arith)
