-- `slabs::xs::no_nan` meets its contract. Assumes nothing.
use Prim.Native.Nat.{◌*◌}
use native.Mathlib.Omega.{arith}
use Rattle.slabs.proofs.xs.Runs.{number_at, number_more}
use Rattle.slabs.proofs.xs.no_nan.Goals as goal

pub loop-i-preserved : goal.loop-i-preserved
loop-i-preserved c = let l = c.loop-i in let a = c.args in let g = c.is_nan in
    (omega arith, number_more a.points.now l.i l.invariant.1 (number_at a.points.now l.i g.result (c.type_inv.points (2 * l.i)) g.ensures.value c.if-is_nan.false))
