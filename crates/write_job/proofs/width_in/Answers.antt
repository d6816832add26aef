-- `write_job::width_in` meets its contract. Assumes nothing.
use mathlib.Core.Path.{sym}
use native.Mathlib.Omega.{arith}
use lib.Ieee.{Float, binary64, of_bits}
use lib.ListN.{length-replicate}
use lib.Seq.{length-take-le}
use Rattle.write_job.proofs.SheetLaws.{width_read, width-none, points_of_lem}
use Rattle.write_job.proofs.width_in.Goals as goal

pub slice_bounds-read_set-end : goal.slice_bounds-read_set-end
slice_bounds-read_set-end c = sym (length-take-le _ _ c.requires)

pub width_of-requires : goal.width_of-requires
width_of-requires c = (
  omega (arith, c.read_set.auto.ends, length-replicate {A = Float} 1024 (of_bits binary64 0)),
  points_of_lem _ _ _ _ c.read_set.ensures.1
      c.in-Ok.is,
)

pub returns-in-Ok : goal.returns-in-Ok
returns-in-Ok c = width_read _ _ _ _ _ c.read_set.ensures.0 _ _ _ _ c.in-Ok.is (omega (
  arith,
  c.read_set.auto.ends,
  length-replicate {A = Float} 1024 (of_bits binary64 0),
  points_of_lem _ _ _ _ c.read_set.ensures.1
      c.in-Ok.is,
)) c.width_of.ensures

pub returns-in-Err : goal.returns-in-Err
returns-in-Err c = width-none _ _ _ _ _ c.read_set.ensures.0 _ _ c.in-Err.is
