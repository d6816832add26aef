-- `write_job::sheet_width` meets its contract. Assumes nothing.
use Prim.Native.Nat.{ℕ}
use lib.ListN.{length-replicate}
use Rattle.set_writer.proofs.Walking.{walk-sound}
use Rattle.write_job.proofs.SheetLaws.{finished_set, sheet-measured, sheet-none}
use Rattle.write_job.proofs.sheet_width.Goals as goal

pub finish-n-requires : goal.finish-n-requires
finish-n-requires c = walk-sound _ c.put_set.ensures.0 c.in-Ok.is

pub width_in-requires : goal.width_in-requires
width_in-requires c = (finished_set _ _ _ _ _ _ _ _ _ (c.new_writer.ensures.2 _) c.put_set.ensures.0 (length-replicate {A = ℕ} 8273 0)
    c.finish-n.ensures c.in-Ok.is).1.fits

pub returns-in-Ok : goal.returns-in-Ok
returns-in-Ok c = sheet-measured _ _ _ _ _ _ _ _ _ (c.new_writer.ensures.2 _) c.put_set.ensures.0 (length-replicate {A = ℕ} 8273 0)
    c.finish-n.ensures c.in-Ok.is _ _ c.width_in.ensures

pub returns-in-Err : goal.returns-in-Err
returns-in-Err c = sheet-none _ _ _ _ _ c.put_set.ensures.0 c.in-Err.is
