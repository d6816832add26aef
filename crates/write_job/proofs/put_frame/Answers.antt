-- `write_job::put_frame` meets its contract. Assumes nothing.
use mathlib.Core.List.{[]}
use native.Mathlib.Omega.{arith}
use lib.Dec.{lit≤}
use Rattle.bit_writer.proofs.Bits.{binary-length}
use Rattle.write_job.proofs.HeaderLaws.{frame-not-1, frame-not-2, frame-put}
use Rattle.write_job.proofs.put_frame.Goals as goal

pub returns-then-h-ge4 : goal.returns-then-h-ge4
returns-then-h-ge4 c = frame-not-1 _ _ _ [] [] c.if-h-ge4.true

pub returns-then-h-ge2 : goal.returns-then-h-ge2
returns-then-h-ge2 c = frame-not-2 _ _ _ _ [] c.if-h-ge4.false c.if-h-ge2.true c.put-p.ensures.long

pub put-writer-requires : goal.put-writer-requires
put-writer-requires c =
    (c.put-p.ensures.sound, lit≤ tt, omega (arith, c.requires.bits, c.put-p.ensures.count, binary-length 2 c.args.h.corner))

pub returns : goal.returns
returns c = frame-put _ _ _ _ _ _ _ c.if-h-ge4.false c.if-h-ge2.false c.put-p.ensures c.put-writer.ensures
