-- `kinds::put_head` meets its contract. Assumes nothing.
use native.Mathlib.Omega.{arith}
use Prim.Native.Nat.{◌*◌}
use lib.Seq.{take-set-le}
use Rattle.kinds.proofs.Rows.{four_below, head-put}
use Rattle.kinds.proofs.put_head.Goals as goal

pub returns : goal.returns
returns c = (head-put c.args.rows.now c.args.areas.now c.args.kind c.args.h (omega arith) (omega arith), four_below c.args.rows.now (4 * c.args.kind) c.args.h.quantity c.args.h.fill c.args.h.priority c.args.h.orientations, take-set-le c.args.kind c.args.areas.now c.args.kind c.args.h.area (omega arith))
