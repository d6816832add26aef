-- `kinds::read_orientation` meets its contract. Assumes nothing.
use native.Mathlib.Omega.{arith}
use Prim.Native.Nat.{◌*◌}
use Rattle.std.proofs.Common.{rules}
use Rattle.kinds.proofs.Tables.{orientation-apart, orientation-inset, orientation_in, below-kept}
use Rattle.kinds.proofs.read_orientation.Goals as goal

pub returns-in_err-p : goal.returns-in_err-p
returns-in_err-p c = search (rules, orientation-apart c.args.bytes.now c.args.at c.in_err-p.ensures.0)

pub returns-in_err-q : goal.returns-in_err-q
returns-in_err-q c = search (rules, orientation-inset c.args.bytes.now c.args.at c.in_ok-p.ensures.0 c.in_err-q.ensures.0)

pub returns : goal.returns
returns c = (
  orientation_in c.args.bytes.now c.args.at c.in_ok-p.ensures.0 c.args.places.now c.args.slot c.in_ok-q.ensures.0 c.requires.1 c.requires.2,
  omega (arith, c.in_ok-p.ensures.1.2, c.in_ok-q.ensures.1.2),
  below-kept c.args.places.now (2 * c.args.slot) c.args.at c.in_ok-p.p,
)
