-- `kinds::read_kind` meets its contract. Assumes nothing.
use native.Mathlib.Omega.{arith}
use Rattle.std.proofs.Common.{rules}
use Rattle.kinds.proofs.Tables.{kind-head, kind_sets, kind_in}
use Rattle.kinds.proofs.read_kind.Goals as goal

pub returns-in_err-h : goal.returns-in_err-h
returns-in_err-h c = search (rules, kind-head c.args.bytes.now c.args.at c.in_err-h.ensures.0)

pub returns-in_err-q : goal.returns-in_err-q
returns-in_err-q c = search (rules, kind_sets c.args.bytes.now c.args.at c.in_ok-h.ensures.0 c.in_err-q.ensures.0, c.read_orientations.ensures.2)

pub returns : goal.returns
returns c = (
  kind_in c.args.bytes.now c.args.at c.in_ok-h.ensures.0 c.read_orientations.new.places c.args.kind c.in_ok-q.ensures.0,
  (c.in_ok-h.ensures.1.0, c.in_ok-h.ensures.1.1, omega (arith, c.in_ok-h.ensures.1.1, c.in_ok-q.ensures.1)),
  c.read_orientations.ensures.2,
)
