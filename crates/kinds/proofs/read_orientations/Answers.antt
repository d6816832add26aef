-- `kinds::read_orientations` meets its contract. Assumes nothing.
use native.Mathlib.Omega.{arith}
use mathlib.Core.Path.{◌∙◌}
use Prim.Native.Nat.{◌+◌, ◌*◌}
use Rattle.std.proofs.Common.{rules}
use Rattle.kinds.proofs.Tables.{take_less, orientations-start, orientations_on, orientations-end, orientations_all}
use Rattle.kinds.proofs.read_orientations.Goals as goal

pub loop-i-init : goal.loop-i-init
loop-i-init c = orientations-start c.args.bytes.now c.args.at c.args.n c.args.kind c.args.places.now c.args.room.now c.args.ends.now

pub returns-in_err-p : goal.returns-in_err-p
returns-in_err-p c = search (
  rules,
  orientations-end c.args.bytes.now c.args.at c.args.n c.args.kind c.args.places.now c.args.room.now c.args.ends.now c.loop-i.places c.loop-i.room
      c.loop-i.ends c.loop-i.i c.loop-i.p c.loop-i.invariant c.in_err-p.ensures.0 (omega arith),
  take_less c.read_orientation.new.places c.loop-i.places (32 * c.args.kind) (2 * (16 * c.args.kind + c.loop-i.i)) c.read_orientation.ensures.2 (omega arith) ∙
      c.loop-i.invariant.kept,
)

pub loop-i-preserved : goal.loop-i-preserved
loop-i-preserved c =
    orientations_on c.args.bytes.now c.args.at c.args.n c.args.kind c.args.places.now c.args.room.now c.args.ends.now c.loop-i.places c.loop-i.room
    c.loop-i.ends c.loop-i.i c.loop-i.p c.loop-i.invariant c.read_orientation.new.places c.read_orientation.new.room c.read_orientation.new.ends
    c.in_ok-p.ensures.0 c.in_ok-p.ensures.1 c.read_orientation.ensures.2 c.read_orientation.auto.places c.read_orientation.auto.room
    c.read_orientation.auto.ends (omega arith)

pub returns : goal.returns
returns c =
    orientations_all c.args.bytes.now c.args.at c.args.n c.args.kind c.args.places.now c.args.room.now c.args.ends.now c.loop-i.places c.loop-i.room
    c.loop-i.ends c.loop-i.i c.loop-i.p c.loop-i.invariant (omega arith)
