-- `frames::read_set` meets its contract. Assumes nothing.
use Prim.Native.Nat.{◌*◌, ◌≤◌}
use native.Mathlib.Omega.{arith}
use lib.ListN.{length}
use Rattle.frames.proofs.Framing.{loops_lie_lem, framed_is}
use Rattle.frames.proofs.read_set.Goals as goal

pub frame_set-requires : goal.frame_set-requires
frame_set-requires c =
    let l : 2 * c.in_ok-n.m ≤ length c.read_set.new.room = omega (arith, c.in_ok-n.ensures.1.1, c.read_set.auto.room, c.requires.0) in (
      l,
      loops_lie_lem c.args.bytes.now c.args.at c.in_ok-n.n c.in_ok-n.m c.in_ok-n.q c.read_set.new.room c.read_set.new.ends c.in_ok-n.ensures.0 l,
    )

pub returns : goal.returns
returns c = (
  framed_is c.args.bytes.now c.args.at c.in_ok-n.n c.in_ok-n.m c.in_ok-n.q c.read_set.new.room c.read_set.new.ends c.args.f c.frame_set.new.points
      c.in_ok-n.ensures.0 c.frame_set.ensures,
  c.in_ok-n.ensures.1,
)
