-- `frames::frame_loop` meets its contract. Assumes nothing.
use Prim.Native.Nat.{◌-◌}
use mathlib.Core.Path.{refl, ◌∙◌}
use native.Mathlib.Omega.{arith}
use Rattle.frames.proofs.Framing.{halfway_start, halfway_on, halfway_end}
use borrow.Author.Rules.{rules}
use Rattle.frames.proofs.frame_loop.Goals as goal

pub loop-i-init : goal.loop-i-init
loop-i-init c = (refl, search rules, search rules, refl, halfway_start c.args.f c.args.first c.args.end c.args.points.now)

pub frame_pair-requires : goal.frame_pair-requires
frame_pair-requires c = (omega arith, omega arith)

pub loop-i-preserved : goal.loop-i-preserved
loop-i-preserved c = (
  omega arith,
  omega arith,
  omega arith,
  c.frame_pair.auto.points ∙ c.loop-i.invariant.3,
  halfway_on c.args.f c.args.first c.args.end c.loop-i.i c.loop-i.j c.args.points.now c.loop-i.points c.loop-i.invariant.4
      (c.loop-i.j - 1) (omega arith)
      c.loop-i.invariant.1 c.loop-i-test.true c.loop-i.invariant.2 c.loop-i.invariant.0 (omega arith)
      c.frame_pair.new.points c.reversing-exchanged.result c.frame_pair.ensures
      c.reversing-exchanged.ensures,
)

pub shape_of-points : goal.shape_of-points
shape_of-points c = c.loop-i.invariant.3

pub returns : goal.returns
returns c = halfway_end c.args.f c.args.first c.args.end c.loop-i.i c.loop-i.j c.args.points.now c.loop-i.points c.loop-i.invariant.4
    c.loop-i-test.false
