-- `frames::frame_set` meets its contract. Assumes nothing.
use Prim.Native.Nat.{◌*◌}
use mathlib.Core.Path.{refl, sym, ap, ◌∙◌}
use native.Mathlib.Omega.{arith}
use lib.ListN.{take}
use Rattle.strips.proofs.EdgeTable.{loops_next, loops_end}
use Rattle.kinds.specs.sets.Sets.{Set}
use Rattle.frames.specs.Frames.{framed_points}
use Rattle.frames.proofs.Turned.{framed-same, framed-other}
use Rattle.frames.proofs.Framing.{partly_start, partly_on, partly_end}
use borrow.Author.Rules.{rules}
use Rattle.frames.proofs.frame_set.Goals as goal

pub returns-then-identity : goal.returns-then-identity
returns-then-identity c = sym (ap (λ (s : Set). s.points)
    (framed-same c.args.f (record { points = take (2 * c.args.m) c.args.points.now; ends = c.args.ends.now })
    (sym c.identity.ensures ∙ c.if-identity.true)))

pub loop-end-init : goal.loop-end-init
loop-end-init c = (search rules, refl, c.requires.1, partly_start c.args.f c.args.m c.args.ends.now c.args.points.now)

pub frame_loop-requires : goal.frame_loop-requires
frame_loop-requires c = let h = loops_next c.args.ends.now c.loop-end.first c.args.m c.loop-end.end-index (omega arith) c.loop-end.invariant.2 in
    omega (arith, h.1)

pub loop-end-preserved : goal.loop-end-preserved
loop-end-preserved c = let xs = take (2 * c.args.m) c.args.points.now in
    let h = loops_next c.args.ends.now c.loop-end.first c.args.m c.loop-end.end-index (omega arith) c.loop-end.invariant.2 in (
      omega arith,
      c.frame_loop.auto.points ∙ c.loop-end.invariant.1,
      h.2,
      partly_on c.args.f xs c.args.m c.loop-end.first (framed_points c.args.f xs 0 c.args.ends.now) c.loop-end.points
          c.args.ends.now c.loop-end.end-index
          c.frame_loop.new.points (omega arith) h.0 h.1 c.frame_loop.ensures c.loop-end.invariant.3,
    )

pub shape_of-points : goal.shape_of-points
shape_of-points c = c.loop-end.invariant.1

pub returns : goal.returns
returns c = let xs = take (2 * c.args.m) c.args.points.now in
    let e = loops_end c.args.ends.now c.loop-end.first c.args.m c.loop-end.end-index (omega arith) c.loop-end.invariant.2 in
    partly_end c.args.f xs c.args.m c.loop-end.first (framed_points c.args.f xs 0 c.args.ends.now) c.loop-end.points c.args.ends.now
    c.loop-end.end-index
    (omega arith) e (omega (arith, c.requires.0, c.loop-end.invariant.1)) c.loop-end.invariant.3
    ∙ sym (framed-other c.args.f (record { points = xs; ends = c.args.ends.now })
    (sym c.identity.ensures ∙ c.if-identity.false))
