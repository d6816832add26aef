-- `clear_of` meets its contract: standing strip by standing strip. Assumes nothing.
use native.Mathlib.Omega.{arith}
use mathlib.Core.Path.{◌∙◌, ap}
use mathlib.Core.Bool.{not}
use Rattle.trapezoid.specs.Strip.{capacity}
use Rattle.trapezoid.proofs.Strips.{strip_in_room}
use Rattle.placement.specs.inner.Pairs.{pair_at, intervals_of}
use Rattle.placement.proofs.Clearing.{left-start, left-next, left-held, left_end, pair_clear}
use Rattle.placement.proofs.clear_of.Goals as goal

pub loop-i-init : goal.loop-i-init
loop-i-init c = left-start (pair_at c.args.standing.now c.args.m) c.args.y (capacity c.args.standing.now)

pub load-p-requires : goal.load-p-requires
load-p-requires c = strip_in_room c.args.standing.now _ _ c.capacity-count.ensures (omega arith)

pub returns-then-in_the_way : goal.returns-then-in_the_way
unfolding intervals_of
returns-then-in_the_way c = let a = c.args in
    let l = c.loop-i in
    left-held (pair_at a.standing.now a.m) a.y (capacity a.standing.now) l.i
    (omega (arith, c.capacity-count.ensures))
    (pair_clear a.standing.now a.m a.y l.i _ _ c.in_the_way.ensures c.load-p.ensures ∙ ap not c.if-in_the_way.true)
    l.invariant

pub loop-i-preserved : goal.loop-i-preserved
loop-i-preserved c = let a = c.args in
    let l = c.loop-i in
    left-next (pair_at a.standing.now a.m) a.y (capacity a.standing.now) l.i
    (omega (arith, c.capacity-count.ensures))
    (pair_clear a.standing.now a.m a.y l.i _ _ c.in_the_way.ensures c.load-p.ensures ∙ ap not c.if-in_the_way.false)
    l.invariant

pub returns : goal.returns
unfolding intervals_of
returns c = let a = c.args in
    let l = c.loop-i in
    left_end (pair_at a.standing.now a.m) a.y (capacity a.standing.now) l.i
    (omega (arith, c.capacity-count.ensures)) l.invariant
