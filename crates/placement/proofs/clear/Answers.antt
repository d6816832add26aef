-- `clear` meets its contract: moving strip by moving strip. Assumes nothing.
use native.Mathlib.Omega.{arith}
use mathlib.Core.Path.{◌∙◌, ap}
use mathlib.Core.List.{List}
use Rattle.trapezoid.specs.Strip.{capacity}
use Rattle.trapezoid.proofs.Strips.{strip_in_room}
use Rattle.index.specs.declared.Interval.{Interval}
use Rattle.look.specs.height.Smallest.{outside}
use Rattle.placement.proofs.Clearing.{left-start, left-next, left-held, left_end, strip_intervals, strip-clear, forbidden_is}
use Rattle.placement.proofs.clear.Goals as goal

pub loop-j-init : goal.loop-j-init
loop-j-init c = let a = c.args in
    left-start (strip_intervals a.standing.now a.moving.now a.x a.y) a.y (capacity a.moving.now)

pub load-q-requires : goal.load-q-requires
load-q-requires c = strip_in_room c.args.moving.now _ _ c.capacity-count.ensures
    (omega arith)

pub returns-then-not-clear_of : goal.returns-then-not-clear_of
returns-then-not-clear_of c = let a = c.args in
    let l = c.loop-j in
    left-held (strip_intervals a.standing.now a.moving.now a.x a.y) a.y (capacity a.moving.now) l.j
    (omega (arith, c.capacity-count.ensures))
    (strip-clear a.standing.now a.moving.now a.x a.y l.j _ _ _ c.clear_of.ensures c.new-m.ensures
    c.load-q.ensures
    ∙ c.if-not-clear_of.true) l.invariant
    ∙ ap (λ (is : List Interval). outside is a.y) (forbidden_is a.standing.now a.moving.now a.x a.y)

pub loop-j-preserved : goal.loop-j-preserved
loop-j-preserved c = let a = c.args in
    let l = c.loop-j in
    left-next (strip_intervals a.standing.now a.moving.now a.x a.y) a.y (capacity a.moving.now) l.j
    (omega (arith, c.capacity-count.ensures))
    (strip-clear a.standing.now a.moving.now a.x a.y l.j _ _ _ c.clear_of.ensures c.new-m.ensures
    c.load-q.ensures
    ∙ c.if-not-clear_of.false) l.invariant

pub returns : goal.returns
returns c = let a = c.args in
    let l = c.loop-j in
    left_end (strip_intervals a.standing.now a.moving.now a.x a.y) a.y (capacity a.moving.now) l.j
    (omega (arith, c.capacity-count.ensures)) l.invariant
    ∙ ap (λ (is : List Interval). outside is a.y) (forbidden_is a.standing.now a.moving.now a.x a.y)
