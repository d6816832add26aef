use mathlib.Core.Path.{ap, ◌∙◌}
use native.Mathlib.Omega.{arith}
use lib.Ieee.{Float}
use Rattle.index.specs.inner.Listing.{intervals}
use Rattle.look.specs.height.Smallest.{clear_above}
use Rattle.look.proofs.height.SmallestHeight.{real_of, lt_is_true, lt_is_false, le_is_false}
use Rattle.look.proofs.height.Passes.{reached_start, ends_free, ends-past, above_less}
use Rattle.look.proofs.height.Clear.{clear_is, clear-rearranged}
use Rattle.look.proofs.height.Rearranging.{rearranged-refl, rearranged_trans, raised_pass}
use Rattle.look.proofs.height.height.Goals as goal
use Rattle.look.specs.declared.height.Look.TheVariants.{Free}

pub loop-y-init : goal.loop-y-init
loop-y-init c = let g = c.args in
    let p = c.requires in
    (rearranged-refl g.n g.room.now, raised_pass g.n g.room.now g.room.now 0 g.y_low g.y_low _ (rearranged-refl g.n g.room.now) p.3 (reached_start g.y_low (intervals g.room.now g.n) p.1) c.raise-z.ensures)

pub shape_of-room-then-y_high-z : goal.shape_of-room-then-y_high-z
shape_of-room-then-y_high-z c = c.loop-y.invariant.0.size

pub returns-then-y_high-z : goal.returns-then-y_high-z
returns-then-y_high-z c = let l = c.loop-y in
    let g = c.args in
    let p = c.requires in
    let is = intervals g.room.now g.n in
    ends-past g.y_low is p.3 g.y_high p.1 p.2 l.z l.invariant.1.next (lt_is_true (real_of p.2) (real_of l.invariant.1.next.fine) c.if-y_high-z.true)

pub next_turn-turn-requires : goal.next_turn-turn-requires
next_turn-turn-requires c = let l = c.loop-y in
    let g = c.args in
    let p = c.requires in
    let is = intervals g.room.now g.n in
    omega (arith, p.0, l.invariant.0.size)

pub raise-z-requires-in-loop-y : goal.raise-z-requires-in-loop-y
raise-z-requires-in-loop-y c = let l = c.loop-y in
    let g = c.args in
    let p = c.requires in
    let is = intervals g.room.now g.n in
    omega (arith, p.0, l.invariant.0.size, c.next_turn-turn.ensures.size)

pub loop-y-smaller : goal.loop-y-smaller
loop-y-smaller c = let l = c.loop-y in
    let g = c.args in
    let p = c.requires in
    let is = intervals g.room.now g.n in
    above_less l.y l.z l.invariant.1.next.fine (lt_is_true (real_of l.invariant.1.here.fine) (real_of l.invariant.1.next.fine) c.loop-y-test.true)

pub loop-y-preserved : goal.loop-y-preserved
loop-y-preserved c = let l = c.loop-y in
    let g = c.args in
    let p = c.requires in
    let is = intervals g.room.now g.n in
    let A = rearranged_trans g.n g.room.now l.room _ l.invariant.0 c.next_turn-turn.ensures in
    (A, raised_pass g.n g.room.now _ c.next_turn-turn.result g.y_low l.z _ A p.3 l.invariant.1.next c.raise-z-in-loop-y.ensures)

pub next_bottom-requires : goal.next_bottom-requires
next_bottom-requires c = let l = c.loop-y in
    let p = c.requires in
    omega (arith, p.0, l.invariant.0.size)

pub shape_of-room-then-y-y_high : goal.shape_of-room-then-y-y_high
shape_of-room-then-y-y_high c = c.loop-y.invariant.0.size

pub returns-then-y-y_high : goal.returns-then-y-y_high
returns-then-y-y_high c = let l = c.loop-y in
    let g = c.args in
    let p = c.requires in
    let is = intervals g.room.now g.n in
    let h = c.plus_zero-h.result in
    let e = clear_is g.y_high (intervals l.room g.n) h _ _ c.next_bottom.ensures c.plus_zero-next.ensures
    ∙ clear-rearranged g.y_high h p.2 g.n g.room.now l.room l.invariant.0 p.3 in
    ap (Free h) e
    ∙ (ap (λ (z : Float). Free z (clear_above g.y_high is z)) c.plus_zero-h.ensures
    ∙ ends_free g.y_low is p.3 g.y_high p.1 p.2 l.y l.invariant.1.here
    (l.invariant.1.out (lt_is_false (real_of l.invariant.1.here.fine) (real_of l.invariant.1.next.fine) c.loop-y-test.false))
    c.if-y-y_high.true)

pub shape_of-room : goal.shape_of-room
shape_of-room c = c.loop-y.invariant.0.size

pub returns : goal.returns
returns c = let l = c.loop-y in
    let g = c.args in
    let p = c.requires in
    let is = intervals g.room.now g.n in
    ends-past g.y_low is p.3 g.y_high p.1 p.2 l.y l.invariant.1.here (le_is_false (real_of l.invariant.1.here.fine) (real_of p.2) c.if-y-y_high.false)
