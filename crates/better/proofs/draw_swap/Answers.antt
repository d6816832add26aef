-- `better::draw_swap` meets its contract. Assumes nothing.
use native.Mathlib.Omega.{arith}
use Rattle.better.proofs.round_laws.Swapping.{swapped_is}
use Rattle.better.proofs.Drawing.{drew_swapped, drew_rest}
use Rattle.better.proofs.draw_swap.Goals as goal

pub draw-i-requires : goal.draw-i-requires
draw-i-requires c = c.requires.0

pub draw-k-requires : goal.draw-k-requires
draw-k-requires c = c.requires.0

pub swappable-requires : goal.swappable-requires
swappable-requires c =
    let i = c.requires.2 c.draw-i.result c.draw-i.ensures.2 in
    let k = c.requires.2 c.draw-k.result c.draw-k.ensures.2 in
    (omega arith, omega arith)

pub returns-then-not-swappable : goal.returns-then-not-swappable
returns-then-not-swappable c = let a = c.args in
    let d = c.draw-i in
    let e = c.draw-k in
    drew_rest a.random.now a.rows.now a.order.now d.new.random e.new.random d.result e.result
    d.ensures.0 d.ensures.1 d.ensures.2 e.ensures.0 e.ensures.1 e.ensures.2 _ c.swappable.ensures c.if-not-swappable.true

pub returns : goal.returns
returns c = let a = c.args in
    let d = c.draw-i in
    let e = c.draw-k in
    drew_swapped a.random.now a.rows.now a.order.now d.new.random e.new.random d.result e.result
    d.ensures.0 d.ensures.1 d.ensures.2 e.ensures.0 e.ensures.1 e.ensures.2 _ c.swappable.ensures
    c.if-not-swappable.false _ (swapped_is a.order.now _ d.result e.result d.ensures.2 e.ensures.2 c.swap.ensures.after)
