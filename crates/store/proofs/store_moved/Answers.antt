use native.Mathlib.Omega.{arith}
use Rattle.store.proofs.Whole.{moved-start, moved-next, moved-end}
use Rattle.trapezoid.proofs.Strips.{strip_in_room}
use Rattle.store.proofs.store_moved.Goals as goal

pub loop-j-init : goal.loop-j-init
loop-j-init c = (omega arith, moved-start c.args.apart.now c.args.x c.args.y c.args.n c.args.placed.now)

pub load-q-requires : goal.load-q-requires
load-q-requires c = strip_in_room c.args.apart.now _ _ c.capacity-count.ensures (omega arith)

pub loop-j-preserved : goal.loop-j-preserved
loop-j-preserved c = let a = c.args in (
  omega (arith, c.capacity-count.ensures),
  moved-next a.apart.now a.x a.y a.n
      a.placed.now c.loop-j.j _ _ c.load-q.result c.moved.result c.loop-j.invariant.1 c.load-q.ensures c.moved.ensures
      c.store.ensures,
)

pub returns : goal.returns
returns c = let a = c.args in
    moved-end a.apart.now a.x a.y a.n a.placed.now _ _ _ c.capacity-count.ensures c.loop-j.invariant.0 (omega arith)
    c.loop-j.invariant.1
