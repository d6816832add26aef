-- `withdraw::standing::strips_to` meets its contract. Assumes nothing.
use native.Mathlib.Omega.{arith}
use mathlib.Core.Path.{◌≡◌, sym, ap, ap₂, ◌∙◌}
use Prim.Native.Nat.{◌+◌}
use Rattle.withdraw.specs.standing.inner.Standing.{strips_to}
use Rattle.withdraw.proofs.standing.Summing.{strips-none, strips_more, strips_upto}
use Rattle.withdraw.proofs.standing.strips_to.Goals as goal

pub loop-i-init : goal.loop-i-init
loop-i-init c = (omega arith, sym (strips-none c.args.parts.now c.args.order.now c.args.orientation.now))

pub bounds-order-i : goal.bounds-order-i
bounds-order-i c = omega (arith, c.requires.1)

pub bounds-orientation-i : goal.bounds-orientation-i
bounds-orientation-i c = omega (arith, c.requires.2)

pub strips_at-strips-requires : goal.strips_at-strips-requires
strips_at-strips-requires c = (c.requires.0, λ o e. c.requires.3 c.loop-i.i o (omega arith) e)

pub overflow_add-strips : goal.overflow_add-strips
overflow_add-strips c = let a = c.args in
    let f = strips_upto a.parts.now a.order.now a.orientation.now (c.loop-i.i + 1) a.n
    (omega arith) in
    let g = strips_more a.parts.now a.order.now a.orientation.now c.loop-i.i in
    omega (arith, f, g, c.requires.4, c.loop-i.invariant.1, c.strips_at-strips.ensures)

pub loop-i-preserved : goal.loop-i-preserved
loop-i-preserved c = (
  omega arith,
  ap₂ ◌+◌ c.loop-i.invariant.1 c.strips_at-strips.ensures ∙ sym (strips_more c.args.parts.now c.args.order.now c.args.orientation.now
      c.loop-i.i),
)

pub returns : goal.returns
returns c = let e : c.loop-i.i ≡ c.args.n = omega (arith, c.loop-i.invariant.0) in
    c.loop-i.invariant.1 ∙ ap (strips_to c.args.parts.now c.args.order.now c.args.orientation.now) e
