-- `shapes::slots::lay_bounds` meets its contract. Assumes nothing.
use mathlib.Core.Path.{◌≡◌, subst}
use native.Mathlib.Omega.{arith}
use Prim.Native.Nat.{ℕ}
use Rattle.shapes.specs.slots.inner.Slots.{slot_bounds, BoundsTo}
use Rattle.shapes.proofs.slots.SlotWalk.{bounds-start, bounds_on_lem}
use Rattle.shapes.proofs.slots.lay_bounds.Goals as goal

pub loop-i-init : goal.loop-i-init
loop-i-init c = let a = c.args in bounds-start (slot_bounds a.f a.bytes.now a.rows.now a.places.now a.kinds) a.table.now

pub loop-i-preserved : goal.loop-i-preserved
loop-i-preserved c = let a = c.args in let l = c.loop-i in let s = c.slot_bounds-b in let p = c.put_bounds in
    bounds_on_lem (slot_bounds a.f a.bytes.now a.rows.now a.places.now a.kinds) a.table.now l.table p.new.table l.i s.result l.invariant p.auto.table s.ensures p.ensures.0 p.ensures.1

pub returns : goal.returns
returns c = let a = c.args in let e : c.loop-i.i ≡ 1024 = omega arith in
    subst (λ (n : ℕ). BoundsTo (slot_bounds a.f a.bytes.now a.rows.now a.places.now a.kinds) n a.table.now c.loop-i.table) e c.loop-i.invariant
