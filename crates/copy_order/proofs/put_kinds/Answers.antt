-- `copy_order::put_kinds` meets its contract. Assumes nothing.
use Prim.Native.Nat.{ℕ, ◌-◌, ◌*◌}
use lib.ListN.{get_or}
use mathlib.Core.Path.{◌≡◌, subst}
use native.Mathlib.Omega.{arith}
use borrow.Rule.Slice.PartMut.{same_len_mid}
use Rattle.copy_order.specs.inner.KindTables.{copies_at}
use Rattle.copy_order.proofs.Laying.{Laid, filled, laying_start, laying_end, copies-fit, copies_on}
use Rattle.copy_order.proofs.put_kinds.Goals as goal

pub loop-i-init : goal.loop-i-init
loop-i-init c = (omega arith, laying_start (copies_at c.args.rows.now) (λ (q : ℕ). get_or c.args.line.now q 0) c.args.kinds c.args.order.now)

pub slice_bounds-fill-end : goal.slice_bounds-fill-end
slice_bounds-fill-end c = copies-fit c.args.rows.now c.args.line.now c.args.kinds c.args.order.now c.loop-i.i c.loop-i.at c.loop-i.order
    c.loop-i.invariant.1 (omega arith) c.requires.3

pub overflow_add-at : goal.overflow_add-at
overflow_add-at c = omega (
  arith,
  copies-fit c.args.rows.now c.args.line.now c.args.kinds c.args.order.now c.loop-i.i c.loop-i.at
      c.loop-i.order c.loop-i.invariant.1 (omega arith) c.requires.3,
  c.loop-i.invariant.1.lengths,
)

pub loop-i-preserved : goal.loop-i-preserved
loop-i-preserved c = let l = c.loop-i in let a = c.args in let k = get_or a.line.now (l.i - 1) 0 in
    let f = copies-fit a.rows.now a.line.now a.kinds a.order.now l.i l.at l.order l.invariant.1 (omega arith) c.requires.3 in (
      omega arith,
      copies_on a.rows.now a.line.now a.kinds a.order.now l.i l.at l.order l.invariant.1 (omega arith) _
          (λ xs room e s. filled l.order _ xs room l.at (get_or a.rows.now (4 * k) 0) _ k f (omega arith) (c.fill.ensures.after (λ y e. e)) e s)
          (same_len_mid l.at _ l.order c.fill.new.self c.fill.auto.self),
    )

pub returns : goal.returns
returns c = let z : c.loop-i.i ≡ 0 = omega arith in
    laying_end (copies_at c.args.rows.now) (λ (q : ℕ). get_or c.args.line.now q 0) c.args.kinds c.args.order.now c.loop-i.at
    c.loop-i.order
    (subst (λ (i : ℕ). Laid c.args.rows.now c.args.line.now c.args.kinds c.args.order.now i c.loop-i.at c.loop-i.order) z
    c.loop-i.invariant.1)
