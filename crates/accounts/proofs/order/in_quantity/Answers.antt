-- `accounts::order::in_quantity` meets its contract. Assumes nothing.
use Rattle.std.proofs.Common.{sym, ap, ◌∙◌, arith, ne_eqb}
use native.Mathlib.Nat.{sub-zero}
use Rattle.accounts.specs.order.inner.Quantities.{in_quantity}
use Rattle.accounts.proofs.order.Counting.{quantity_on, quantity-not, quantity-end}
use Rattle.accounts.proofs.order.in_quantity.Goals as goal

pub loop-k-init : goal.loop-k-init
loop-k-init c = ap (λ n. in_quantity c.args.counts.now c.args.rows.now n 0) (sub-zero c.args.kinds)

pub loop-k-preserved : goal.loop-k-preserved
loop-k-preserved c = let l = c.loop-k in let a = c.args in sym (quantity_on a.counts.now a.rows.now a.kinds l.k (omega arith) (omega arith)) ∙ l.invariant

pub returns-then-counts-k : goal.returns-then-counts-k
returns-then-counts-k c = let l = c.loop-k in let a = c.args in sym (sym l.invariant ∙ quantity-not a.counts.now a.rows.now a.kinds l.k (omega arith) (ne_eqb _ _ c.if-counts-k.true))

pub returns : goal.returns
returns c = let l = c.loop-k in let a = c.args in sym (sym l.invariant ∙ quantity-end a.counts.now a.rows.now a.kinds l.k (omega arith))
