-- `accounts::order::rearranged` meets its contract. Assumes nothing.
use Rattle.std.proofs.Common.{sym, ◌∙◌, ne_eqb}
use lib.ListN.{get_or-replicate}
use Rattle.accounts.proofs.order.Counting.{rearranged_is, rearranged-not}
use Rattle.accounts.proofs.order.rearranged.Goals as goal

pub count_kinds-requires : goal.count_kinds-requires
count_kinds-requires c = λ k l. get_or-replicate 64 k 0 0 l

pub returns-then-order-copies : goal.returns-then-order-copies
returns-then-order-copies c = let a = c.args in λ j areas t e f. sym (rearranged-not j a.order.now a.copies f (ne_eqb _ _ c.if-order-copies.true))

pub returns : goal.returns
returns c = let a = c.args in λ j areas t e f. c.in_quantity.ensures ∙ rearranged_is j a.rows.now areas a.order.now _ a.kinds a.copies t e f c.if-order-copies.false c.count_kinds.ensures
