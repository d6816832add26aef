-- `accounts::order::count_kinds` meets its contract. Assumes nothing.
use Rattle.std.proofs.Common.{length, refl, arith}
use Rattle.accounts.proofs.order.Counting.{counted_start, counted_in_lem, counted-out, counted-end, counted-room}
use Rattle.accounts.proofs.order.count_kinds.Goals.{then-k-counts, else-k-counts}
use Rattle.accounts.proofs.order.count_kinds.Goals as goal

pub loop-k-init : goal.loop-k-init
loop-k-init c = counted_start c.args.order.now _ c.args.counts.now refl c.requires

pub overflow_add-counts : goal.overflow_add-counts
overflow_add-counts c = let l = c.loop-k in let z = counted-room c.args.order.now (length c.args.counts.now) l.k-index l.counts _ refl (omega arith) (omega arith) l.invariant in omega arith

pub loop-k-preserved : goal.loop-k-preserved
loop-k-preserved c = let l = c.loop-k in let o = c.args.order.now in elim c.if-k-counts.branch [
  | then-k-counts w ↦ rw w.counts-is (counted_in_lem o _ l.k-index l.counts _ refl (omega arith) (omega arith) l.invariant)
  | else-k-counts w ↦ rw w.counts-is (counted-out o _ l.k-index l.counts _ refl (omega arith) (omega arith) l.invariant)
]

pub returns : goal.returns
returns c = let l = c.loop-k in counted-end c.args.order.now _ l.k-index l.counts (omega arith) l.invariant
