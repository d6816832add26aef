-- `accounts::sum_up` meets its contract: the starts before k stand, and the sum is the next. Assumes nothing.
use Rattle.std.proofs.Common.{ℕ, ◌+◌, get_or, sym, ap, ◌∙◌, arith, length-set}
use Rattle.numbers.proofs.Truth.{not-below-zero}
use Rattle.accounts.proofs.Counts.{sum-none, sum-next, starts-next, starts-table}
use Rattle.accounts.proofs.sum_up.Goals as goal

pub loop-k-init : goal.loop-k-init
loop-k-init c = (omega arith, c.requires.1, sum-none (λ i. get_or c.args.counts.now i 0), λ q h. absurd (not-below-zero q h))

pub overflow_add-sum : goal.overflow_add-sum
overflow_add-sum c = let l = c.loop-k in let p = c.requires in let a = p.2 (l.k + 1) (omega arith) in let b = sum-next (λ i. get_or c.args.counts.now i 0) l.k in let e = l.invariant.2 in omega arith

pub loop-k-preserved : goal.loop-k-preserved
loop-k-preserved c = let l = c.loop-k in let a = c.args in (
  omega arith,
  simp length-set l.invariant.1,
  ap (λ (n : ℕ). n + get_or a.counts.now l.k 0) l.invariant.2 ∙ sym (sum-next (λ i. get_or a.counts.now i 0) l.k),
  starts-next l.starts l.k l.sum (λ i. get_or a.counts.now i 0) (let u = l.invariant.1 in omega arith) l.invariant.2 l.invariant.3,
)

pub returns : goal.returns
returns c = let l = c.loop-k in let a = c.args in
    starts-table l.starts (λ i. get_or a.counts.now i 0) l.invariant.1 (λ q h. l.invariant.3 q (omega arith))
