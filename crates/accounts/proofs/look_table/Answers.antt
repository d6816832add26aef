-- `accounts::look_table` meets its contract: the slots before i are filled. Assumes nothing.
use Rattle.std.proofs.Common.{arith, length-set}
use Rattle.numbers.proofs.Truth.{not-below-zero}
use Rattle.accounts.specs.inner.Counting.{look_in}
use Rattle.accounts.proofs.Looks.{table-next, table-end}
use Rattle.accounts.proofs.look_table.Goals as goal

pub loop-i-init : goal.loop-i-init
loop-i-init c = (omega arith, c.requires.3, λ q h. absurd (not-below-zero q h))

pub look_count-requires : goal.look_count-requires
look_count-requires c = let l = c.loop-i in let p = c.requires in (p.0, p.1, omega arith)

pub loop-i-preserved : goal.loop-i-preserved
loop-i-preserved c = let l = c.loop-i in let a = c.args in (
  omega arith,
  simp length-set l.invariant.1,
  table-next (look_in a.rows.now a.kinds a.look_counts.now) l.table l.i c.look_count.result (let u = l.invariant.1 in omega arith) c.look_count.ensures l.invariant.2,
)

pub returns : goal.returns
returns c = let l = c.loop-i in let a = c.args in
    table-end (look_in a.rows.now a.kinds a.look_counts.now) l.table l.invariant.1 (λ q h. l.invariant.2 q (omega arith))
