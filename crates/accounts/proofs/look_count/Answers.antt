-- `accounts::look_count` meets its contract. Assumes nothing.
use Rattle.accounts.proofs.Looks.{no_kind, no_orientation, has_orientation}
use Rattle.accounts.proofs.look_count.Goals.{else-k-kinds-via-then-k-kinds+else-i-rows, else-k-kinds-via-else-k-kinds}
use Rattle.accounts.proofs.look_count.Goals as goal

pub returns-then-i-rows : goal.returns-then-i-rows
returns-then-i-rows c = let a = c.args in has_orientation a.rows.now a.kinds a.look_counts.now a.i c.if-k-kinds.true c.if-i-rows.true

pub returns-else-k-kinds : goal.returns-else-k-kinds
returns-else-k-kinds c = let a = c.args in elim c.else-k-kinds.branch [
  | else-k-kinds-via-then-k-kinds+else-i-rows w ↦ no_orientation a.rows.now a.kinds a.look_counts.now a.i w.if-k-kinds.true w.if-i-rows.false
  | else-k-kinds-via-else-k-kinds w ↦ no_kind a.rows.now a.kinds a.look_counts.now a.i w.if-k-kinds.false
]
