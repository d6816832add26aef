-- `put_lines::begins` meets its contract. Assumes nothing.
use Rattle.std.proofs.Common.{rules}
use Rattle.put_lines.specs.PutLines.{begins}
use Rattle.put_lines.proofs.begins.Goals as goal

pub returns-then-stands_at-3 : goal.returns-then-stands_at-3
unfolding begins
returns-then-stands_at-3 c = search rules

pub returns-else-stands_at-3 : goal.returns-else-stands_at-3
unfolding begins
returns-else-stands_at-3 c = search rules
