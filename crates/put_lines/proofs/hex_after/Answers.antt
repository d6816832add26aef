-- `put_lines::hex_after` meets its contract. Assumes nothing.
use native.Mathlib.Omega.{arith}
use Rattle.put_lines.specs.PutLines.{hex_after}
use Rattle.put_lines.proofs.hex_after.Goals as goal

pub field_after-requires : goal.field_after-requires
field_after-requires c = (c.requires, omega arith, omega arith, omega arith)

pub returns : goal.returns
unfolding hex_after
returns c = c.field_after.ensures
