-- `put_lines::store_line` meets its contract. Assumes nothing.
use native.Mathlib.Omega.{arith}
use Rattle.put_lines.proofs.Listing.{stored}
use Rattle.put_lines.specs.PutLines.{line_numbers}
use Rattle.put_lines.proofs.store_line.Goals as goal

pub returns : goal.returns
unfolding line_numbers
returns c = stored c.args.numbers.now c.copy_from_slice.new.self c.args.n _ c.args.l c.requires (omega arith) c.copy_from_slice.ensures.after
