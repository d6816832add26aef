-- `put_lines::stands_at` meets its contract. Assumes nothing.
use Prim.Native.Nat.{ℕ}
use mathlib.Core.Path.{ap}
use lib.Dec.{eqb}
use Rattle.put_lines.proofs.stands_at.Goals as goal

pub returns : goal.returns
returns c = ap (λ (x : ℕ). eqb x c.args.b) c.byte_at.ensures
