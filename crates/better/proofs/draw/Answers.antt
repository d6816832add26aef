-- `better::draw` meets its contract. Assumes nothing.
use Prim.Native.Nat.{ℕ, ◌%◌}
use mathlib.Core.Path.{ap}
use native.Mathlib.Nat.{mod-lt}
use Rattle.better.proofs.draw.Goals as goal

pub returns : goal.returns
returns c = (c.next_random-z.ensures.0, ap (λ (z : ℕ). z % c.args.n) c.next_random-z.ensures.1, mod-lt c.next_random-z.result c.requires)
