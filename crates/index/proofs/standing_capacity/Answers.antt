use mathlib.Core.Path.{ap, ◌∙◌}
use Prim.Native.Nat.{ℕ, min}
use lib.ListN.{length}
use Rattle.index.specs.Buckets.{strip_numbers, standing_capacity}
use Rattle.index.proofs.standing_capacity.Goals as goal

pub returns : goal.returns
unfolding standing_capacity
returns c = let g = c.args in
    c.min.ensures ∙ ap (λ (k : ℕ). min k strip_numbers) (c.min-n.ensures ∙ ap (λ (k : ℕ). min k (length g.firsts.now))
    c.capacity.ensures)
