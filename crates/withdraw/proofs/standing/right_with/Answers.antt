-- `withdraw::standing::right_with` meets its contract. Assumes nothing.
use native.Mathlib.Omega.{arith}
use mathlib.Core.Path.{ap, ◌∙◌}
use Rattle.numbers.specs.Numbers.{◌⊕◌, larger}
use Rattle.withdraw.proofs.standing.Summing.{one_more, none_right, some_right}
use Rattle.withdraw.proofs.standing.right_with.Goals as goal

pub returns-then-number-eq0 : goal.returns-then-number-eq0
returns-then-number-eq0 c = none_right c.args.inset_bounds.now c.args.right c.args.x c.args.kind c.args.number c.if-number-eq0.true

pub overflow_mul-kind : goal.overflow_mul-kind
overflow_mul-kind c = let h = c.requires.1 _ (one_more c.args.number c.if-number-eq0.false) in omega (arith, h)

pub overflow_add-kind : goal.overflow_add-kind
overflow_add-kind c = let h = c.requires.1 _ (one_more c.args.number c.if-number-eq0.false) in omega (arith, h)

pub bounds_at-b-requires : goal.bounds_at-b-requires
bounds_at-b-requires c = let h = c.requires.1 _ (one_more c.args.number c.if-number-eq0.false) in omega (arith, h, c.requires.0)

pub returns : goal.returns
returns c = c.larger.ensures ∙ (ap (λ b. larger c.args.right (c.args.x ⊕ b.right)) c.bounds_at-b.ensures
    ∙ some_right c.args.inset_bounds.now c.args.right c.args.x c.args.kind c.args.number c.if-number-eq0.false)
