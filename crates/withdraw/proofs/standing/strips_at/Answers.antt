-- `withdraw::standing::strips_at` meets its contract. Assumes nothing.
use native.Mathlib.Omega.{arith}
use mathlib.Core.Path.{ap, ◌∙◌}
use Rattle.withdraw.proofs.standing.Summing.{one_more, none-strips, some-strips}
use Rattle.withdraw.proofs.standing.strips_at.Goals as goal

pub returns-then-number-eq0 : goal.returns-then-number-eq0
returns-then-number-eq0 c = none-strips c.args.parts.now c.args.kind c.args.number c.if-number-eq0.true

pub overflow_mul-kind : goal.overflow_mul-kind
overflow_mul-kind c = let h = c.requires.1 _ (one_more c.args.number c.if-number-eq0.false) in omega (arith, h)

pub overflow_add-kind : goal.overflow_add-kind
overflow_add-kind c = let h = c.requires.1 _ (one_more c.args.number c.if-number-eq0.false) in omega (arith, h)

pub part_at-p-requires : goal.part_at-p-requires
part_at-p-requires c = let h = c.requires.1 _ (one_more c.args.number c.if-number-eq0.false) in omega (arith, h, c.requires.0)

pub returns : goal.returns
returns c = ap (λ p. p.apart_count) c.part_at-p.ensures ∙ some-strips c.args.parts.now c.args.kind c.args.number c.if-number-eq0.false
