-- `consistent::room_tests::firsts_lie` meets its contract. Assumes nothing.
use native.Mathlib.Omega.{arith}
use mathlib.Core.Path.{refl, sym, ◌∙◌}
use borrow.Author.Tests.{lt-leb}
use Rattle.std.proofs.Common.{rules, tests}
use Rattle.std.proofs.lemmas.Iterator.{serves_from_Range}
use Rattle.trapezoid.specs.Strip.{capacity}
use Rattle.consistent.proofs.strip_tests.Bounding.{never, room_for}
use Rattle.consistent.proofs.strip_tests.Everyone.{all_every}
use Rattle.consistent.proofs.FirstNumbers.{first_test, firsts_short, firsts_known, firsts_every}
use Rattle.consistent.proofs.room_tests.firsts_lie.Goals as goal

pub all-requires-clause-callable : goal.all-requires-clause-callable
all-requires-clause-callable c =
    serves_from_Range (λ x q k. search rules) (λ x a b. let z = room_for c.args.part.now x (omega arith) in search rules)

pub returns-then-n-firsts : goal.returns-then-n-firsts
returns-then-n-firsts c =
    let a = c.args in
    let e = all_every (first_test a.ix a.part.now c.capacity-n.result a.firsts.now) c.capacity-n.result _ _ _ c.all.ensures.ran refl
    (λ x b q k. search (rules, tests)) in
    rw (← c.capacity-n.ensures) (
      e ∙ firsts_every a.ix a.part.now c.capacity-n.result a.firsts.now c.if-n-firsts.true,
      λ t. firsts_known a.ix a.part.now c.capacity-n.result a.firsts.now c.if-n-firsts.true (sym e ∙ t),
    )

pub returns-else-n-firsts : goal.returns-else-n-firsts
returns-else-n-firsts c =
    let a = c.args in
    let e = lt-leb _ _ c.if-n-firsts.false in
    (e ∙ sym (firsts_short a.ix a.part.now (capacity a.part.now) a.firsts.now (omega arith)), λ t. never (sym e ∙ t))
