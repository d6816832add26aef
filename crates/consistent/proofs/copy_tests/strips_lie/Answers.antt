-- `consistent::copy_tests::strips_lie` meets its contract. Assumes nothing.
use Prim.Native.Nat.{◌+◌, ◌≤◌}
use native.Mathlib.Omega.{arith}
use mathlib.Core.Path.{refl, sym, ◌∙◌}
use borrow.Author.Tests.{leb-true}
use Rattle.std.proofs.Common.{rules, tests}
use Rattle.std.proofs.lemmas.Iterator.{serves_from_Range}
use Rattle.consistent.specs.copy_tests.inner.Copies.{same_strip, lies_test}
use Rattle.consistent.proofs.strip_tests.Bounding.{room_for}
use Rattle.consistent.proofs.strip_tests.Everyone.{all_every}
use Rattle.consistent.proofs.copy_tests.CopyCases.{strip_test, strips-few}
use Rattle.consistent.proofs.copy_tests.strips_lie.Goals as goal

pub all-requires-clause-callable : goal.all-requires-clause-callable
all-requires-clause-callable c =
    let a = c.args in
    let fit : a.at + c.capacity-n.result ≤ c.capacity.result = leb-true _ _ (sym c.within.ensures ∙ c.if-within.true) in
    serves_from_Range (λ x q k. search rules)
    (λ x a' b.
    let p = room_for a.part.now x (omega arith) in
    let q = room_for a.placed.now (a.at + x) (omega arith) in
    let few = strips-few (a.at + x) a.placed.now (omega arith) c.well_formed.1.1.1.0.0 in
    search (rules, arith))

pub returns-then-within : goal.returns-then-within
unfolding lies_test same_strip
returns-then-within c =
    let a = c.args in
    let e = all_every (strip_test a.part.now a.x a.y a.placed.now a.at) c.capacity-n.result _ _ _ c.all.ensures.ran refl
    (λ x b q k. search (rules, tests)) in
    rw (← c.capacity-n.ensures, ← c.capacity.ensures, ← c.within.ensures, c.if-within.true) e

pub returns-else-within : goal.returns-else-within
unfolding lies_test
returns-else-within c = rw (← c.capacity-n.ensures, ← c.capacity.ensures, ← c.within.ensures, c.if-within.false)
