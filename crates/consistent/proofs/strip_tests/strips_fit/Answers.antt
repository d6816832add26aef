-- `consistent::strip_tests::strips_fit` meets its contract. Assumes nothing.
use native.Mathlib.Omega.{arith}
use mathlib.Core.Path.{refl}
use Rattle.std.proofs.Common.{rules, tests}
use Rattle.std.proofs.lemmas.Iterator.{serves_from_Range}
use Rattle.trapezoid.specs.Strip.{strip_at}
use Rattle.filling.specs.Consistent.{strip_fits, strips_fit}
use Rattle.consistent.proofs.strip_tests.Bounding.{room_for}
use Rattle.consistent.proofs.strip_tests.Everyone.{all_every}
use Rattle.consistent.proofs.strip_tests.strips_fit.Goals as goal

pub all-requires-clause-callable : goal.all-requires-clause-callable
all-requires-clause-callable c =
    serves_from_Range (λ x q k. search rules) (λ x a b. let z = room_for c.args.part.now x (omega arith) in search rules)

pub returns : goal.returns
unfolding strips_fit
returns c = rw (← c.capacity.ensures)
    (all_every (λ i. strip_fits (strip_at c.args.part.now i)) _ _ _ _ c.all.ensures.ran refl (λ x b q k. search (rules, tests)))
