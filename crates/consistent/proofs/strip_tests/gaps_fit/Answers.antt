-- `consistent::strip_tests::gaps_fit` meets its contract. Assumes nothing.
use mathlib.Core.Path.{refl}
use lib.ListN.{get_or}
use lib.Ieee.{nan}
use Rattle.std.proofs.Common.{rules, tests}
use Rattle.consistent.specs.strip_tests.inner.Gaps.{place_test, gaps_test}
use Rattle.consistent.proofs.strip_tests.Everyone.{all_every}
use Rattle.consistent.proofs.strip_tests.gaps_fit.Goals as goal

pub returns : goal.returns
unfolding gaps_test
returns c = all_every (λ i. place_test (get_or c.args.orientation.now i 0) (get_or c.args.gap.now i nan)) _ _ _ _ c.all.ensures.ran refl
    (λ x b q k. search (rules, tests))
