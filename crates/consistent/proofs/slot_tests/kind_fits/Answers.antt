-- `consistent::slot_tests::kind_fits` meets its contract. Assumes nothing.
use Prim.Native.Nat.{◌+◌}
use mathlib.Core.Path.{refl}
use Rattle.std.proofs.Common.{rules, tests}
use Rattle.consistent.specs.slot_tests.inner.Slots.{slots, slot_test, kind_test}
use Rattle.consistent.proofs.strip_tests.Everyone.{all_every}
use Rattle.consistent.proofs.slot_tests.kind_fits.Goals as goal

pub returns : goal.returns
unfolding kind_test
returns c =
    let a = c.args in
    let w = slots a.bounds a.resolution a.taken a.inset_bounds.now a.parts.now a.apart.now a.inset.now a.next_column.now a.look_counts.now in
    all_every (λ o. slot_test w (a.first + o)) _ _ _ _ c.all.ensures.ran refl (λ x b q k. search (rules, tests))
