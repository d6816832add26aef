-- `consistent::slot_tests::slots_fit` meets its contract. Assumes nothing.
use Prim.Native.Nat.{◌+◌, ◌*◌}
use mathlib.Core.Path.{refl}
use lib.ListN.{get_or}
use Rattle.std.proofs.Common.{rules, tests}
use Rattle.consistent.specs.slot_tests.inner.Slots.{slots, kind_test, slots_test}
use Rattle.consistent.proofs.strip_tests.Everyone.{all_every}
use Rattle.consistent.proofs.slot_tests.slots_fit.Goals as goal

pub returns : goal.returns
unfolding slots_test
returns c =
    let a = c.args in
    let w = slots a.bounds a.resolution a.taken a.inset_bounds.now a.parts.now a.apart.now a.inset.now a.next_column.now a.look_counts.now in
    all_every (λ k. kind_test w (16 * k) (get_or a.rows.now (4 * k + 3) 0)) _ _ _ _ c.all.ensures.ran refl (λ x b q k. search (rules, tests))
