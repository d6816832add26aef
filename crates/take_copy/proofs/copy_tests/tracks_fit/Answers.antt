-- `take_copy::copy_tests::tracks_fit` meets its contract. Assumes nothing.
use Prim.Native.Nat.{◌+◌}
use mathlib.Core.Path.{refl}
use Rattle.std.proofs.Common.{rules, tests}
use Rattle.std.proofs.lemmas.Iterator.{serves_from_Range}
use Rattle.rooms.specs.tracks.inner.Tracks.{next_columns, look_counts_from}
use Rattle.consistent.proofs.strip_tests.Everyone.{all_every}
use Rattle.take_copy.specs.copy_tests.inner.CopyTest.{slot_track_test, tracks_test}
use Rattle.take_copy.proofs.copy_tests.tracks_fit.Goals as goal

pub all-requires-clause-callable : goal.all-requires-clause-callable
all-requires-clause-callable c =
    serves_from_Range (λ x q k. search rules) (λ x a b. let p = c.requires in let z = p.3 in search (rules, p.6 x))

pub returns : goal.returns
unfolding tracks_test
returns c =
    let a = c.args in
    all_every (λ q. slot_track_test a.bounds a.resolution a.taken a.inset_bounds.now (next_columns a.tracks.now) (look_counts_from a.tracks.now) (a.slot + q))
    _ _ _ _ c.all.ensures.ran refl (λ x b q k. search (rules, tests))
