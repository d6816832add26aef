-- Case 4's copies called for at once, computed. Assumes nothing.
use mathlib.Core.Path.{◌≡◌, refl}
use Rattle.nesting.proofs.Computing.{cases_compute}
use Rattle.batch.specs.NextCopies.{none_taken, one_more, batch_from, next_copies_of}
use Rattle.claims.specs.BatchCases.{batch_bits, asked_bits, all_taken, batch_five, batch_six}

unfoldable pub batch_computes : Unit {0}
unfolding none_taken one_more batch_from next_copies_of batch_bits asked_bits all_taken batch_five batch_six
batch_computes = tt

pub five_taken : batch_five.got ≡ batch_five.want
unfolding cases_compute batch_computes
five_taken = refl

pub six-stopped : batch_six.got ≡ batch_six.want
unfolding cases_compute batch_computes
six-stopped = refl
