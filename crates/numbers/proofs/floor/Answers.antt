-- `numbers::floor` meets its contract: from 2 ^ 64 on, from 1 on, and below. Assumes nothing.
use lib.Ieee.{of_bits}
use Rattle.numbers.proofs.Truth.{holds, fails}
use Rattle.numbers.proofs.RoundDown.{floor_high, floor_low, floor_casts}
use Rattle.numbers.proofs.floor.Goals as goal

pub returns-then-x : goal.returns-then-x
unfolding of_bits
returns-then-x c = floor_high c.args.x (holds c.well_formed.0.1) (holds c.if-x.true)

pub truncating_f64_to_u64-requires : goal.truncating_f64_to_u64-requires
unfolding of_bits
truncating_f64_to_u64-requires c = let h = floor_casts c.args.x (holds c.well_formed.0.1) (holds c.if-x-2.true) (fails c.if-x.false) in record { lower_bound = h.0; upper_bound = h.1 }

pub returns-then-x-2 : goal.returns-then-x-2
returns-then-x-2 c = c.truncating_f64_to_u64.ensures

pub returns : goal.returns
unfolding of_bits
returns c = floor_low c.args.x (holds c.well_formed.0.1) (fails c.if-x-2.false)
