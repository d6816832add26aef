-- Closed facts on the numbers that the code writes out, by computing. Assumes nothing.
use Rattle.std.proofs.Common.{◌≡◌, ◌-◌, ◌*◌, ◌^◌, ◌<◌, ◌≤◌, false, negsuc, refl, lit<, lit≤}
use lib.Ieee.{Float, fin, binary64, of_bits, fits}
use Rattle.numbers.proofs.Keys.{mid, unit, mag, key, NumberIn}

-- 0.001, the least resolution
abbrev pub milli : Float
milli = fin false 1152921504606847 (negsuc 59)

pub milli_is : of_bits binary64 0x3f50_624d_d2f1_a9fc ≡ milli
unfolding of_bits
milli_is = refl

pub milli_num : NumberIn binary64 milli
unfolding fits
milli_num = record { fit = tt; is_finite = tt; plus = tt }

pub milli_reach : unit binary64 ≤ 1001 * (key binary64 milli - mid binary64)
unfolding key mag mid unit
milli_reach = lit≤ tt

-- as a double it is not below the thousandth
pub milli_thousandth : unit binary64 ≤ 1000 * (key binary64 milli - mid binary64)
unfolding key mag mid unit
milli_thousandth = lit≤ tt

-- 2 ^ -1022, the least width of a bucket
abbrev pub least : Float
least = fin false 1 (negsuc 1021)

pub least_is : of_bits binary64 0x0010_0000_0000_0000 ≡ least
unfolding of_bits
least_is = refl

pub least-pos : mid binary64 < key binary64 least
unfolding key mag mid unit
least-pos = lit< tt

-- the grid of 1 / 1024: 2 ^ 1064 units
pub grid-room : 2 ^ 53 * 2 ^ 1064 ≤ mid binary64
unfolding mid
grid-room = lit≤ tt

pub grid-unit : 1024 * 2 ^ 1064 ≡ unit binary64
unfolding unit
grid-unit = refl
