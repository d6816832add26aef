-- What a computed claim opens, of the definitions in specs/. Assumes nothing.
use lib.Ieee.{add, sub, mul, div, lt, eq, of_bits, of_int}
use Rattle.numbers.specs.Numbers.{smaller, larger, plus_zero, double_of}

unfoldable pub numbers_compute : Unit {0}
unfolding add sub mul div lt lib.Ieee.le eq of_bits of_int lib.Ieee.to_bits lib.Ieee.to_unsigned lib.Ieee.neg smaller larger plus_zero double_of
numbers_compute = tt
