-- Document 01, "Numbers": the doubles of the paper, as IEEE 754 has them in lib.Ieee. Definitions only. Assumes nothing.
use Rattle.std.specs.Prelude.{Option, Some, None, ℕ, false, cond, pos, from_bits}
use lib.Ieee.{Float, fin, binary64, add, sub, mul, div, lt, eq, of_int}
use Rattle.std.specs.Float.Ieee.Scale.{finite}

-- "Floats are worked everywhere with each operation rounded once, in the written order."
infixl 65 ◌⊕◌
infixl 65 ◌⊖◌
infixl 70 ◌⊗◌
infixl 70 ◌⊘◌
abbrev pub ◌⊕◌ : Float → Float → Float
◌⊕◌ x y = add binary64 x y

abbrev pub ◌⊖◌ : Float → Float → Float
◌⊖◌ x y = sub binary64 x y

abbrev pub ◌⊗◌ : Float → Float → Float
◌⊗◌ x y = mul binary64 x y

abbrev pub ◌⊘◌ : Float → Float → Float
◌⊘◌ x y = div binary64 x y

abbrev pub pos_zero : Float
pos_zero = fin false 0 (pos 0)

-- a whole number as a double
abbrev pub from_int : ℕ → Float
from_int n = of_int binary64 (pos n)

-- "smaller": the first where they are equal
unfoldable pub smaller : Float → Float → Float
smaller x y = cond (lt y x) y x

-- "larger": the first where they are equal
unfoldable pub larger : Float → Float → Float
larger x y = cond (lt x y) y x

-- "A minus zero in a job becomes plus zero"
unfoldable pub plus_zero : Float → Float
plus_zero x = cond (eq x pos_zero) pos_zero x

-- "Doubles by their bits": what the 64 bits n of a job stand for; not finite is refused with 4
unfoldable pub double_of : ℕ → Option Float
double_of n = cond (finite (from_bits binary64 n)) (Some (plus_zero (from_bits binary64 n))) None
