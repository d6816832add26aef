-- Document 01, "Filling": ranges and columns. Definitions only. Assumes nothing.
use Rattle.std.specs.Prelude.{ℕ, suc, Bool, true, false, ◌||◌, leb, Float}
use Rattle.std.specs.Float.Ieee.{lt, to_unsigned}
use Rattle.numbers.specs.Numbers.{◌⊕◌, ◌⊖◌, ◌⊗◌, ◌⊘◌, from_int, plus_zero}
use Rattle.strips.specs.declared.Rect.{Rect}

-- where an orientation may be moved
pub record Ranges : Type 0 where
  pub x_low : Float
  pub x_high : Float
  pub y_low : Float
  pub y_high : Float

-- "With inset bounds b and sheet bounds s: x runs from s0 − b0 to s2 − b2, y from s1 − b1 to s3 − b3"
unfoldable pub ranges : Rect → Rect → Ranges
ranges s b =
    record { x_low = s.left ⊖ b.left; x_high = s.right ⊖ b.right; y_low = s.bottom ⊖ b.bottom; y_high = s.top ⊖ b.top }

-- "if either range is reversed there is no look"
unfoldable pub reversed : Ranges → Bool
reversed r = lt r.x_high r.x_low || lt r.y_high r.y_low

-- "Columns = (x_high − x_low) / resolution rounded down"
unfoldable pub columns : Float → Ranges → ℕ
columns resolution r = to_unsigned 64 ((r.x_high ⊖ r.x_low) ⊘ resolution)

-- "column c, 0 to columns, stands at x_low + c × resolution"
unfoldable pub regular_column : Float → Ranges → ℕ → Float
regular_column resolution r c = r.x_low ⊕ from_int c ⊗ resolution

-- "One extra column, columns + 1, is at x_high only if x_low + columns × resolution < x_high"
unfoldable pub last_column : Float → Ranges → ℕ
last_column resolution r =
    let n = columns resolution r in
    elim (lt (regular_column resolution r n) r.x_high) [ true ↦ suc n | false ↦ n ]

-- the x at which column c stands; a minus zero, which only a state's own bounds can give, is plus zero
unfoldable pub column_at : Float → Ranges → ℕ → Float
column_at resolution r c = plus_zero (elim (leb c (columns resolution r)) [ true ↦ regular_column resolution r c | false ↦ r.x_high ])
