-- For inner functions' contracts only: the columns as the code keeps them. That they are document 01's columns is proved in proofs/.
-- Definitions only. Assumes nothing.
use Rattle.std.specs.Prelude.{ℕ, zero, suc, ◌+◌, Bool, true, false, ◌||◌, leb, Float}
use Rattle.std.specs.Float.Ieee.{lt, to_unsigned}
use Rattle.numbers.specs.Numbers.{◌⊕◌, ◌⊖◌, ◌⊗◌, ◌⊘◌, from_int, plus_zero}
use Rattle.strips.specs.declared.Rect.{Rect}
use Rattle.search.specs.declared.columns.Columns.{Columns}

unfoldable pub columns_of : Rect → Rect → Float → Columns
columns_of s b resolution =
    record {
      x_low = s.left ⊖ b.left;
      x_high = s.right ⊖ b.right;
      y_low = s.bottom ⊖ b.bottom;
      y_high = s.top ⊖ b.top;
      resolution = resolution;
      count = to_unsigned 64 ((s.right ⊖ b.right ⊖ (s.left ⊖ b.left)) ⊘ resolution);
    }

unfoldable pub reversed_of : Columns → Bool
reversed_of k = lt k.x_high k.x_low || lt k.y_high k.y_low

-- column c where c is one of 0 to count
unfoldable pub regular_of : Columns → ℕ → Float
regular_of k c = k.x_low ⊕ from_int c ⊗ k.resolution

unfoldable pub column_x : Columns → ℕ → Float
column_x k c = plus_zero (elim (leb c k.count) [ true ↦ regular_of k c | false ↦ k.x_high ])

unfoldable pub last_of : Columns → ℕ
last_of k = elim (lt (regular_of k k.count) k.x_high) [ true ↦ suc k.count | false ↦ k.count ]

-- the column at which a search starts, by what is remembered: 0 for none, or 1 + the column
unfoldable pub start_from : ℕ → ℕ → ℕ
start_from last zero = last + 1
start_from last (suc c) = c

unfoldable pub start_of : Columns → ℕ → ℕ → ℕ
start_of k last next = elim (reversed_of k) [ true ↦ last + 1 | false ↦ start_from last next ]
