-- The columns that the code keeps are those of the definition of filling. Assumes nothing.
use Prim.Native.Nat.{ℕ}
use mathlib.Core.Path.{◌≡◌, refl}
use lib.Ieee.{Float}
use Rattle.strips.specs.declared.Rect.{Rect}
use Rattle.filling.specs.Columns.{ranges, reversed, columns, regular_column, last_column, column_at}
use Rattle.search.specs.columns.inner.Stands.{columns_of, reversed_of, regular_of, column_x, last_of}

module _ (s b : Rect) (resolution : Float) where
  pub low_same : (columns_of s b resolution).y_low ≡ (ranges s b).y_low
  unfolding columns_of ranges
  low_same = refl

  pub high_same : (columns_of s b resolution).y_high ≡ (ranges s b).y_high
  unfolding columns_of ranges
  high_same = refl

  pub count_same : (columns_of s b resolution).count ≡ columns resolution (ranges s b)
  unfolding columns_of ranges columns
  count_same = refl

  pub reversed-same : reversed_of (columns_of s b resolution) ≡ reversed (ranges s b)
  unfolding columns_of reversed_of ranges reversed
  reversed-same = refl

  pub last-same : last_of (columns_of s b resolution) ≡ last_column resolution (ranges s b)
  unfolding columns_of regular_of last_of ranges columns regular_column last_column
  last-same = refl

  pub x_same : (c : ℕ) → column_x (columns_of s b resolution) c ≡ column_at resolution (ranges s b) c
  unfolding columns_of regular_of column_x ranges columns regular_column column_at
  x_same c = refl
