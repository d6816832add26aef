-- For inner functions' contracts only: whether a place lies in the ranges of the columns as the code keeps them. That these are the definition's is
-- proved in proofs/. Definitions only. Assumes nothing.
use Rattle.std.specs.Prelude.{Bool, not, ◌&&◌, ◌||◌, Float}
use Rattle.std.specs.Float.Ieee.{le}
use Rattle.search.specs.declared.columns.Columns.{Columns}
use Rattle.search.specs.columns.inner.Stands.{reversed_of, column_x, last_of}
use Rattle.layouts.specs.Layouts.{among_columns}

unfoldable pub within : Float → Float → Float → Bool
within low high v = le low v && le v high

-- "each x lies in its orientation's range or is one of its columns (a reversed range has neither), each y lies in its range"
unfoldable pub in_range_of : Columns → Float → Float → Bool
in_range_of k x y =
    not (reversed_of k)
    && ((within k.x_low k.x_high x || among_columns (column_x k) (last_of k) x) && within k.y_low k.y_high y)
