-- For inner functions' contracts only: positions stored in their room. Definitions only. Assumes nothing.
use Rattle.std.specs.Prelude.{ℕ, zero, suc, ◌+◌, ◌*◌, List, [], slice_set, Float}
use Rattle.numbers.specs.Numbers.{pos_zero, from_int}
use Rattle.filling.specs.declared.State.{State}
use Rattle.filling.specs.Accounts.{Position}
use Rattle.filling.specs.State.{zero_tables}

-- the room with q as its position number p
unfoldable pub set_position : List Float → ℕ → Position → List Float
set_position room p q =
    slice_set (slice_set (slice_set (slice_set (slice_set (slice_set room (6 * p) (from_int q.kind)) (6 * p + 1) (from_int q.copy)) (6 * p + 2) (from_int q.orientation))
    (6 * p + 3) q.x) (6 * p + 4) q.y) (6 * p + 5) q.gap

-- the same for a copy by its number in a layout; nothing for one without a place
unfoldable pub put_position : ℕ → List Float → ℕ → ℕ → ℕ → Float → Float → Float → List Float
put_position zero room p k c x y gap = room
put_position (suc o) room p k c x y gap = set_position room p (record { kind = k; copy = c; orientation = o; x = x; y = y; gap = gap })

-- a state with this order and these places, and nothing else
abbrev pub state_of : List ℕ → List ℕ → List Float → List Float → List Float → State
state_of order orientation x y gap =
    record {
      tables = zero_tables;
      order = order;
      taken = 0;
      next_column = [];
      look_counts = [];
      placed_strips = 0;
      layout = record { orientation = orientation; x = x; y = y; gap = gap; unplaced_area = pos_zero; right = pos_zero };
    }
