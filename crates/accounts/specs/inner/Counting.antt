-- For inner functions' contracts only: counts of the copies by kind, as the loops work them out. Definitions only. Assumes nothing.
use Rattle.std.specs.Prelude.{ℕ, zero, suc, ◌+◌, ◌*◌, ◌/◌, ◌%◌, Bool, true, false, cond, ◌&&◌, List, map, ◌==◌, nat_lt, slice_index}
use Rattle.index.specs.Buckets.{up_from}

-- a copy by its number in a layout: 1 if it stands, 0 if it has no place
unfoldable pub stands : ℕ → ℕ
stands zero = 0
stands (suc o) = 1

-- 1 if it has no place, 0 if it stands
unfoldable pub misses : ℕ → ℕ
misses zero = 1
misses (suc o) = 0

-- f from 0 to n - 1
unfoldable pub sum_to : (ℕ → ℕ) → ℕ → ℕ
sum_to f zero = 0
sum_to f (suc n) = sum_to f n + f n

-- n if the test holds
unfoldable pub count_if : Bool → ℕ → ℕ
count_if true n = n
count_if false n = 0

-- f over the first n copies of the order that are of kind k
unfoldable pub kind_to : (ℕ → ℕ) → List ℕ → ℕ → ℕ → ℕ
kind_to f order k zero = 0
kind_to f order k (suc n) = kind_to f order k n + count_if (slice_index order n == k) (f n)

-- the copies that stand, and those that have no place, at each place of a layout
abbrev pub stands_in : List ℕ → ℕ → ℕ
stands_in orientation n = stands (slice_index orientation n)

-- those that have no place
abbrev pub misses_in : List ℕ → ℕ → ℕ
misses_in orientation n = misses (slice_index orientation n)

-- by kind
abbrev pub by_kind : (ℕ → ℕ) → List ℕ
by_kind f = map f (up_from 64 0)

-- where each kind's positions start: those of the kinds before it come first
abbrev pub starts_by : (ℕ → ℕ) → List ℕ
starts_by f = by_kind (sum_to f)

-- the look count of slot i, 0 in a slot that the job does not use; rows: four to a kind, the fourth its orientations
unfoldable pub look_in : List ℕ → ℕ → List ℕ → ℕ → ℕ
look_in rows kinds looks i = cond (nat_lt (i / 16) kinds && nat_lt (i % 16) (slice_index rows (4 * (i / 16) + 3))) (slice_index looks i) 0
