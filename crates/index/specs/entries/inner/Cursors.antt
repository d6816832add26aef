-- For inner functions' contracts only: a table with a number for each bucket, that of bucket b at b + 1. Definitions only. Assumes nothing.
use Rattle.std.specs.Prelude.{ℕ, zero, suc, ◌+◌, ◌≤◌, ◌<◌, ◌≡◌, List, length, get_or, set, Float}
use Rattle.index.specs.declared.Index.{Index}
use Rattle.index.specs.Buckets.{buckets}
use Rattle.index.specs.inner.Listing.{entered_from}

-- the numbers of the c buckets from b on, each one more
unfoldable pub raised : ℕ → ℕ → List ℕ → List ℕ
raised zero b s = s
raised (suc c) b s = raised c (suc b) (set s (b + 1) (get_or s (b + 1) 0 + 1))

-- the sum of the first b buckets' numbers
unfoldable pub sum_of : List ℕ → ℕ → ℕ
sum_of counts zero = 0
sum_of counts (suc b) = sum_of counts b + get_or counts (b + 1) 0

-- each bucket's number is how many entries of the first n standing strips it has
pub record Counts (ix : Index) (standing : List Float) (n : ℕ) (counts : List ℕ) : Type 0 where
  pub first : get_or counts 0 0 ≡ 0
  pub each : (b : ℕ) → b < buckets → get_or counts (b + 1) 0 ≡ length (entered_from ix standing n b)

-- each bucket's number is where its entries are to begin, and there is room for all
pub record Begun (counts : List ℕ) (room : ℕ) (starts : List ℕ) : Type 0 where
  pub table : length starts ≡ length counts
  pub first : get_or starts 0 0 ≡ get_or counts 0 0
  pub begins : (b : ℕ) → b < buckets → get_or starts (b + 1) 0 ≡ sum_of counts b
  pub within : sum_of counts buckets ≤ room
