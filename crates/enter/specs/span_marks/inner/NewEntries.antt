-- For inner functions' contracts only: the new entries of a copy's strips, and their buckets. Definitions only. Assumes nothing.
use Rattle.std.specs.Prelude.{ℕ, ◌+◌, ◌≤◌, ◌<◌, ◌≡◌, true, false, ◌&&◌, List, get_or, leb, Float}
use Rattle.trapezoid.specs.Strip.{strip_at}
use Rattle.index.specs.declared.Index.{Index}
use Rattle.index.specs.Buckets.{up_from, keep, bucket_in}
use Rattle.index.specs.inner.Listing.{covers}

-- one if b is a bucket from lo to hi
unfoldable pub one : ℕ → ℕ → ℕ → ℕ
one lo hi b = elim (leb lo b && leb b hi) [ true ↦ 1 | false ↦ 0 ]

-- the new entries of bucket b: of the c strips from i on
unfoldable pub new_in : Index → List Float → ℕ → ℕ → ℕ → List ℕ
new_in ix standing c i b = keep (λ j. covers ix (strip_at standing j) b) (up_from c i)

-- ---- the strips from `from` to below `to` are entered in buckets from `first` to before `end`
pub record Within (ix : Index) (standing : List Float) (from to first end : ℕ) : Type 0 where
  pub low : (i : ℕ) → from ≤ i → i < to → first ≤ bucket_in ix (strip_at standing i).x0
  pub high : (i : ℕ) → from ≤ i → i < to → bucket_in ix (strip_at standing i).x1 < end

-- ---- the first and last buckets of the first c strips from `from` on, as many as the tables hold
pub record Kept (ix : Index) (standing : List Float) (from c : ℕ) (firsts lasts : List ℕ) : Type 0 where
  pub low : (j : ℕ) → j < c → j < 64 → get_or firsts j 0 ≡ bucket_in ix (strip_at standing (from + j)).x0
  pub high : (j : ℕ) → j < c → j < 64 → get_or lasts j 0 ≡ bucket_in ix (strip_at standing (from + j)).x1
