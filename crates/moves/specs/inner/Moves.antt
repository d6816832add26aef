-- For inner functions' contracts only: a part of a table moved up, and numbers made larger. Definitions only. Assumes nothing.
use Rattle.std.specs.Prelude.{ℕ, ◌+◌, ◌≤◌, ◌<◌, ◌≡◌, List, length, get_or}

-- ---- the part from `from` to `to` is moved up by `by`
pub record Moved (from to by : ℕ) (s r : List ℕ) : Type 0 where
  pub size : length r ≡ length s
  pub up : (j : ℕ) → from ≤ j → j < to → get_or r (j + by) 0 ≡ get_or s j 0
  pub front : (j : ℕ) → j < from + by → get_or r j 0 ≡ get_or s j 0
  pub back : (j : ℕ) → to + by ≤ j → get_or r j 0 ≡ get_or s j 0

-- ---- the starts from `from` to below b are larger by `by`
pub record Shifted (from by : ℕ) (st : List ℕ) (b : ℕ) (s : List ℕ) : Type 0 where
  pub size : length s ≡ length st
  pub early : (c : ℕ) → c < from → get_or s c 0 ≡ get_or st c 0
  pub done : (c : ℕ) → from ≤ c → c < b → get_or s c 0 ≡ get_or st c 0 + by
  pub todo : (c : ℕ) → b ≤ c → get_or s c 0 ≡ get_or st c 0
