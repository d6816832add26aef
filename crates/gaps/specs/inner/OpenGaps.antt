-- For inner functions' contracts only: buckets moved up, so that new entries have room between them. Definitions only. Assumes nothing.
use Rattle.std.specs.Prelude.{ℕ, zero, suc, ◌+◌, ◌-◌, ◌≤◌, ◌<◌, ◌≡◌, List, length, get_or}
use Rattle.index.specs.Buckets.{buckets}

-- the new entries of the first b buckets
unfoldable pub before : List ℕ → ℕ → ℕ
before gains zero = 0
before gains (suc b) = before gains b + get_or gains b 0

-- ---- marks tell how many new entries a bucket has from how many the next has; g are the buckets' numbers of new entries
pub record Marked (count end : ℕ) (g marks : List ℕ) : Type 0 where
  pub falls : (b : ℕ) → b < end → 0 < before g (b + 1) → get_or marks b 0 + get_or g (b + 1) 0 ≡ count + get_or g b 0
  pub late : (b : ℕ) → end ≤ b → b ≤ buckets → get_or g b 0 ≡ 0

-- ---- the buckets from b to below `top` are moved up: st and e₀ are what starts and entries were
pub record Opened (top : ℕ) (st gains e₀ : List ℕ) (b : ℕ) (e s : List ℕ) : Type 0 where
  pub size : length e ≡ length e₀
  pub table : length s ≡ length st
  pub old : (c : ℕ) → c ≤ b → get_or s c 0 ≡ get_or st c 0
  pub new : (c : ℕ) → b ≤ c → c < top → get_or s (c + 1) 0 ≡ get_or st (c + 1) 0 + before gains c
  pub above : (c : ℕ) → top < c → get_or s c 0 ≡ get_or st c 0
  pub moved : (c : ℕ) → b ≤ c → c < top → (j : ℕ) → get_or st c 0 ≤ j → j < get_or st (c + 1) 0 → get_or e (j + before gains c) 0 ≡ get_or e₀ j 0
  pub kept : (j : ℕ) → j < get_or st b 0 → get_or e j 0 ≡ get_or e₀ j 0
  pub rest : (j : ℕ) → get_or st top 0 + before gains top ≤ j → get_or e j 0 ≡ get_or e₀ j 0

-- ---- one strip: of the `width` buckets from lo on, those from number k on are moved up, each by its number, and have the strip's number at their end
pub record Inserted (lo width number : ℕ) (st e₀ : List ℕ) (k : ℕ) (e : List ℕ) : Type 0 where
  pub size : length e ≡ length e₀
  pub moved : (d : ℕ) → k ≤ d → d < width → (j : ℕ) → get_or st (lo + d) 0 ≤ j → j < get_or st (lo + d + 1) 0 → get_or e (j + d) 0 ≡ get_or e₀ j 0
  pub put : (d : ℕ) → k ≤ d → d < width → get_or e (get_or st (lo + d + 1) 0 + d) 0 ≡ number
  pub kept : (j : ℕ) → j < get_or st (lo + k) 0 + k → get_or e j 0 ≡ get_or e₀ j 0
  pub rest : (j : ℕ) → get_or st (lo + width) 0 + width ≤ j → get_or e j 0 ≡ get_or e₀ j 0

-- the first d starts after number lo are larger by 1, 2, ..
pub record Stepped (lo : ℕ) (st : List ℕ) (d : ℕ) (s : List ℕ) : Type 0 where
  pub size : length s ≡ length st
  pub done : (c : ℕ) → c ≤ lo + d → get_or s c 0 ≡ get_or st c 0 + (c - lo)
  pub todo : (c : ℕ) → lo + d < c → get_or s c 0 ≡ get_or st c 0
