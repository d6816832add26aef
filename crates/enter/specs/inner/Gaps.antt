-- For inner functions' contracts only: counting new entries and filling gaps. Definitions only. Assumes nothing.
use Rattle.std.specs.Prelude.{ℕ, zero, suc, ◌+◌, ◌<◌, ◌≡◌, Bool, List, length, get_or, set, Float}
use Rattle.index.specs.declared.Index.{Index}
use Rattle.index.specs.Buckets.{buckets}
use Rattle.enter.specs.span_marks.inner.NewEntries.{new_in}
use Rattle.enter.specs.inner.EntryRoom.{Rooms, Entering}

abbrev pub rooms : List ℕ → List ℕ → Rooms
rooms e s = record { entries = e; starts = s }

abbrev pub entering : Bool → List ℕ → List ℕ → Entering
entering b e s = record { fits = b; after = rooms e s }

-- ---- gains are the numbers of new entries of the c strips from i on, bucket by bucket
pub record Counted (ix : Index) (standing : List Float) (c i : ℕ) (gains : List ℕ) : Type 0 where
  pub counts : (b : ℕ) → b < buckets → get_or gains b 0 ≡ length (new_in ix standing c i b)

-- ---- filling the gaps: bucket b begins at `at b`, holds `list b`, and ends where its next start stands
pub record Blocks (at : ℕ → ℕ) (list : ℕ → List ℕ) (e s : List ℕ) : Type 0 where
  pub table : length s ≡ buckets + 1
  pub first : get_or s 0 0 ≡ 0
  pub ends : (b : ℕ) → b < buckets → get_or s (b + 1) 0 ≡ at b + length (list b)
  pub holds : (b : ℕ) → b < buckets → (j : ℕ) → j < length (list b) → get_or e (at b + j) 0 ≡ get_or (list b) j 0

-- the number i goes to the end of the c buckets from b on
unfoldable pub filled : ℕ → ℕ → ℕ → Rooms → Rooms
filled i zero b r = r
filled i (suc c) b r = filled i c (suc b) (rooms (set r.entries (get_or r.starts (b + 1) 0) i) (set r.starts (b + 1) (get_or r.starts (b + 1) 0 + 1)))
