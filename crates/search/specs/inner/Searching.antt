-- For inner functions' contracts only: one search in the code's order, with the look counts and the remembered columns by slot. That it is
-- the search of the definition of filling is proved in proofs/. Definitions only. Assumes nothing.
use Rattle.std.specs.Prelude.{Option, Some, None, Result, Ok, Err, ℕ, zero, suc, ◌+◌, ◌-◌, ◌≤◌, List, get_or, set, Float}
use Rattle.index.specs.declared.Overrun.{Overrun}
use Rattle.look.specs.inner.Ready.{look_of}
use Rattle.search.specs.declared.columns.Columns.{Columns}
use Rattle.search.specs.columns.inner.Stands.{column_x, last_of, start_of}
use Rattle.look.specs.declared.height.Look.{Look}
use Rattle.look.specs.declared.height.Look.TheVariants.{Free, Full}

-- what a look answers; what a search yields: a column with its free height and the clear height above it
abbrev pub Answer : Type 0
Answer = Result Look Overrun

abbrev pub Found : Type 0
Found = Result (Option (ℕ × Float × Float)) Overrun

-- the look at column c, with a room of so many intervals
unfoldable pub answer_at : ℕ → Columns → List Float → List Float → List Float → List Float → ℕ → Answer
answer_at capacity k inset apart sheet placed c = look_of capacity (column_x k c) k.y_low k.y_high inset apart sheet placed

-- a search's column, and the look counts after it
pub record Looked : Type 0 where
  pub found : Found
  pub counts : List ℕ

abbrev pub looked : Found → List ℕ → Looked
looked f l = record { found = f; counts = l }

-- the column c where its look is free, 22 where it has no room, else what the columns after it give
unfoldable pub after_look : Look → ℕ → List ℕ → Looked → Looked
after_look (Free y g) c counts next = looked (Ok (Some (c, y, g))) counts
after_look Full c counts next = next

unfoldable pub after_answer : Answer → ℕ → List ℕ → Looked → Looked
after_answer (Err r) c counts next = looked (Err r) counts
after_answer (Ok l) c counts next = after_look l c counts next

-- one look more
abbrev pub counted : ℕ → List ℕ → List ℕ
counted slot counts = set counts slot (get_or counts slot 0 + 1)

-- the n columns from c on
unfoldable pub search_from : (ℕ → Answer) → ℕ → ℕ → ℕ → List ℕ → Looked
search_from f slot zero c counts = looked (Ok None) counts
search_from f slot (suc n) c counts = after_answer (f c) c (counted slot counts) (search_from f slot n (c + 1) (counted slot counts))

abbrev pub Within : ℕ → Found → Type 0
Within last (Ok (Some (c, y, g))) = c ≤ last
Within last (Ok None) = Unit
Within last (Err r) = Unit

abbrev pub next_of : Found → ℕ
next_of (Ok (Some (c, y, g))) = c + 1
next_of (Ok None) = 0
next_of (Err r) = 0

-- one orientation's search, with the look counts and what is remembered after it
pub record Tracked : Type 0 where
  pub found : Found
  pub counts : List ℕ
  pub next : List ℕ

abbrev pub tracked : Found → List ℕ → List ℕ → Tracked
tracked f l m = record { found = f; counts = l; next = m }

unfoldable pub remembering : ℕ → List ℕ → Looked → Tracked
remembering slot next s = tracked s.found s.counts (set next slot (next_of s.found))

unfoldable pub search_of : (ℕ → Answer) → Columns → ℕ → List ℕ → List ℕ → Tracked
search_of f k slot counts next =
    let from = start_of k (last_of k) (get_or next slot 0) in
    remembering slot next (search_from f slot (last_of k + 1 - from) from counts)
