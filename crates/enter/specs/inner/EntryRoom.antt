-- Document 01, "Index": the entry room after strips are entered_from, and refusal 21. Definitions only. Assumes nothing.
use Rattle.std.specs.Prelude.{ℕ, ◌+◌, ◌≤◌, ◌<◌, ◌≡◌, Bool, true, false, length, get_or, drop, leb, Float}
use mathlib.Core.List.{List, ◌++◌, map, flat_map}
use Rattle.trapezoid.specs.Strip.{strip_at}
use Rattle.index.specs.declared.Index.{Index}
use Rattle.index.specs.Buckets.{buckets, up_from, bucket_in, entries_of}
use Rattle.index.specs.inner.Listing.{entered_from}

-- "Entries lie by bucket, then strip number.": the room with the entries of the first n standing strips, and what it held after them
unfoldable pub entries_in : Index → List Float → ℕ → List ℕ → List ℕ
entries_in ix standing n room = entries_of ix standing n ++ drop (length (entries_of ix standing n)) room

-- how many entries the first b buckets have: where those of bucket b begin
unfoldable pub start_of : Index → List Float → ℕ → ℕ → ℕ
start_of ix standing n b = length (flat_map (entered_from ix standing n) (up_from b 0))

-- the table of starts, and the end of the last bucket
unfoldable pub starts_of : Index → List Float → ℕ → List ℕ
starts_of ix standing n = map (start_of ix standing n) (up_from (buckets + 1) 0)

pub record Rooms : Type 0 where
  pub entries : List ℕ
  pub starts : List ℕ

-- whether a copy is entered_from, and the rooms after that
pub record Entering : Type 0 where
  pub fits : Bool
  pub after : Rooms

-- "bucket entries exceed their room" (21) is tested before any is written: the first n standing strips, of which the last are new
unfoldable pub enter_of : Index → List Float → ℕ → Rooms → Entering
enter_of ix standing n r =
    elim (leb (length (entries_of ix standing n)) (length r.entries)) [
      | true ↦ record { fits = true; after = record { entries = entries_in ix standing n r.entries; starts = starts_of ix standing n } }
      | false ↦ record { fits = false; after = r }
    ]

-- the numbers of the strips from `from` to below `to` are written: the bucket of each one's x0; the others are as they were
pub record FirstsWritten (ix : Index) (standing : List Float) (from to : ℕ) (before after : List ℕ) : Type 0 where
  pub below : (i : ℕ) → i < from → get_or after i 0 ≡ get_or before i 0
  pub new : (i : ℕ) → from ≤ i → i < to → get_or after i 0 ≡ bucket_in ix (strip_at standing i).x0
  pub above : (i : ℕ) → to ≤ i → get_or after i 0 ≡ get_or before i 0
