-- Document 01, "Filling": the look at a column, the search from the remembered column, and its list of columns. Definitions only. Assumes nothing.
use Rattle.std.specs.Prelude.{ℕ, zero, suc, ◌+◌, ◌-◌, Bool, true, false, List, [], ◌∷◌, length, Float}
use Rattle.index.specs.declared.Interval.{Interval}
use Rattle.index.specs.Buckets.{up_from}
use Rattle.look.specs.declared.height.Look.{Look}
use Rattle.look.specs.declared.height.Look.TheVariants.{Free, Full}
use Rattle.look.specs.height.Smallest.{height_of}
use Rattle.look.specs.Looking.{counted_in}
use Rattle.filling.specs.Columns.{Ranges, ranges, reversed, last_column, column_at}
use Rattle.filling.specs.Shapes.{Shape, Planner}

-- ---- a look

-- the ranges of an orientation
unfoldable pub ranges_of : Planner → Shape → Ranges
ranges_of p s = ranges p.bounds s.bounds

-- "if either range is reversed there is no look"
unfoldable pub reversed_for : Planner → Shape → Bool
reversed_for p s = reversed (ranges_of p s)

-- an orientation's last column; 0 where there is no look
unfoldable pub last_of : Planner → Shape → ℕ
last_of p s = elim (reversed_for p s) [ true ↦ 0 | false ↦ last_column p.resolution (ranges_of p s) ]

-- the counted intervals of the look at column c: "Inset strips are held against the sheet, apart strips against placed copies"
unfoldable pub intervals_at : Planner → List Float → Shape → ℕ → List Interval
intervals_at p standing s c =
    let r = ranges_of p s in
    counted_in (column_at p.resolution r c) r.y_low r.y_high s.inset s.apart p.sheet standing

-- "A look answers free with its height, or full."
unfoldable pub look_at : Planner → List Float → Shape → ℕ → Look
look_at p standing s c = let r = ranges_of p s in height_of r.y_low r.y_high (intervals_at p standing s c)

-- ---- a search

-- the column that a search yields, with its free height and the clear height above it (document 02, W7)
pub data Found : Type 0 where
  at : ℕ → Float → Float → Found
  nowhere : Found

-- "it yields the first column with a free height and stops there": of the n columns from c on
unfoldable pub first_free : (ℕ → Look) → ℕ → ℕ → Found
first_free look zero c = nowhere
first_free look (suc n) c = elim (look c) [ Free y g ↦ at c y g | Full ↦ first_free look n (suc c) ]

-- the remembered column (document 01): nesting.rs's next_column, where the next search starts, or "none"
pub data Remembered : Type 0 where
  column : ℕ → Remembered
  none : Remembered

-- "The search starts at the remembered column"; nothing is found after "none", or where there is no look
unfoldable pub search : Planner → List Float → Shape → Remembered → Found
search p standing s none = nowhere
search p standing s (column c) =
    elim (reversed_for p s) [ true ↦ nowhere | false ↦ first_free (look_at p standing s) (suc (last_of p s) - c) c ]

-- "that column is remembered, or "none" for good"
unfoldable pub remembered : Found → Remembered
remembered (at c y g) = column c
remembered nowhere = none

-- "the list of columns from the remembered one to the one yielded, else to the last"
unfoldable pub columns_from : ℕ → ℕ → Found → List ℕ
columns_from c last (at d y g) = up_from (suc d - c) c
columns_from c last nowhere = up_from (suc last - c) c

-- "A search's looks are the list of columns .., empty after "none" or where there is no look"
unfoldable pub looks : Planner → Shape → Remembered → Found → List ℕ
looks p s none f = []
looks p s (column c) f = elim (reversed_for p s) [ true ↦ [] | false ↦ columns_from c (last_of p s) f ]

-- what is kept of an orientation: its remembered column and its look count
pub record Track : Type 0 where
  pub next_column : Remembered
  pub look_count : ℕ

-- "one column step answers each look and adds one to its orientation's look count, which nothing else in a filling changes"
unfoldable pub searched : Planner → Shape → Track → Found → Track
searched p s t f = record { next_column = remembered f; look_count = t.look_count + length (looks p s t.next_column f) }

-- ---- every orientation of a kind is searched

-- what each orientation's search finds
unfoldable pub search_all : Planner → List Float → List Shape → List Track → List Found
search_all p standing [] ts = []
search_all p standing (s ∷ ss) [] = []
search_all p standing (s ∷ ss) (t ∷ ts) = search p standing s t.next_column ∷ search_all p standing ss ts

-- their tracks after it
unfoldable pub searched_all : Planner → List Shape → List Track → List Found → List Track
searched_all p [] ts fs = []
searched_all p (s ∷ ss) [] fs = []
searched_all p (s ∷ ss) (t ∷ ts) [] = []
searched_all p (s ∷ ss) (t ∷ ts) (f ∷ fs) = searched p s t f ∷ searched_all p ss ts fs
