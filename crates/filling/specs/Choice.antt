-- Document 01, "Filling": the choice among orientations. Definitions only. Assumes nothing.
use Rattle.std.specs.Prelude.{ℕ, suc, Bool, true, false, ◌&&◌, ◌||◌, List, [], ◌∷◌, ◌++◌, Float}
use Rattle.std.specs.Float.Ieee.{lt, eq}
use Rattle.numbers.specs.Numbers.{◌⊕◌}
use Rattle.filling.specs.Columns.{column_at}
use Rattle.filling.specs.Shapes.{Shape, Planner, Copy, Standing}
use Rattle.filling.specs.Search.{Found, at, nowhere, ranges_of}

-- a place that an orientation's search found, with the clear height above it: right is x + b2, top is y + b3
pub record Choice : Type 0 where
  pub orientation : ℕ
  pub x : Float
  pub y : Float
  pub gap : Float
  pub right : Float
  pub top : Float

-- what orientation o found
unfoldable pub choice_of : Planner → ℕ → Shape → Found → List Choice
choice_of p o s nowhere = []
choice_of p o s (at c y g) =
    let x = column_at p.resolution (ranges_of p s) c in
    record { orientation = o; x = x; y = y; gap = g; right = x ⊕ s.bounds.right; top = y ⊕ s.bounds.top } ∷ []

-- what the orientations from o on found, in the listed order
unfoldable pub choices : Planner → ℕ → List Shape → List Found → List Choice
choices p o [] fs = []
choices p o (s ∷ ss) [] = []
choices p o (s ∷ ss) (f ∷ fs) = choice_of p o s f ++ choices p (suc o) ss fs

-- "the smallest x + b2 wins, then the smallest y + b3"
unfoldable pub wins : Choice → Choice → Bool
wins a b = lt a.right b.right || eq a.right b.right && lt a.top b.top

-- ", then the first listed": a later one replaces the best only if it wins
unfoldable pub best : Choice → List Choice → Choice
best a [] = a
best a (b ∷ bs) = elim (wins b a) [ true ↦ best b bs | false ↦ best a bs ]

-- "The winner stands"
unfoldable pub standing_at : Copy → Choice → Standing
standing_at k c = record { copy = k; orientation = c.orientation; x = c.x; y = c.y; gap = c.gap }
