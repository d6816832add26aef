-- How points lie, for inner functions' contracts. No sentence of document 01 stands here. Assumes nothing.
use Rattle.std.specs.Prelude.{ℕ, ◌*◌, Bool, cond, List, [], ◌∷◌, get_or, Float}
use Rattle.std.specs.Float.{nan}

-- the x of point i, where points lie as x, y, x, y, ..
unfoldable pub x_at : List Float → ℕ → Float
x_at pts i = get_or pts (2 * i) nan

-- two numbers, or none
unfoldable pub sides : Bool → Float → Float → List Float
sides two left right = cond two (left ∷ right ∷ []) []
