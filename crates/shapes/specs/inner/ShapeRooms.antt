-- For inner functions' contracts only: the shapes room and the tables by slot, once the shapes are laid. Definitions only. Assumes nothing.
use Rattle.std.specs.Prelude.{Option, Some, None, ℕ, ◌≤◌, ◌<◌, ◌≡◌, Float}
use mathlib.Core.List.{List, ◌++◌, map, flat_map}
use Rattle.trapezoid.specs.Strip.{capacity}
use Rattle.filling.specs.Shapes.{Shape}
use Rattle.filling.specs.Rooms.{laid}
use Rattle.filling.specs.State.{flat_parts, flat_bounds}
use Rattle.filling.specs.Start.{parts_from}

-- the rooms and tables after the shapes of ss are laid, or that they do not fit
abbrev pub ShapesAre : Option (ℕ × ℕ) → List Shape → List Float → List Float → List Float → List ℕ → Type 0
ShapesAre (Some (a, b)) ss shapes₀ shapes bounds parts =
    (a ≡ capacity (flat_map (λ s. s.apart) ss))
    × (b ≡ capacity (flat_map (λ s. s.inset) ss))
    × (capacity (flat_map (λ s. s.apart) ss ++ flat_map (λ s. s.inset) ss) ≤ capacity shapes₀)
    × (shapes ≡ laid (flat_map (λ s. s.apart) ss ++ flat_map (λ s. s.inset) ss) shapes₀)
    × (bounds ≡ flat_bounds (map (λ s. s.bounds) ss))
    × (parts ≡ flat_parts (parts_from 0 0 ss))
ShapesAre None ss shapes₀ shapes bounds parts = capacity shapes₀ < capacity (flat_map (λ s. s.apart) ss ++ flat_map (λ s. s.inset) ss)
