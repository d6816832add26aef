-- Inner functions' contracts only: how the work tables lie, and strips strips_stored in a room from strip number `from` on. Definitions only. Assumes nothing.
use Rattle.std.specs.Prelude.{Option, Some, None, ℕ, ◌+◌, ◌-◌, ◌*◌, ◌≤◌, true, false, not, cond, List, [], ◌∷◌, ◌++◌, ◌≡◌, Float, length, take, drop, ltb}
use Rattle.std.specs.Float.Ieee.{eq}
use Rattle.slabs.specs.declared.Edge.{Edge}
use Rattle.trapezoid.specs.declared.Trapezoid.{Trapezoid}
use Rattle.trapezoid.specs.Strip.{flat, capacity}

-- the edges that are not vertical
unfoldable pub slanted : List Edge → List Edge
slanted [] = []
slanted (e ∷ es) = elim (not (eq e.px e.qx)) [ true ↦ e ∷ slanted es | false ↦ slanted es ]

-- the loops lie in n points: each begins where the one before ends, and the last ends at n
unfoldable pub Loops : ℕ → List ℕ → ℕ → Type 0
Loops first [] n = first ≡ n
Loops first (e ∷ es) n = (first ≤ e) × (e ≤ n) × Loops e es n

pub record Stowed : Type 0 where
  pub answer : Option ℕ
  pub room : List Float

-- the room with the strips ss from number `from` on; what stood before and after them stays
unfoldable pub strips_laid : List Trapezoid → List Float → ℕ → List Float
strips_laid ss room from = take (6 * from) room ++ (flat ss ++ drop (6 * (from + length ss)) room)

-- "20: strips to be strips_stored exceed the lent strip room"; then those that fit are strips_laid
unfoldable pub strips_stored : List Trapezoid → List Float → ℕ → Stowed
strips_stored ss room from = record {
  answer = cond (ltb (capacity room) (from + length ss)) None (Some (length ss));
  room = strips_laid (take (capacity room - from) ss) room from;
}
