-- For inner functions' contracts only: how far a layout's strips reach, copy by copy, out of the tables and the shapes room. Definitions only. Assumes nothing.
use Rattle.std.specs.Prelude.{ℕ, zero, suc, ◌+◌, ◌*◌, ◌≡◌, ◌&&◌, cond, get_or, ltb, Float}
use mathlib.Core.List.{List, [], foldl}
use Rattle.std.specs.Float.{nan}
use Rattle.numbers.specs.Numbers.{◌⊕◌, larger}
use Rattle.trapezoid.specs.Strip.{strip_at, capacity, part_of}
use Rattle.index.specs.Buckets.{up_from}
use Rattle.filling.specs.Shapes.{Planner, shape_of}
use Rattle.filling.specs.State.{part_at}

-- the larger of a and the x1 of each of the first n strips of a part, moved by x
unfoldable pub reach_up_to : List Float → Float → Float → ℕ → Float
reach_up_to part x a n = foldl (λ r i. larger r ((strip_at part i).x1 ⊕ x)) a (up_from n 0)

-- of all of them
unfoldable pub reach_moved : List Float → Float → Float → Float
reach_moved part x a = reach_up_to part x a (capacity part)

-- the apart strips of orientation o of kind k; none where the tables have no such slot
unfoldable pub apart_at : List ℕ → List Float → ℕ → ℕ → List Float
apart_at parts shapes k o =
    let q = part_at parts (16 * k + o) in
    cond (ltb k 64 && ltb o 16) (part_of shapes q.apart_start q.apart_count) []

-- of a copy: its orientation's number is 1 + orientation, 0 for none
unfoldable pub reach_copy : List ℕ → List Float → ℕ → ℕ → Float → Float → Float
reach_copy parts shapes k zero x a = a
reach_copy parts shapes k (suc o) x a = reach_moved (apart_at parts shapes k o) x a

-- of the first n copies
unfoldable pub reach_to : List ℕ → List Float → List ℕ → List ℕ → List Float → Float → ℕ → Float
reach_to parts shapes order orientation x a zero = a
reach_to parts shapes order orientation x a (suc n) =
    reach_copy parts shapes (get_or order n 0) (get_or orientation n 0) (get_or x n nan) (reach_to parts shapes order orientation x a n)

-- a planner's apart strips lie so in the shapes room
abbrev pub Parted : Planner → List ℕ → List Float → Type 0
Parted p parts shapes = (k o : ℕ) → (shape_of p k o).apart ≡ apart_at parts shapes k o
